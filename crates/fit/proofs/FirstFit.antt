-- The computed first fit is the first fit over instants, and nothing else is. A row that moves the candidate has an instant in the run
-- from every start that is passed over; and where the candidate comes to rest no row that is too high meets its run.
-- Assumes nothing.
use mathlib.Core.Path.{◌≡◌, refl, subst, ap}
use mathlib.Core.Logic.{⊎_elim}
use mathlib.Core.List.{List, [], ◌∷◌}
use Prim.Native.Nat.{ℕ, ◌+◌, ◌≤◌, ◌<◌, max}
use native.Mathlib.Omega.{arith}
use Rattle.std.proofs.Common.{Option, Some, None}
use Rattle.time_table.specs.declared.Row.{Row}
use Rattle.time_table.specs.Order.{Ordered}
use Rattle.time_table.specs.Meaning.{summed}
use Rattle.time_table.proofs.Sums.{has_in, has_below, has_above, by_place, lt_or_le}
use Rattle.time_table.proofs.AtRow.{summed_before}
use Rattle.fit.specs.declared.Asked.{Asked}
use Rattle.fit.specs.Fits.{Fits, IsFit, IsFirst, NoFit, IsFirstFit}
use Rattle.fit.specs.FirstFit.{seen, moved, settled, first_fit}
use Rattle.fit.proofs.CandidateStart.{moved_after, moved_before, moved_under, moved_behind, by_row, settled_grows, settled_before, answer_found, answer_none, over_none, room_some}

-- the two kinds of answer
none_is : {rows : List Row} {capacity : ℕ} {asked : Asked} → NoFit rows capacity asked → IsFirstFit rows capacity asked None
none_is w = record { some = λ s e. absurd (cc); none = λ e. w }

first_is : {rows : List Row} {capacity : ℕ} {asked : Asked} {s : ℕ} → IsFirst rows capacity asked s → IsFirstFit rows capacity asked (Some s)
first_is {s = s} w = record { some = λ s' e. let same : s ≡ s' = cc in subst (IsFirst _ _ _) same w; none = λ e. absurd (cc) }

module _ (asked : Asked) (capacity hi : ℕ) where
  -- a row that meets the run from where the candidate comes to rest is not too high
  met_under : (s t : ℕ) (r : Row) (rs : List Row) → Ordered hi (r.end + 1) rs
      → settled asked capacity (moved asked capacity s r) rs ≤ t → t < settled asked capacity (moved asked capacity s r) rs + asked.run
      → r.start ≤ t → t ≤ r.end → seen asked r + asked.usage ≤ capacity
  met_under s t r rs o from to start end =
      let grows = settled_grows asked capacity (moved asked capacity s r) rs in
      by_row asked capacity s r
      (λ h. absurd (omega (arith, moved_after asked capacity s r h)))
      (λ h.
      let stays = moved_before asked capacity s r h in
      absurd (omega (arith, settled_before asked capacity hi (r.end + 1) (moved asked capacity s r) rs o (omega arith))))
      (λ h. h)
      (λ l h high. absurd (omega (arith, moved_behind asked capacity s r l h high)))

  settled_fits : (lo s : ℕ) (rows : List Row) → Ordered hi lo rows → asked.usage ≤ capacity → Fits rows capacity asked (settled asked capacity s rows)
  unfolding settled summed Ordered
  settled_fits lo s [] o room t from to = omega arith
  settled_fits lo s (r ∷ rs) o room t from to =
      let later = settled_fits (r.end + 1) (moved asked capacity s r) rs o.3 room t from to in
      by_place r.start (r.end + 1) t
      (λ h. rw (has_below r.start (r.end + 1) t h) (omega arith))
      (λ l h. rw (has_in r.start (r.end + 1) t l h)
      (omega (arith, summed_before (seen asked) t hi (r.end + 1) rs o.3 h, met_under s t r rs o.3 from to l (omega arith))))
      (λ h. rw (has_above r.start (r.end + 1) t h) (omega arith))

  -- a run with an instant in a row that is too high does not fit
  blocked : (s t : ℕ) (r : Row) (rs : List Row) → s ≤ t → t < s + asked.run → r.start ≤ t → t ≤ r.end
      → capacity < seen asked r + asked.usage → Fits (r ∷ rs) capacity asked s → ⊥
  unfolding summed
  blocked s t r rs from to start end high fits =
      omega (arith, rw (has_in r.start (r.end + 1) t start (omega arith)) at (fits t from to))

  -- no start before the candidate's rest fits
  settled_least : (lo s : ℕ) (rows : List Row) → Ordered hi lo rows → 0 < asked.run
      → (s' : ℕ) → s ≤ s' → s' < settled asked capacity s rows → Fits rows capacity asked s' → ⊥
  unfolding settled summed Ordered
  settled_least lo s [] o some s' from to fits = omega arith
  settled_least lo s (r ∷ rs) o some s' from to fits =
      ⊎_elim
      (λ passed. by_row asked capacity s r
      (λ h. omega (arith, moved_after asked capacity s r h))
      (λ h. omega (arith, moved_before asked capacity s r h))
      (λ h. omega (arith, moved_under asked capacity s r h))
      (λ l h high.
      let to_end = moved_behind asked capacity s r l h high in
      blocked s' (max s' r.start) r rs (omega arith) (omega arith) (omega arith) (omega arith) high fits))
      (λ kept. settled_least (r.end + 1) (moved asked capacity s r) rs o.3 some s' kept to (λ t l h. omega (arith, fits t l h)))
      (lt_or_le s' (moved asked capacity s r))

  pub first_fit_is : (lo : ℕ) (rows : List Row) → Ordered hi lo rows → 0 < asked.run → IsFirstFit rows capacity asked (first_fit asked capacity rows)
  first_fit_is lo rows o some =
      ⊎_elim
      (λ over. rw (over_none asked capacity rows over) (none_is (λ s w. omega (arith, w.fits s (omega arith) (omega arith)))))
      (λ room. rw (room_some asked capacity rows room)
      (⊎_elim
      (λ late. rw (answer_none asked rest late) (none_is (λ s w. passed s w (omega (arith, w.late)))))
      (λ within. rw (answer_found asked rest within)
      (first_is (record {
        fit = record { early = settled_grows asked capacity asked.earliest rows; late = within; fits = settled_fits lo asked.earliest rows o room };
        least = λ s w. ⊎_elim (λ lt. absurd (passed s w lt)) (λ le. le) (lt_or_le s rest);
      })))
      (lt_or_le asked.latest rest)))
      (lt_or_le capacity asked.usage)
    where
      rest : ℕ
      rest = settled asked capacity asked.earliest rows

      passed : (s : ℕ) → IsFit rows capacity asked s → s < settled asked capacity asked.earliest rows → ⊥
      passed s w lt = settled_least lo asked.earliest rows o some s w.early lt w.fits

-- two answers that are the first fit are equal
pub first_fit_unique : (rows : List Row) (capacity : ℕ) (asked : Asked) (f g : Option ℕ) → IsFirstFit rows capacity asked f → IsFirstFit rows capacity asked g → f ≡ g
first_fit_unique rows capacity asked None None a b = refl
first_fit_unique rows capacity asked None (Some t) a b = absurd (a.none refl t (b.some t refl).fit)
first_fit_unique rows capacity asked (Some s) None a b = absurd (b.none refl s (a.some s refl).fit)
first_fit_unique rows capacity asked (Some s) (Some t) a b =
    let v = a.some s refl in
    let w = b.some t refl in
    let same : s ≡ t = omega (arith, v.least t w.fit, w.least s v.fit) in
    ap Some same
