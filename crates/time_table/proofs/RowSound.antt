-- The edits keep each row right by itself.
-- Assumes nothing.
use mathlib.Core.Path.{◌≡◌, refl, sym, ap}
use mathlib.Core.Logic.{⊎_elim}
use mathlib.Core.List.{List, [], ◌∷◌, ◌++◌}
use Prim.Native.Nat.{ℕ, ◌+◌, ◌-◌, ◌≤◌, ◌<◌, min, max}
use native.Mathlib.Decide.{ℕ_discrete}
use native.Mathlib.Omega.{arith}
use lib.ListN.{length, length-append, length-take}
use Rattle.time_table.specs.declared.Row.{Row}
use Rattle.time_table.specs.declared.Part.{Part}
use Rattle.time_table.specs.Rows.{row_of, tasks, Listed, spanned, cut}
use Rattle.time_table.specs.Order.{Each}
use Rattle.time_table.specs.Insertion.{alone, joined, grown, started_at, past_row, insertion, Insertable}
use Rattle.time_table.specs.Removal.{position, taken_out, without, lessened, reduced, removal, Removable}
use Rattle.time_table.specs.Meaning.{total, Sound}
use Rattle.time_table.proofs.Held.{held_as}
use Rattle.time_table.proofs.Cut.{cut_none, cut_some}
use Rattle.time_table.proofs.Sums.{lt_or_le}
use Rattle.time_table.proofs.Totals.{tasks_row_of, total_joined, total_without}
use Rattle.time_table.proofs.CoveredPiece.{lessened_flat, lessened_is}

module _ (P : Row → Type 0) where
  pub each_none : Each P []
  unfolding Each
  each_none = tt

  pub each_append : (xs ys : List Row) → Each P xs → Each P ys → Each P (xs ++ ys)
  unfolding Each
  each_append [] ys o q = q
  each_append (x ∷ xs) ys o q = (o.0, each_append xs ys o.1 q)

  -- a cut row, where there is something left of it
  pub each_cut : (r : Row) (x y : ℕ) → (x < y → P (spanned r x y)) → Each P (cut r x y)
  unfolding Each
  each_cut r x y o = ⊎_elim (λ lt. rw (cut_some r x y lt) (o lt, tt)) (λ ge. rw (cut_none r x y ge) tt) (lt_or_le x y)

pub sound_span : (usage : ℕ → ℕ) (r : Row) (x y : ℕ) → Sound usage r → Sound usage (spanned r x y)
sound_span usage r x y o = record { listed = o.listed; high = o.high; some = o.some }

total_some : (u : ℕ → ℕ) (xs : List ℕ) → 0 < total u xs → 0 < length xs
unfolding total
total_some u [] lt = lt
total_some u (x ∷ xs) lt = omega arith

listed_row_of : (s e h : ℕ) (ts : List ℕ) → length ts ≤ 32 → Listed (row_of s e h ts)
listed_row_of s e h ts le = held_as (record { is = refl; counts = refl; fits = le }) (sym (tasks_row_of s e h ts))

module _ (usage : ℕ → ℕ) (p : Part) (same : p.usage ≡ usage p.id) where
  sound_alone : Sound usage (alone p)
  unfolding total
  sound_alone = record { listed = listed_row_of 0 0 p.usage (p.id ∷ []) (omega arith); high = omega arith; some = omega arith }

  sound_joined : (r : Row) → Sound usage r → r.count < 32 → Sound usage (joined r p.id p.usage)
  unfolding joined
  sound_joined r o lt =
      let longer : length (tasks r ++ p.id ∷ []) ≡ length (tasks r) + 1 = length-append (tasks r) (p.id ∷ []) in
      record {
        listed = listed_row_of r.start r.end (r.height + p.usage) (tasks r ++ p.id ∷ []) (omega (arith, o.listed.counts));
        high = omega (arith, total_joined usage r p.id p.usage, o.high);
        some = omega arith;
      }

  -- `Each` stays shut here, so that antt finds the lists
  grown_sound : (x : ℕ) (r : Row) → p.from ≤ x → Sound usage r → Insertable p r → Each (Sound usage) (grown (started_at p x) r)
  grown_sound x r le o can =
      let S = Sound usage in
      let s = r.start in
      let e = r.end + 1 in
      let b = p.until in
      each_append S _ _
      (each_append S _ _
      (each_append S _ _
      (each_cut S (alone p) x (min b s) (λ lt. sound_span usage (alone p) x (min b s) sound_alone))
      (each_cut S r s (min x e) (λ lt. sound_span usage r s (min x e) o)))
      (each_cut S (joined r p.id p.usage) (max x s) (min b e)
      (λ lt. sound_span usage _ (max x s) (min b e) (sound_joined r o (can.there (omega arith)).0))))
      (each_cut S r (max b s) e (λ lt. sound_span usage r (max b s) e o))

  pub insertion_sound : (x : ℕ) (rows : List Row) → p.from ≤ x → Each (Sound usage) rows → Each (Insertable p) rows → Each (Sound usage) (insertion (started_at p x) rows)
  unfolding insertion Each
  insertion_sound x [] le o can = each_cut (Sound usage) (alone p) x p.until (λ lt. sound_span usage (alone p) x p.until sound_alone)
  insertion_sound x (r ∷ rs) le o can =
      each_append (Sound usage) (grown (started_at p x) r) (insertion (started_at p (past_row (started_at p x) r)) rs) (grown_sound x r le o.0 can.0)
      (insertion_sound (past_row (started_at p x) r) rs (omega arith) o.1 can.1)

  sound_without : (r : Row) → Sound usage r → (position p.id (tasks r) < r.count) × (p.usage ≤ r.height) → (r.height ≡ p.usage → ⊥) → Sound usage (without r p.id p.usage)
  unfolding without
  sound_without r o can ne =
      let ts = taken_out p.id (tasks r) in
      let less = total_without usage r p.id p.usage (omega (arith, o.listed.counts)) in
      let is = tasks_row_of r.start r.end (r.height - p.usage) ts in
      let left : r.height - p.usage ≡ total usage ts = omega (arith, less, o.high, ap (total usage) is) in
      record {
        listed = listed_row_of r.start r.end (r.height - p.usage) ts (rw length-take (omega (arith, o.listed.counts, o.listed.fits)));
        high = rw is left;
        some = total_some usage ts (omega (arith, left));
      }

  reduced_sound : (r : Row) → Sound usage r → Removable p r → Each (Sound usage) (reduced p r)
  reduced_sound r o can =
      let S = Sound usage in
      let s = r.start in
      let e = r.end + 1 in
      let x = max p.from s in
      let y = min p.until e in
      let middle : Each S (lessened p r) =
      elim (ℕ_discrete r.height p.usage) [
        | yes f ↦ rw (lessened_flat p r f) (each_none S)
        | no ne ↦ rw (lessened_is p r ne) (each_cut S (without r p.id p.usage) x y (λ lt. sound_span usage _ x y (sound_without r o (can.there lt) ne)))
      ] in
      each_append S _ _
      (each_append S _ _ (each_cut S r s (min p.from e) (λ lt. sound_span usage r s (min p.from e) o)) middle)
      (each_cut S r (max p.until s) e (λ lt. sound_span usage r (max p.until s) e o))

  pub removal_sound : (rows : List Row) → Each (Sound usage) rows → Each (Removable p) rows → Each (Sound usage) (removal p rows)
  unfolding removal Each
  removal_sound [] o can = tt
  removal_sound (r ∷ rs) o can =
      each_append (Sound usage) (reduced p r) (removal p rs) (reduced_sound r o.0 can.0) (removal_sound rs o.1 can.1)
