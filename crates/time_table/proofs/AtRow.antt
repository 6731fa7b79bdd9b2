-- What the sums at an instant say of the one row that contains it.
-- Assumes nothing.
use mathlib.Core.Path.{◌≡◌, refl}
use mathlib.Core.Logic.{◌⊎◌, inl, inr, ⊎_elim}
use mathlib.Core.List.{List, [], ◌∷◌}
use Prim.Native.Nat.{ℕ, zero, suc, ◌+◌, ◌≤◌, ◌<◌}
use native.Mathlib.Nat.{not-suc-le-zero, le_of_suc-le-suc}
use native.Mathlib.Omega.{arith}
use lib.ListN.{length}
use Rattle.time_table.specs.declared.Row.{Row}
use Rattle.time_table.specs.Rows.{row_at}
use Rattle.time_table.specs.Order.{Ordered, Each}
use Rattle.time_table.specs.Meaning.{has, summed}
use Rattle.time_table.specs.Demand.{RowOf}
use Rattle.time_table.proofs.Sums.{has_in, has_below, has_above, by_place}
use Rattle.time_table.proofs.Bits.{cond_same}

pub each_at : (P : Row → Type 0) (rows : List Row) (k : ℕ) → k < length rows → Each P rows → P (row_at rows k)
unfolding Each
each_at P [] k lt o = absurd (not-suc-le-zero lt)
each_at P (r ∷ rs) zero lt o = o.0
each_at P (r ∷ rs) (suc k) lt o = each_at P rs k (le_of_suc-le-suc lt) o.1

pub each_of : (P : Row → Type 0) (rows : List Row) → ((k : ℕ) → k < length rows → P (row_at rows k)) → Each P rows
unfolding Each
each_of P [] at = tt
each_of P (r ∷ rs) at = (at 0 (omega arith), each_of P rs (λ k lt. at (suc k) (omega arith)))

-- where a row of an ordered list lies
pub ordered_at : (hi lo : ℕ) (rows : List Row) (k : ℕ) → k < length rows → Ordered hi lo rows
    → (lo ≤ (row_at rows k).start) × ((row_at rows k).start ≤ (row_at rows k).end) × ((row_at rows k).end < hi)
unfolding Ordered
ordered_at hi lo [] k lt o = absurd (not-suc-le-zero lt)
ordered_at hi lo (r ∷ rs) zero lt o = (o.0, o.1, o.2)
ordered_at hi lo (r ∷ rs) (suc k) lt o =
    let w = ordered_at hi (r.end + 1) rs k (le_of_suc-le-suc lt) o.3 in
    (omega arith, w.1, w.2)

-- of two rows the later starts after the earlier has ended
pub ordered_apart : (hi lo : ℕ) (rows : List Row) (j k : ℕ) → Ordered hi lo rows → j < k → k < length rows → (row_at rows j).end < (row_at rows k).start
unfolding Ordered
ordered_apart hi lo [] j k o lt in-it = absurd (not-suc-le-zero in-it)
ordered_apart hi lo (r ∷ rs) j zero o lt in-it = absurd (not-suc-le-zero lt)
ordered_apart hi lo (r ∷ rs) zero (suc k) o lt in-it = omega (arith, ordered_at hi (r.end + 1) rs k (le_of_suc-le-suc in-it) o.3)
ordered_apart hi lo (r ∷ rs) (suc j) (suc k) o lt in-it = ordered_apart hi (r.end + 1) rs j k o.3 (le_of_suc-le-suc lt) (le_of_suc-le-suc in-it)

module _ (f : Row → ℕ) (t : ℕ) where
  pub summed_before : (hi lo : ℕ) (rows : List Row) → Ordered hi lo rows → t < lo → summed f t rows ≡ 0
  unfolding summed Ordered
  summed_before hi lo [] o lt = refl
  summed_before hi lo (r ∷ rs) o lt =
      rw (has_below r.start (r.end + 1) t (omega arith)) (omega (arith, summed_before hi (r.end + 1) rs o.3 (omega arith)))

  pub summed_at : (hi lo : ℕ) (rows : List Row) (k : ℕ) → k < length rows → Ordered hi lo rows → (row_at rows k).start ≤ t → t ≤ (row_at rows k).end
      → summed f t rows ≡ f (row_at rows k)
  unfolding summed Ordered
  summed_at hi lo [] k lt o l r = absurd (not-suc-le-zero lt)
  summed_at hi lo (r ∷ rs) zero lt o l h =
      rw (has_in r.start (r.end + 1) t l (omega arith)) (omega (arith, summed_before hi (r.end + 1) rs o.3 (omega arith)))
  summed_at hi lo (r ∷ rs) (suc k) lt o l h =
      let w = ordered_at hi (r.end + 1) rs k (le_of_suc-le-suc lt) o.3 in
      rw (has_above r.start (r.end + 1) t (omega arith)) (omega (arith, summed_at hi (r.end + 1) rs k (le_of_suc-le-suc lt) o.3 l h))

-- a sum of w over the rows at an instant that some row contains is w, since no other contains it
pub summed_const : (f : Row → ℕ) (t w hi lo : ℕ) (rows : List Row) → Ordered hi lo rows → 0 < summed f t rows → summed (λ (r : Row). w) t rows ≡ w
unfolding summed Ordered
summed_const f t w hi lo [] o lt = absurd (not-suc-le-zero lt)
summed_const f t w hi lo (r ∷ rs) o lt =
    by_place r.start (r.end + 1) t
    (λ h.
    let none = summed_before f t hi (r.end + 1) rs o.3 (omega arith) in
    let out = has_below r.start (r.end + 1) t h in
    absurd (not-suc-le-zero (rw (out, none) at lt)))
    (λ l h. rw (has_in r.start (r.end + 1) t l h) (omega (arith, summed_before (λ (r : Row). w) t hi (r.end + 1) rs o.3 h)))
    (λ h.
    let out = has_above r.start (r.end + 1) t h in
    let later : 0 < summed f t rs = omega (arith, rw out at lt) in
    rw out (omega (arith, summed_const f t w hi (r.end + 1) rs o.3 later)))

pub summed_zero : (t : ℕ) (rows : List Row) → summed (λ (r : Row). 0) t rows ≡ 0
unfolding summed
summed_zero t [] = refl
summed_zero t (r ∷ rs) = omega (arith, summed_zero t rs, cond_same {A = ℕ} (has r.start (r.end + 1) t) 0)

-- an instant is in a row, or adds nothing to any sum
pub row_or_none : (t : ℕ) (rows : List Row) → RowOf rows t ⊎ ((f : Row → ℕ) → summed f t rows ≡ 0)
unfolding summed
row_or_none t [] = inr (λ f. refl)
row_or_none t (r ∷ rs) =
    let later = row_or_none t rs in
    by_place r.start (r.end + 1) t
    (λ h. ⊎_elim (λ w. inl (behind w)) (λ none. inr (λ f. rw (has_below r.start (r.end + 1) t h, none f))) later)
    (λ l h. inl (record { place = 0; there = record { one_of = omega arith; from = l; to = omega arith } }))
    (λ h. ⊎_elim (λ w. inl (behind w)) (λ none. inr (λ f. rw (has_above r.start (r.end + 1) t h, none f))) later)
  where
    behind : RowOf rs t → RowOf (r ∷ rs) t
    behind w = record { place = suc w.place; there = record { one_of = omega (arith, w.there.one_of); from = w.there.from; to = w.there.to } }
