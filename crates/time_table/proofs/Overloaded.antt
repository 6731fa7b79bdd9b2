-- The first row that is too high starts at the first instant that is: rows are in order, and where no row is the height is 0.
-- Assumes nothing.
use mathlib.Core.Path.{◌≡◌, refl}
use mathlib.Core.Bool.{Bool, true, false, cond}
use mathlib.Core.Logic.{⊎_elim}
use mathlib.Core.List.{List, [], ◌∷◌}
use Prim.Native.Nat.{ℕ, zero, suc, ◌≤◌, ◌<◌}
use native.Mathlib.Nat.{not-suc-le-zero, le_of_suc-le-suc}
use native.Mathlib.Omega.{arith}
use borrow.Author.Tests.{ltb-true, ltb-false}
use lib.Dec.{ltb}
use Rattle.std.specs.Prelude.{None, Some}
use lib.ListN.{length}
use Rattle.time_table.specs.declared.Row.{Row}
use Rattle.time_table.specs.Rows.{row_at}
use Rattle.time_table.specs.Order.{Ordered}
use Rattle.time_table.specs.Overload.{conflict_in, FirstOver, FirstInstantOver, NoneOver}
use Rattle.time_table.specs.Meaning.{height_at}
use Rattle.time_table.specs.Demand.{In}
use Rattle.time_table.proofs.Sums.{lt_or_le}
use Rattle.time_table.proofs.AtRow.{ordered_at, ordered_apart, summed_at, row_or_none}

module _ (capacity : ℕ) where
  pub conflict_row : (rows : List Row) (found : Row) → conflict_in capacity rows ≡ Some found → FirstOver capacity rows found
  unfolding conflict_in
  conflict_row [] found e = absurd (cc)
  conflict_row (r ∷ rs) found e = go (ltb capacity r.height) refl e (conflict_row rs found)
    where
      below : (at k : ℕ) → r.height ≤ capacity → ((j : ℕ) → j < at → (row_at rs j).height ≤ capacity) → k < suc at → (row_at (r ∷ rs) k).height ≤ capacity
      below at zero low first lt = low
      below at (suc k) low first lt = first k (le_of_suc-le-suc lt)

      go : (b : Bool) → ltb capacity r.height ≡ b → cond b (Some r) (conflict_in capacity rs) ≡ Some found → (conflict_in capacity rs ≡ Some found → FirstOver capacity rs found)
          → FirstOver capacity (r ∷ rs) found
      go true h e rec =
          let same : r ≡ found = cc in
          rw (← same) (record { at = 0; within = omega arith; is = refl; over = ltb-true capacity r.height h; first = λ k lt. absurd (not-suc-le-zero lt) })
      go false h e rec =
          let w = rec e in
          record { at = suc w.at; within = omega (arith, w.within); is = w.is; over = w.over; first = λ k lt. below w.at k (ltb-false capacity r.height h) w.first lt }

  pub conflict_none_over : (rows : List Row) → conflict_in capacity rows ≡ None → NoneOver capacity rows
  unfolding conflict_in
  conflict_none_over [] e = λ k lt. absurd (not-suc-le-zero lt)
  conflict_none_over (r ∷ rs) e = go (ltb capacity r.height) refl e (conflict_none_over rs)
    where
      each : r.height ≤ capacity → NoneOver capacity rs → (k : ℕ) → k < suc (length rs) → (row_at (r ∷ rs) k).height ≤ capacity
      each first low zero lt = first
      each first low (suc k) lt = low k (le_of_suc-le-suc lt)

      go : (b : Bool) → ltb capacity r.height ≡ b → cond b (Some r) (conflict_in capacity rs) ≡ None → (conflict_in capacity rs ≡ None → NoneOver capacity rs)
          → NoneOver capacity (r ∷ rs)
      go true h e rec = absurd (cc)
      go false h e rec = each (ltb-false capacity r.height h) (rec e)

  module _ (hi lo : ℕ) (rows : List Row) (o : Ordered hi lo rows) where
    -- what the height is at an instant: that of a row which has it, or nothing
    by_row : (t : ℕ) → ((k : ℕ) → In rows k t → (row_at rows k).height ≤ capacity) → height_at t rows ≤ capacity
    by_row t low =
        ⊎_elim
        (λ w. rw (summed_at (λ (r : Row). r.height) t hi lo rows w.place w.there.one_of o w.there.from w.there.to) (low w.place w.there))
        (λ none. rw (none (λ r. r.height)) (omega arith))
        (row_or_none t rows)

    pub conflict_fits : conflict_in capacity rows ≡ None → (t : ℕ) → height_at t rows ≤ capacity
    conflict_fits e t = by_row t (λ k w. conflict_none_over rows e k w.one_of)

    pub conflict_first : (found : Row) → conflict_in capacity rows ≡ Some found → FirstInstantOver capacity lo rows found
    conflict_first found e =
        let w = conflict_row rows found e in
        let lies = ordered_at hi lo rows w.at w.within o in
        let high = rw w.is at w.over in
        rw w.is
        (record {
          after = lies.0;
          high = high;
          height = summed_at (λ (r : Row). r.height) (row_at rows w.at).start hi lo rows w.at w.within o (omega arith) lies.1;
          before = λ t lt. by_row t (λ k v.
              ⊎_elim (w.first k)
              (λ le. ⊎_elim
              (λ less. absurd (omega (arith, ordered_apart hi lo rows w.at k o less v.one_of, v.from, lies)))
              (λ ge. let same : k ≡ w.at = omega arith in absurd (omega (arith, rw same at v.from)))
              (lt_or_le w.at k))
              (lt_or_le k w.at));
        })
