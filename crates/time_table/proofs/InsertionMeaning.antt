-- An insertion lists the task once more, and adds its usage, where the part is, and nothing elsewhere: a covered piece has the task joined, an
-- uncovered one has it alone, and a piece that is only cut off keeps what it had.
-- Assumes nothing.
use mathlib.Core.Path.{◌≡◌, sym, refl, ap}
use mathlib.Core.Bool.{cond}
use mathlib.Core.List.{List, [], ◌∷◌}
use Prim.Native.Nat.{ℕ, ◌+◌, ◌≤◌, min, max}
use native.Mathlib.Nat.{zero-add, add-zero}
use native.Mathlib.Omega.{arith}
use Rattle.time_table.specs.declared.Row.{Row}
use Rattle.time_table.specs.declared.Part.{Part}
use Rattle.time_table.specs.Rows.{spanned, tasks}
use Rattle.time_table.specs.Order.{Ordered}
use Rattle.time_table.specs.Insertion.{alone, joined, grown, started_at, past_row, insertion}
use Rattle.time_table.specs.Meaning.{has, summed, one, total, tally, height_at}
use Rattle.time_table.proofs.Sums.{summed_append, summed_cut, three, around}
use Rattle.time_table.proofs.Totals.{total_joined}

-- what an insertion adds to the sums at each instant: v where the part is, and nothing elsewhere
module _ (f : Row → ℕ) (t v : ℕ) (p : Part)
    (kept : (r : Row) (x y : ℕ) → f (spanned r x y) ≡ f r)
    (new : f (alone p) ≡ v)
    (join : (r : Row) → f (joined r p.id p.usage) ≡ f r + v)
  where
    insertion_sum : (hi lo x : ℕ) (rows : List Row) → Ordered hi lo rows → x ≤ p.until
        → summed f t (insertion (started_at p x) rows) ≡ summed f t rows + cond (has x p.until t) v 0
    unfolding insertion summed Ordered
    insertion_sum hi lo x [] o le = rw (summed_cut f t kept (alone p) x p.until, new) (sym (zero-add _))
    insertion_sum hi lo x (r ∷ rs) o le =
        let q = started_at p x in
        let s = r.start in
        let e = r.end + 1 in
        let g : summed f t (grown q r)
        ≡ cond (has x (min p.until s) t) v 0 + cond (has s (min x e) t) (f r) 0
        + cond (has (max x s) (min p.until e) t) (f r + v) 0 + cond (has (max p.until s) e t) (f r) 0 =
        simp (summed_append, summed_cut f t kept, new, join) in
        let past : past_row q r ≡ max x (min p.until e) = omega arith in
        rw (summed_append, insertion_sum hi (r.end + 1) (past_row q r) rs o.3 (omega arith))
        (omega (
          arith,
          g,
          three s x p.until e t (f r) (f r + v) le,
          around s x p.until e t v (f r) le (omega arith),
          ap (λ (n : ℕ). cond (has n p.until t) v 0) past,
        ))

module _ (p : Part) (hi lo t : ℕ) (rows : List Row) (sorted : Ordered hi lo rows) (some : p.from ≤ p.until) where
  -- of any share u of the tasks, as `one i` or the tasks' usages
  pub insertion_total : (u : ℕ → ℕ)
      → summed (λ (r : Row). total u (tasks r)) t (insertion p rows)
      ≡ summed (λ (r : Row). total u (tasks r)) t rows + cond (has p.from p.until t) (u p.id) 0
  unfolding total
  insertion_total u =
      insertion_sum (λ (r : Row). total u (tasks r)) t (u p.id) p (λ r x y. refl) (add-zero _) (λ r. total_joined u r p.id p.usage)
      hi lo p.from rows sorted some

  pub insertion_tally : (i : ℕ) → tally t i (insertion p rows) ≡ tally t i rows + cond (has p.from p.until t) (one i p.id) 0
  insertion_tally i = insertion_total (one i)

  pub insertion_height : height_at t (insertion p rows) ≡ height_at t rows + cond (has p.from p.until t) p.usage 0
  unfolding joined
  insertion_height = insertion_sum (λ (r : Row). r.height) t p.usage p (λ r x y. refl) refl (λ r. refl) hi lo p.from rows sorted some
