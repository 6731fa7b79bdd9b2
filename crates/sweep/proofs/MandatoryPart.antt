-- A task's part has exactly the instants that no start avoids: the latest start is the last to come to an instant, and the run from the
-- earliest start the first to be over.
-- Assumes nothing.
use mathlib.Core.Path.{◌≡◌, sym, ◌∙◌}
use mathlib.Core.Bool.{true, true≢false}
use Prim.Native.Nat.{ℕ, ◌≤◌}
use native.Mathlib.Omega.{arith}
use Rattle.time_table.specs.Meaning.{has}
use Rattle.time_table.proofs.Sums.{has_in, has_below, has_above, by_place}
use Rattle.sweep.specs.declared.Task.{Task}
use Rattle.sweep.specs.Tasks.{part_of}
use Rattle.sweep.specs.MandatoryPart.{Unavoidable}

module _ (i : ℕ) (k : Task) (t : ℕ) where
  pub part_unavoidable : has (part_of i k).from (part_of i k).until t ≡ true → Unavoidable k t
  part_unavoidable e s low high =
      by_place (part_of i k).from (part_of i k).until t
      (λ h. absurd (true≢false (sym e ∙ has_below _ _ t h)))
      (λ l h. (omega arith, omega arith))
      (λ h. absurd (true≢false (sym e ∙ has_above _ _ t h)))

  pub unavoidable_part : k.earliest ≤ k.latest → Unavoidable k t → has (part_of i k).from (part_of i k).until t ≡ true
  unavoidable_part le all =
      let first = all k.earliest (omega arith) le in
      let last = all k.latest le (omega arith) in
      has_in (part_of i k).from (part_of i k).until t (omega arith) (omega arith)
