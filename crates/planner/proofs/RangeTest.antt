-- The test of a range holds for the numbers in it, and for no other.
-- Assumes nothing.
use mathlib.Core.Path.{◌≡◌, sym, ◌∙◌}
use mathlib.Core.Bool.{true, false, true≢false}
use mathlib.Core.Logic.{⊎_elim}
use lib.IntN.{ℤ}
use lib.Signed.{le_z}
use Rattle.time_table.proofs.Bits.{both}
use Rattle.planner.specs.Ranges.{Range, in_range, InRange}
use Rattle.planner.proofs.Tests.{by_test}

module _ {r : Range} {z : ℤ} where
  pub range_test : InRange r z → in_range r z ≡ true
  unfolding in_range
  range_test h = rw (h.low, h.high)

  pub range_fact : in_range r z ≡ true → InRange r z
  unfolding in_range
  range_fact h =
      let p = both (le_z r.lo z) (le_z z r.hi) h in
      record { low = p.0; high = p.1 }

  pub range_none : in_range r z ≡ false → ¬ InRange r z
  range_none e h = true≢false (sym (range_test h) ∙ e)

  pub range_fails : ¬ InRange r z → in_range r z ≡ false
  range_fails out = ⊎_elim (λ h. absurd (out (range_fact h))) (λ h. h) (by_test (in_range r z))
