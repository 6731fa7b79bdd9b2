-- `tick_of` meets its contract: of a start bound in range the sum is not negative and is the tick.
-- Assumes nothing.
use mathlib.Core.Path.{◌≡◌, ap, ◌∙◌}
use native.Mathlib.Omega.{arith}
use lib.IntN.{ℤ, pos, nat_abs, ◌+ℤ◌}
use mir.Syntax.{w32}
use mir.Val.{SFits, to_z, of_z}
use mir.Facts.{to_z-of_z}
use Rattle.planner.specs.Ranges.{InRange, bounds, max_bound}
use Rattle.planner.specs.Instants.{tick}
use Rattle.planner.proofs.Ticks.{tick_sum}
use Rattle.planner.proofs.Accepted.{tick_top}
use Rattle.planner.proofs.border.tick_of.Goals as goal

module _ (bound : ℤ) (fits : SFits w32 bound) (within : InRange bounds bound) where
  sum : to_z w32 (of_z w32 bound) +ℤ pos max_bound ≡ pos (tick bound)
  sum = ap (λ (z : ℤ). z +ℤ pos max_bound) (to_z-of_z fits) ∙ tick_sum bound within.low

  sum_fits : SFits w32 (to_z w32 (of_z w32 bound) +ℤ pos max_bound)
  sum_fits = rw sum (record { sfits = omega (arith, tick_top within) })

pub overflow_add-bound : goal.overflow_add-bound
overflow_add-bound c = sum_fits c.args.bound c.ranges.bound c.requires

pub returns : goal.returns
returns c =
    c.unsigned_abs.ensures.value ∙ ap nat_abs (to_z-of_z (sum_fits c.args.bound c.ranges.bound c.requires) ∙ sum c.args.bound c.ranges.bound c.requires)
