-- `amount_of` meets its contract: the amount of a number is its absolute value.
-- Assumes nothing.
use mathlib.Core.Path.{ap, ◌∙◌}
use lib.IntN.{nat_abs}
use mir.Facts.{to_z-of_z}
use Rattle.planner.specs.Instants.{amount}
use Rattle.planner.proofs.border.amount_of.Goals as goal

pub returns : goal.returns
unfolding amount
returns c = c.unsigned_abs.ensures.value ∙ ap nat_abs (to_z-of_z c.ranges.x)
