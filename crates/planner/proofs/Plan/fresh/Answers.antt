-- `Plan::fresh` meets its contract: no tasks are within the limits, and the empty table is right for them.
-- Assumes nothing.
use mathlib.Core.Path.{refl}
use Rattle.planner.proofs.Fresh.{fresh_sound}
use Rattle.planner.proofs.Plan.fresh.Goals as goal

pub returns : goal.returns
returns c = rw (c.empty.ensures, c.empty-2.ensures) (record { value = refl; sound = fresh_sound })
