-- `place_of` meets its contract: an id that is not negative is its own place, and there is a task below the count.
-- Assumes nothing.
use mathlib.Core.Path.{sym}
use native.Mathlib.Omega.{arith}
use mir.Facts.{to_z-of_z}
use Rattle.planner.proofs.Ids.{place_found, place_past, place_negative}
use Rattle.planner.proofs.border.place_of.Goals as goal

pub returns-in-Ok : goal.returns-in-Ok
returns-in-Ok c = sym (place_found c.args.count c.args.id c.in-Ok.place (rw (to_z-of_z c.ranges.id) at c.in-Ok.ensures) c.if-place-count.true)

pub returns-in_default : goal.returns-in_default
returns-in_default c = sym (place_past c.args.count c.args.id c.in-Ok.place (rw (to_z-of_z c.ranges.id) at c.in-Ok.ensures) c.if-place-count.false)

pub returns-in_default-2 : goal.returns-in_default-2
returns-in_default-2 c = sym (place_negative c.args.count c.args.id (omega arith) (rw (to_z-of_z c.ranges.id) at c.in_default.ensures))
