-- `check_capacity` meets its contract: its test is the definition's.
-- Assumes nothing.
use Rattle.planner.specs.Checks.{capacity_checked}
use Rattle.planner.proofs.Signed.{range_read}
use Rattle.planner.proofs.border.check_capacity.Goals as goal

pub returns-then-in_range : goal.returns-then-in_range
unfolding capacity_checked
returns-then-in_range c = rw (range_read _ c.ranges.capacity c.in_range.ensures c.if-in_range.true)

pub returns-else-in_range : goal.returns-else-in_range
unfolding capacity_checked
returns-else-in_range c = rw (range_read _ c.ranges.capacity c.in_range.ensures c.if-in_range.false)
