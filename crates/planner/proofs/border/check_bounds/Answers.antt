-- `check_bounds` meets its contract: its tests are the definition's, in the same order.
-- Assumes nothing.
use mathlib.Core.Bool.{and-false}
use Rattle.planner.specs.Ranges.{bounds}
use Rattle.planner.specs.Checks.{bounds_checked}
use Rattle.planner.proofs.Signed.{range_read, less_read}
use Rattle.planner.proofs.border.check_bounds.Goals as goal

pub returns-then-not-in_range : goal.returns-then-not-in_range
unfolding bounds_checked
returns-then-not-in_range c = rw (range_read bounds c.ranges.earliest c.in_range.ensures c.if-not-in_range.true)

pub returns-then-not-in_range-2 : goal.returns-then-not-in_range-2
unfolding bounds_checked
returns-then-not-in_range-2 c = rw (range_read bounds c.ranges.latest c.in_range-2.ensures c.if-not-in_range-2.true, and-false)

-- where the order is left to test, the answer is its test's
pub returns-then-latest-earliest : goal.returns-then-latest-earliest
unfolding bounds_checked
returns-then-latest-earliest c =
    rw (
      range_read bounds c.ranges.earliest c.in_range.ensures c.if-not-in_range.false,
      range_read bounds c.ranges.latest c.in_range-2.ensures c.if-not-in_range-2.false,
      less_read c.args.latest c.args.earliest c.ranges.latest c.ranges.earliest c.if-latest-earliest.true,
    )

pub returns : goal.returns
unfolding bounds_checked
returns c =
    rw (
      range_read bounds c.ranges.earliest c.in_range.ensures c.if-not-in_range.false,
      range_read bounds c.ranges.latest c.in_range-2.ensures c.if-not-in_range-2.false,
      less_read c.args.latest c.args.earliest c.ranges.latest c.ranges.earliest c.if-latest-earliest.false,
    )
