-- `in_range` meets its contract: the library's test of a range is that of the definition.
-- Assumes nothing.
use mathlib.Core.Path.{◌∙◌}
use mathlib.Core.Bool.{◌&&◌}
use mir.Facts.{to_z-of_z}
use Rattle.planner.specs.Ranges.{in_range}
use Rattle.planner.proofs.Tests.{cmp_le}
use Rattle.planner.proofs.border.in_range.Goals as goal

pub returns : goal.returns
unfolding in_range
returns c =
    let x = c.args.x in
    simp (c.new.ensures.start, c.new.ensures.end, c.new.ensures.exhausted, to_z-of_z c.ranges.x, to_z-of_z c.ranges.lo, to_z-of_z c.ranges.hi) at c.contains.ensures.value
    ∙ (λ i. cmp_le c.args.lo x i && cmp_le x c.args.hi i)
