-- `Jobs::keep` meets its contract: a job is stored behind the others where there is room, and else counted.
-- Assumes nothing.
use borrow.Author.Tests.{lt-ltb, le-ltb}
use Rattle.planner.specs.Kept.{keeping}
use Rattle.planner.proofs.Jobs.keep.Goals as goal

pub returns-then-count-lt-JOBS : goal.returns-then-count-lt-JOBS
unfolding keeping
returns-then-count-lt-JOBS c = rw (lt-ltb _ _ c.if-count-lt-JOBS.true)

pub returns-else-count-lt-JOBS : goal.returns-else-count-lt-JOBS
unfolding keeping
returns-else-count-lt-JOBS c = rw (le-ltb _ _ c.if-count-lt-JOBS.false)
