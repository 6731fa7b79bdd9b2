-- `has_overlap_with_interval` meets its contract: its two tests are the definition's.
-- Assumes nothing.
use borrow.Author.Tests.{lt-ltb, le-ltb}
use Rattle.time_table.proofs.time_table_util.has_overlap_with_interval.Goals as goal

pub returns-then-start-upper : goal.returns-then-start-upper
returns-then-start-upper c = rw (lt-ltb _ _ c.if-start-upper.true)

pub returns-else-start-upper : goal.returns-else-start-upper
returns-else-start-upper c = rw (le-ltb _ _ c.if-start-upper.false)
