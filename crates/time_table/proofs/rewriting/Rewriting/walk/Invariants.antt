-- The loop's invariant of `walk`, and its measure: the rows that are not read yet.
-- Assumes nothing.
use Rattle.std.proofs.Common.{◌++◌, length}
use Rattle.time_table.specs.PartByPart.{stepped}
use Rattle.time_table.proofs.rewriting.Walked.{Walked}
use Rattle.time_table.proofs.rewriting.Rewriting.walk.Given as goal

abbrev pub invariant-loop-row : goal.invariant-loop-row
invariant-loop-row l = Walked (l.fn.self.written ++ stepped l.fn.step l.fn.self.unread) l.step l.self

abbrev pub decreases-loop-row : goal.decreases-loop-row
decreases-loop-row l = length l.self.unread
