-- The loop's invariant of `first_fit`: the answer is the one of the candidate settled over the rows that are left.
-- Assumes nothing.
use Rattle.fit.proofs.RowPass.{Passing}
use Rattle.fit.proofs.first_fit.Given as goal

abbrev pub invariant-loop-row : goal.invariant-loop-row
invariant-loop-row l = Passing l.asked l.capacity l.row-items l.start l.row-index
