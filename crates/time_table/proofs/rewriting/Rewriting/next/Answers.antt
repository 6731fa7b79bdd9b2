-- `next` meets its contract: where no row is in hand the next one is the first of the array's.
-- Assumes nothing.
use Rattle.std.proofs.Common.{arith, sym, ap, ◌∙◌}
use Rattle.time_table.specs.Rows.{no_row}
use Rattle.time_table.specs.Rewriting.{Rewritten}
use Rattle.time_table.proofs.rewriting.Places.{range_next}
use Rattle.time_table.proofs.rewriting.Rewriting.next.Goals as goal

pub returns-clause-unread : goal.returns-clause-unread
returns-clause-unread c =
    let i = c.self.invariant in
    let first = range_next c.self.inside.table.rows c.self.inside.read c.self.inside.table.count no_row (omega (arith, c.if-self.false)) (omega (arith, i.size, i.fits)) in
    sym (ap (λ (r : Rewritten). r.unread) c.self.view_is) ∙ rw c.in_default.is first
