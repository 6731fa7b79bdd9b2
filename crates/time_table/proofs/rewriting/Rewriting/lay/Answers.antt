-- `lay` meets its contract: there is a free place, or one is made.
-- Assumes nothing.
use Rattle.std.proofs.Common.{arith, ◌+◌}
use Rattle.time_table.proofs.rewriting.Places.{Free, laid, free_there, free_up, free_up_to, free_hand}
use Rattle.time_table.proofs.rewriting.Rewriting.lay.Goals.{then-self+then-places-gt0, then-self+else-places-gt0+then-self-2+then-is_none, else-self}
use Rattle.time_table.proofs.rewriting.Rewriting.lay.Goals as goal

pub invariant_of-self : goal.invariant_of-self
invariant_of-self c =
    let i = c.self.invariant in
    let s = c.self.inside in
    let f : Free c.if-self.self-inside.table.rows c.if-self.self-inside.write c.if-self.self-inside.read c.if-self.self-inside.table.count c.if-self.self-inside.in_hand =
    elim c.if-self.branch [
      | then-self+then-places-gt0 w ↦ rw w.self-inside-is (rw w.copy_within.ensures.after (free_up_to s.table.rows s.read s.table.count (s.read + w.min-places.result) (free_up i w.if-self.true w.min-places.result w.if-places-gt0.true (omega (arith, w.min-places.ensures))) (omega arith)))
      | then-self+else-places-gt0+then-self-2+then-is_none w ↦ rw w.self-inside-is (free_hand i w.if-self.true _ (omega (arith, w.if-self-2.true, i.within)) (omega (arith, w.min-places.ensures, w.if-places-gt0.false)))
      | else-self w ↦ rw w.self-inside-is (free_there i w.if-self.false)
    ] in
    laid f c.args.row
