-- `first_fit` meets its contract: what ends the pass, and what one row does to it, are proofs/RowPass.antt's.
-- Assumes nothing.
use mathlib.Core.Path.{sym, ◌∙◌}
use native.Mathlib.Omega.{arith}
use borrow.Author.Tests.{ltb-true, ltb-false}
use Rattle.time_table.specs.Rows.{rows_of, row_at}
use Rattle.fit.proofs.CandidateStart.{over_none, moved_under, moved_high}
use Rattle.fit.proofs.RowPass.{pass_begins, pass_late, pass_ends, row_ends, pass_stops, pass_on}
use Rattle.fit.proofs.first_fit.Goals.{then-asked-start-via-then-asked-start, then-asked-start-via-else-asked-start+then-start-asked, then-blocks+else-asked-start+else-start-asked, else-blocks}
use Rattle.fit.proofs.first_fit.Goals as goal

pub returns-then-capacity-asked : goal.returns-then-capacity-asked
returns-then-capacity-asked c = sym (over_none c.args.asked c.args.capacity (rows_of c.args.table.now) c.if-capacity-asked.true)

pub loop-row-init : goal.loop-row-init
loop-row-init c = pass_begins c.args.asked c.args.capacity (rows_of c.args.table.now) c.requires.arranged.ordered c.if-capacity-asked.false

pub returns-then-asked-start : goal.returns-then-asked-start
returns-then-asked-start c =
    c.answer.ensures
    ∙ elim c.then-asked-start.branch [
      | then-asked-start-via-then-asked-start w ↦ pass_late c.loop-row.invariant w.if-asked-start.true
      | then-asked-start-via-else-asked-start+then-start-asked w ↦ pass_stops c.loop-row.invariant c.loop-row-test.true w.if-start-asked.true
    ]

pub overflow_add-row : goal.overflow_add-row
overflow_add-row c = omega (arith, row_ends c.loop-row.invariant c.loop-row-test.true)

pub loop-row-preserved : goal.loop-row-preserved
loop-row-preserved c =
    let row = row_at (rows_of c.args.table.now) c.loop-row.row-index in
    pass_on c.loop-row.invariant c.loop-row-test.true c.if-blocks.start
    (elim c.if-blocks.branch [
      | then-blocks+else-asked-start+else-start-asked w ↦
          let high = ltb-true c.args.capacity _ (sym c.blocks-in-loop-row.ensures ∙ w.if-blocks.true) in
          let moves = moved_high c.args.asked c.args.capacity c.loop-row.start row w.if-start-asked.false high in
          w.start-is ∙ omega (arith, w.max-start.ensures)
      | else-blocks w ↦
          let low = ltb-false c.args.capacity _ (sym c.blocks-in-loop-row.ensures ∙ w.if-blocks.false) in
          w.start-is ∙ sym (moved_under _ _ _ _ low)
    ])

pub returns : goal.returns
returns c = c.answer-2.ensures ∙ pass_ends c.loop-row.invariant c.loop-row-test.false
