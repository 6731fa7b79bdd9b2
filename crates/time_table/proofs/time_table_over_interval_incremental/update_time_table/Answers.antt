-- `update_time_table` meets its contract: each step is made of what those before it leave, and the update is over where one of them is; the table is written at the end.
-- Assumes nothing.
use Rattle.std.proofs.Common.{Ok, ◌≡◌, ap, ◌∙◌, sym, refl, [], drop, length, arith, ◌<◌}
use Rattle.time_table.specs.Rewriting.{Applied}
use lib.ListN.{drop_of_length-le}
use Rattle.time_table.proofs.StepsInTurn.{doing_start, doing_next, doing_over, doing_all, doing_here, doing_gap, four_places, too_many}
use Rattle.time_table.proofs.time_table_over_interval_incremental.update_time_table.Goals.{in-Some+in_ok-apply, in_default}
use Rattle.time_table.proofs.time_table_over_interval_incremental.update_time_table.Goals as goal

pub loop-step-init : goal.loop-step-init
loop-step-init c =
    (rw (c.steps-step-items.ensures, c.of-rewriting.ensures.written) (doing_start c.args.old c.args.new c.args.table.now c.requires), c.of-rewriting.ensures.cleared)

pub returns-in_err-apply : goal.returns-in_err-apply
returns-in_err-apply c =
    let long = ap length c.steps-step-items.ensures ∙ four_places c.args.old c.args.new c.args.table.now in
    let here =
    doing_here c.steps-step-items.result c.loop-step.step-index (omega (arith, long, c.loop-step-test.true)) c.loop-step.invariant.0 c.in-Some.step c.in-Some.is in
    rw (too_many c.from_residual.result c.from_residual.ensures.0) (doing_over c.args.old c.args.new c.args.table.now here c.in_err-apply.ensures, refl)

pub loop-step-preserved : goal.loop-step-preserved
loop-step-preserved c =
    let long = ap length c.steps-step-items.ensures ∙ four_places c.args.old c.args.new c.args.table.now in
    let inside : c.loop-step.step-index < length c.steps-step-items.result = omega (arith, long, c.loop-step-test.true) in
    elim c.match-step.branch [
      | in-Some+in_ok-apply w ↦
          let here = doing_here c.steps-step-items.result c.loop-step.step-index inside c.loop-step.invariant.0 w.in-Some.step w.in-Some.is in
          let made : Applied w.in-Some.step c.loop-step.rewriting w.apply.new.self = w.in_ok-apply.ensures in
          (rw (w.rewriting-is, made.written) (doing_next c.args.old c.args.new c.args.table.now here (rw made.written at made.few)), rw w.rewriting-is made.cleared)
      | in_default w ↦ rw w.rewriting-is (doing_gap c.steps-step-items.result c.loop-step.step-index inside c.loop-step.invariant.0 w.in_default.is, c.loop-step.invariant.1)
    ]

pub returns : goal.returns
returns c =
    let long = ap length c.steps-step-items.ensures ∙ four_places c.args.old c.args.new c.args.table.now in
    let none : drop c.loop-step.step-index c.steps-step-items.result ≡ [] =
    drop_of_length-le c.steps-step-items.result {i = c.loop-step.step-index} (omega (arith, long, c.loop-step-test.false)) in
    sym (ap Ok c.table.ensures ∙ doing_all c.args.old c.args.new c.args.table.now (rw none at c.loop-step.invariant.0))
