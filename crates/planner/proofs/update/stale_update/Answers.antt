-- `stale_update` meets its contract: the tasks with the new one in its place are swept.
-- Assumes nothing.
use mathlib.Core.Path.{◌≡◌, sym, ap, ◌∙◌}
use Rattle.sweep.specs.Tasks.{tasks_of, task_at}
use Rattle.planner.specs.Answers.{swept_plan}
use Rattle.planner.specs.Updates.{bounded}
use Rattle.planner.proofs.UpdatedPlan.{read_is, stored_sound, stored_tasks, accepted_by}
use Rattle.planner.proofs.update.stale_update.Goals as goal
use Rattle.planner.proofs.update.stale_update.Goals.{After-rebounded}

new_is : (c : After-rebounded)
    → c.rebounded.result ≡ bounded (task_at (tasks_of c.args.plan.now.tasks) c.args.id) c.args.bounds.earliest c.args.bounds.latest
new_is c =
    let q = c.requires in
    rw (read_is c.args.plan.now c.requires.0 c.args.id c.args.bounds.earliest c.args.bounds.latest q.2 c.args.bounds.ordered c.args.bounds.low) at c.rebounded.ensures

pub swept_plan-swept-requires : goal.swept_plan-swept-requires
swept_plan-swept-requires c =
    let q = c.requires in
    (stored_sound c.args.plan.now c.requires.0 c.args.id c.args.bounds.earliest c.args.bounds.latest q.2 c.args.bounds.ordered c.args.bounds.low _ (new_is (goal.at.swept_plan-swept-requires c).After-rebounded), c.requires.0.capacity)

pub returns : goal.returns
returns c =
    let q = c.requires in
    let led =
    c.swept_plan-swept.ensures.value
    ∙ ap (swept_plan c.args.plan.now.capacity) (stored_tasks c.args.plan.now c.requires.0 c.args.id c.args.bounds.earliest c.args.bounds.latest q.2 c.args.bounds.ordered c.args.bounds.low _ (new_is (goal.at.returns c).After-rebounded))
    ∙ sym (accepted_by c.args.plan.now c.args.id c.args.bounds.earliest c.args.bounds.latest q.1) in
    record { value = led; sound = c.swept_plan-swept.ensures.sound }
