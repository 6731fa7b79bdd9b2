-- `accepted_load` meets its contract: the tasks of accepted jobs are within the limits, and their sweep is the plan.
-- Assumes nothing.
use mathlib.Core.Path.{◌≡◌, ap, ◌∙◌}
use mathlib.Core.List.{map}
use Prim.Native.Nat.{ℕ}
use lib.IntN.{ℤ}
use mir.Syntax.{w32}
use mir.Val.{SFits, to_z, of_z}
use mir.Facts.{to_z-of_z}
use Rattle.sweep.specs.declared.util.Created.{Created}
use Rattle.sweep.specs.declared.Tasks.{Tasks}
use Rattle.sweep.specs.Tasks.{tasks_of, tasks_with}
use Rattle.sweep.specs.Created.{created, created_from}
use Rattle.planner.specs.declared.Jobs.{Jobs}
use Rattle.planner.specs.Instants.{amount}
use Rattle.planner.specs.Answers.{swept_plan}
use Rattle.planner.specs.Loads.{jobs_of, task_of, with_places, accepted_load}
use Rattle.planner.proofs.Accepted.{capacity_accepted}
use Rattle.planner.proofs.LoadedTasks.{tasks_held, jobs_few, loaded_sound}
use Rattle.planner.proofs.Known.{tasks_of_lem}
use Rattle.planner.proofs.load.accepted_load.Goals as goal

-- the tasks made of the jobs
module _ (jobs : Jobs) (ts : Tasks) (r : Created) (taken : ts ≡ tasks_with (map task_of (jobs_of jobs))) (told : r ≡ created_from (tasks_of ts)) where
  made : r ≡ created_from (map task_of (jobs_of jobs))
  made = told ∙ ap created_from (ap tasks_of taken ∙ tasks_of_lem _)

  tasks : tasks_of r.tasks ≡ created (map task_of (jobs_of jobs))
  tasks = ap (λ (x : Created). tasks_of x.tasks) made ∙ tasks_of_lem _

number : (capacity : ℤ) {n : ℕ} → SFits w32 capacity → n ≡ amount (to_z w32 (of_z w32 capacity)) → n ≡ amount capacity
number capacity fits told = told ∙ ap amount (to_z-of_z fits)

pub tasks_of-requires : goal.tasks_of-requires
tasks_of-requires c = c.requires.0

pub create_tasks-created-requires : goal.create_tasks-created-requires
create_tasks-created-requires c = rw c.tasks_of.ensures (tasks_held (map task_of (jobs_of c.args.jobs)) (jobs_few c.args.jobs c.requires.0))

pub swept_plan-requires : goal.swept_plan-requires
swept_plan-requires c =
    (rw (made c.args.jobs c.tasks_of.result c.create_tasks-created.result c.tasks_of.ensures c.create_tasks-created.ensures) (loaded_sound c.args.jobs c.requires.0), rw (number c.args.capacity c.ranges.capacity c.amount_of.ensures) (capacity_accepted c.requires.1).top)

pub returns : goal.returns
unfolding accepted_load
returns c =
    let u : c.swept_plan.result ≡ swept_plan (amount c.args.capacity) (created (map task_of (jobs_of c.args.jobs))) =
    c.swept_plan.ensures.value ∙ (λ i. swept_plan (number c.args.capacity c.ranges.capacity c.amount_of.ensures i) (tasks c.args.jobs c.tasks_of.result c.create_tasks-created.result c.tasks_of.ensures c.create_tasks-created.ensures i)) in
    let made-of = made c.args.jobs c.tasks_of.result c.create_tasks-created.result c.tasks_of.ensures c.create_tasks-created.ensures in
    record {
      value = c.with_places.ensures ∙ (λ i. with_places (made-of i).placed (u i));
      sound = rw c.with_places.ensures c.swept_plan.ensures.sound;
    }
