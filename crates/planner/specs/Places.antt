-- What an accepted load answers for each input job: that it is dropped, or the id under which it is known from then on.
use Rattle.std.specs.Prelude.{◌≡◌, ◌⊎◌, Option, ℕ, pos, get_or}
use Rattle.sweep.specs.Tasks.{tasks_of, task_at}
use Rattle.sweep.specs.Created.{dropped}
use Rattle.planner.specs.declared.Job.{Job}
use Rattle.planner.specs.declared.Jobs.{Jobs}
use Rattle.planner.specs.declared.Plan.{Plan}
use Rattle.planner.specs.declared.Loaded.{Loaded}
use Rattle.planner.specs.Given.{no_job}
use Rattle.planner.specs.Loads.{jobs_of, task_of}
use Rattle.planner.specs.Refused.{HasTask}

-- the job at the place i of the input, and the answer for it
abbrev pub input_at : Jobs → ℕ → Job
input_at jobs i = get_or (jobs_of jobs) i no_job

abbrev pub place_of : Loaded → ℕ → Option ℕ
place_of l i = get_or l.placed i dropped

-- a job with usage 0 or duration 0
abbrev pub Idle : Job → Type 0
Idle j = (j.usage ≡ pos 0) ⊎ (j.duration ≡ pos 0)

-- a job has this id after a load: the plan has a task with it, which is the job in ticks
pub record KnownAs (id : ℕ) (j : Job) (plan : Plan) : Type 0 where
  pub there : HasTask plan (pos id)
  pub task : task_at (tasks_of plan.tasks) id ≡ task_of j
