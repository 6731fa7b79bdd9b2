-- A load: from the jobs and the capacity to the answer, what became of each job, and the plan afterwards.
use Rattle.std.specs.Prelude.{◌≡◌, Option, Result, Ok, Err, ⊤, List, [], map, ℕ, ◌≤◌, leb, ℤ, take}
use Rattle.time_table.specs.Held.{pad}
use Rattle.sweep.specs.declared.Task.{Task}
use Rattle.sweep.specs.Created.{created, created_from, dropped}
use Rattle.planner.specs.declared.Job.{Job}
use Rattle.planner.specs.declared.Jobs.{Jobs}
use Rattle.planner.specs.declared.Plan.{Plan}
use Rattle.planner.specs.declared.Refusal.{Refusal}
use Rattle.planner.specs.declared.Refusal.TheVariants.{TooManyJobs}
use Rattle.planner.specs.declared.Updated.{Updated}
use Rattle.planner.specs.declared.Loaded.{Loaded}
use Rattle.planner.specs.Instants.{tick, amount}
use Rattle.planner.specs.Checks.{unless, ◌then◌, jobs_checked, capacity_checked}
use Rattle.planner.specs.Answers.{swept_plan, refused_update}

-- the jobs of a load, and a job's numbers as those of a task
abbrev pub jobs_of : Jobs → List Job
jobs_of jobs = take jobs.count jobs.list

abbrev pub task_of : Job → Task
task_of j = record { earliest = tick j.earliest; latest = tick j.latest; duration = amount j.duration; usage = amount j.usage }

-- load checks 1, 2, then job by job in input order 3, 4, 5, 6, before any job is dropped
unfoldable pub load_checked : Jobs → ℤ → Result ⊤ Refusal
load_checked jobs capacity =
    unless TooManyJobs (leb jobs.count 32)
    then capacity_checked capacity
    then jobs_checked (jobs_of jobs)

-- what a load leads to, with what became of its jobs
abbrev pub with_places : List (Option ℕ) → Updated → Loaded
with_places placed u = record { answer = u.answer; row = u.row; placed = placed; plan = u.plan }

-- a load replaces the plan and sweeps
unfoldable pub accepted_load : Jobs → ℤ → Loaded
accepted_load jobs capacity = with_places (created_from (map task_of (jobs_of jobs))).placed (swept_plan (amount capacity) (created (map task_of (jobs_of jobs))))

-- a refused load leaves it as it was
abbrev pub refused_load : Plan → Refusal → Loaded
refused_load plan why = with_places (pad 32 dropped []) (refused_update plan why)

abbrev pub loaded_by : Result ⊤ Refusal → Plan → Jobs → ℤ → Loaded
loaded_by (Ok _) plan jobs capacity = accepted_load jobs capacity
loaded_by (Err why) plan jobs capacity = refused_load plan why

unfoldable pub loaded : Plan → Jobs → ℤ → Loaded
loaded plan jobs capacity = loaded_by (load_checked jobs capacity) plan jobs capacity

-- jobs that are checked
pub record Loadable (jobs : Jobs) : Type 0 where
  pub few : jobs.count ≤ 32
  pub checked : jobs_checked (jobs_of jobs) ≡ Ok tt
