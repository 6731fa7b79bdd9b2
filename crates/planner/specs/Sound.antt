-- A plan that is sound: its tasks are within the limits, and a live table is right for them.
-- Only this crate makes plans, and each that it hands out is sound.
use Rattle.std.specs.Prelude.{◌≡◌, true, false, [], ℕ, ◌≤◌, ◌<◌}
use Rattle.time_table.specs.declared.Table.{Table}
use Rattle.time_table.specs.Rows.{rows_of, table_of, Clean}
use Rattle.time_table.specs.Meaning.{Right}
use Rattle.sweep.specs.declared.Task.{Task}
use Rattle.sweep.specs.declared.Tasks.{Tasks}
use Rattle.sweep.specs.Tasks.{tasks_of, HeldTasks, task_at, usage_of, runs}
use Rattle.planner.specs.declared.Plan.{Plan}
use Rattle.planner.specs.Ranges.{max_duration, max_usage, max_capacity, last_start}

-- a task's numbers are within document 01's limits, in ticks, and it is none that is dropped
pub record Limited (k : Task) : Type 0 where
  pub ordered : k.earliest ≤ k.latest
  pub bound : k.latest ≤ last_start
  pub long : 0 < k.duration
  pub duration : k.duration ≤ max_duration
  pub draws : 0 < k.usage
  pub usage : k.usage ≤ max_usage

pub record SoundTasks (ts : Tasks) : Type 0 where
  pub held : HeldTasks ts
  pub limited : (i : ℕ) → i < ts.count → Limited (task_at (tasks_of ts) i)

-- a table that is right for these tasks
pub record Live (ts : Tasks) (t : Table) : Type 0 where
  pub clean : Clean t
  pub right : Right (runs (tasks_of ts)) (usage_of (tasks_of ts)) (rows_of t)

pub record Sound (plan : Plan) : Type 0 where
  pub tasks : SoundTasks plan.tasks
  pub capacity : plan.capacity ≤ max_capacity
  pub live : plan.live ≡ true → Live plan.tasks plan.table
  pub stale : plan.live ≡ false → plan.table ≡ table_of []
