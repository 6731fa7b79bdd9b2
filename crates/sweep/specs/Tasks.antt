-- Tasks, in ticks. A task's id is its place.
use Rattle.std.specs.Prelude.{Bool, List, ℕ, ◌+◌, ◌<◌, ◌^◌, length, take, get_or}
use Rattle.time_table.specs.declared.Part.{Part}
use Rattle.time_table.specs.Held.{Held, pad}
use Rattle.time_table.specs.Meaning.{has}
use Rattle.sweep.specs.declared.Task.{Task}
use Rattle.sweep.specs.declared.Tasks.{Tasks}

-- a task with nothing in it. It has no part, and so is in no table
abbrev pub no_task : Task
no_task = record { earliest = 0; latest = 0; duration = 0; usage = 0 }

-- how many tasks there is room for
abbrev pub room_for_tasks : ℕ
room_for_tasks = 32

-- the tasks of a struct, in the order of their ids; and the struct of some tasks, whose unused places are 0
abbrev pub tasks_of : Tasks → List Task
tasks_of ts = take ts.count ts.list

abbrev pub tasks_with : List Task → Tasks
tasks_with l = record { list = pad room_for_tasks no_task l; count = length l }

abbrev pub HeldTasks : Tasks → Type 0
HeldTasks ts = Held room_for_tasks no_task ts.list ts.count (tasks_of ts)

-- the task with the id i
abbrev pub task_at : List Task → ℕ → Task
task_at ts i = get_or ts i no_task

abbrev pub usage_of : List Task → ℕ → ℕ
usage_of ts i = (task_at ts i).usage

abbrev pub latest_of : List Task → ℕ → ℕ
latest_of ts i = (task_at ts i).latest

-- how long a task runs
abbrev pub lasts : Task → ℕ
lasts k = k.duration

-- where a run from the earliest start ends, which is the first instant after it
abbrev pub run_end : Task → ℕ
run_end k = k.earliest + lasts k

-- a task's mandatory part is the instants from its latest start up to but without the end of its earliest run
abbrev pub part_of : ℕ → Task → Part
part_of i k = record { from = k.latest; until = run_end k; id = i; usage = k.usage }

abbrev pub in_part : Task → ℕ → Bool
in_part k t = has k.latest (run_end k) t

-- whether the task i must run at the instant t
abbrev pub runs : List Task → ℕ → ℕ → Bool
runs ts i t = in_part (task_at ts i) t

-- tasks that a table can be swept from: at most 32, each ends at a tick, and 32 usages fit a height
pub record Sweepable (ts : Tasks) : Type 0 where
  pub held : HeldTasks ts
  pub ends : (i : ℕ) → run_end (task_at (tasks_of ts) i) < 2 ^ 32
  pub small : (i : ℕ) → usage_of (tasks_of ts) i < 2 ^ 27
