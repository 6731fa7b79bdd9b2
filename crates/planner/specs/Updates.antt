-- An update: from the plan, an id and bounds to the answer and the plan afterwards.
use Rattle.std.specs.Prelude.{Bool, cond, ◌&&◌, Option, Some, None, Result, Ok, Err, ⊤, ℕ, ltb, ℤ, pos, set}
use Rattle.std.specs.Int.Signed.{le_z}
use Rattle.time_table.specs.Rows.{rows_of}
use Rattle.time_table.specs.Update.{update_over, updated_rows}
use Rattle.sweep.specs.declared.Task.{Task}
use Rattle.sweep.specs.Tasks.{tasks_of, task_at, part_of}
use Rattle.planner.specs.declared.Plan.{Plan}
use Rattle.planner.specs.declared.Refusal.{Refusal}
use Rattle.planner.specs.declared.Refusal.TheVariants.{UnknownTask, TooManyRows}
use Rattle.planner.specs.declared.Updated.{Updated}
use Rattle.planner.specs.Instants.{tick, amount}
use Rattle.planner.specs.Checks.{unless, ◌then◌, bounds_checked}
use Rattle.planner.specs.Answers.{live_plan, swept_plan, refused_update}

-- of so many tasks, one has this id
unfoldable pub known : ℕ → ℤ → Bool
known count id = le_z (pos 0) id && ltb (amount id) count

-- its place among them, if one has it
abbrev pub known_place : ℕ → ℤ → Option ℕ
known_place count id = cond (known count id) (Some (amount id)) None

-- update checks 7, 3, 4, and then 8
unfoldable pub update_checked : Plan → ℤ → ℤ → ℤ → Result ⊤ Refusal
update_checked plan id earliest latest = unless UnknownTask (known plan.tasks.count id) then bounds_checked earliest latest

-- a task with other bounds
abbrev pub bounded : Task → ℕ → ℕ → Task
bounded k earliest latest = record { earliest = earliest; latest = latest; duration = k.duration; usage = k.usage }

-- the task i of a live plan becomes k: all removed parts and then all added ones; refused if after some one part there are over 128 rows
unfoldable pub live_update : Plan → ℕ → Task → Updated
live_update plan i k =
    let ts = tasks_of plan.tasks in
    let old = part_of i (task_at ts i) in
    let rows = rows_of plan.table in
    cond (update_over old (part_of i k) rows) (refused_update plan TooManyRows) (live_plan plan.capacity (set ts i k) (updated_rows old (part_of i k) rows))

-- the task i of a stale plan becomes k: the tasks are swept again
abbrev pub stale_update : Plan → ℕ → Task → Updated
stale_update plan i k = swept_plan plan.capacity (set (tasks_of plan.tasks) i k)

unfoldable pub accepted_update : Plan → ℕ → ℕ → ℕ → Updated
accepted_update plan i earliest latest =
    let k = bounded (task_at (tasks_of plan.tasks) i) earliest latest in
    cond plan.live (live_update plan i k) (stale_update plan i k)

abbrev pub updated_by : Result ⊤ Refusal → Plan → ℤ → ℤ → ℤ → Updated
updated_by (Ok _) plan id earliest latest = accepted_update plan (amount id) (tick earliest) (tick latest)
updated_by (Err why) plan id earliest latest = refused_update plan why

unfoldable pub updated : Plan → ℤ → ℤ → ℤ → Updated
updated plan id earliest latest = updated_by (update_checked plan id earliest latest) plan id earliest latest
