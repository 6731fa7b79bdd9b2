-- First fit over signed instants: the smallest start within the task's bounds such that at every instant of the run from there, table height plus
-- the task's usage is at most the capacity. That first fit answers so is proved (proofs/FitInstants.antt).
use Rattle.std.specs.Prelude.{◌≡◌, true, cond, ◌&&◌, List, [], ◌∷◌, map, ℕ, ◌+◌, ◌≤◌, ℤ, pos, ◌+ℤ◌}
use Rattle.std.specs.Int.Signed.{le_z, lt_z}
use Rattle.time_table.specs.Rows.{rows_of}
use Rattle.sweep.specs.declared.Task.{Task}
use Rattle.sweep.specs.Tasks.{tasks_of, task_at, lasts}
use Rattle.planner.specs.declared.Plan.{Plan}
use Rattle.planner.specs.declared.RowRecord.{RowRecord}
use Rattle.planner.specs.Instants.{instant, amount}
use Rattle.planner.specs.Records.{record_of}

-- the height at a signed instant of rows as a caller gets them: 0 where no row is
unfoldable pub height_then : List RowRecord → ℤ → ℕ
height_then [] t = 0
height_then (r ∷ rs) t = cond (le_z r.start t && le_z t r.end) r.height 0 + height_then rs t

-- the task with this id
abbrev pub task_with : Plan → ℤ → Task
task_with plan id = task_at (tasks_of plan.tasks) (amount id)

-- z is a start within the task's bounds at which the run fits
pub record FitsAt (plan : Plan) (k : Task) (z : ℤ) : Type 0 where
  pub early : le_z (instant k.earliest) z ≡ true
  pub late : le_z z (instant k.latest) ≡ true
  pub fits : (t : ℤ) → le_z z t ≡ true → lt_z t (z +ℤ pos (lasts k)) ≡ true → height_then (map record_of (rows_of plan.table)) t + k.usage ≤ plan.capacity

-- z is the smallest such start
pub record FirstAt (plan : Plan) (k : Task) (z : ℤ) : Type 0 where
  pub fit : FitsAt plan k z
  pub least : (y : ℤ) → FitsAt plan k y → le_z z y ≡ true
