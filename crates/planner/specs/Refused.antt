-- Document 01's table for each call: when it is refused with which number, and when it is accepted. Each call is judged exactly so, which is
-- proved (proofs/Refused.antt).
use Rattle.std.specs.Prelude.{◌≡◌, true, false, List, [], ◌∷◌, ◌++◌, map, ◌⊎◌, ℕ, suc, ◌≤◌, ◌<◌, ℤ, pos, length, get_or, take}
use Rattle.std.specs.Int.Signed.{le_z, lt_z}
use Rattle.time_table.specs.declared.Row.{Row}
use Rattle.time_table.specs.declared.Part.{Part}
use Rattle.time_table.specs.Rows.{rows_of}
use Rattle.time_table.specs.Adjustments.{removed_parts, added_parts}
use Rattle.time_table.specs.Insertion.{insertion}
use Rattle.time_table.specs.Removal.{removal}
use Rattle.sweep.specs.Tasks.{tasks_of, task_at, part_of}
use Rattle.planner.specs.declared.Job.{Job}
use Rattle.planner.specs.declared.Jobs.{Jobs}
use Rattle.planner.specs.declared.Plan.{Plan}
use Rattle.planner.specs.Refusals.{Verdict, admitted, refused}
use Rattle.planner.specs.Ranges.{InRange, capacities}
use Rattle.planner.specs.Instants.{tick, amount}
use Rattle.planner.specs.Given.{BoundsGiven, JobGiven, no_job}
use Rattle.planner.specs.Loads.{jobs_of}
use Rattle.planner.specs.Updates.{bounded}

-- the job at the place k is accepted
abbrev pub JobTaken : List Job → ℕ → Type 0
JobTaken js k = JobGiven (get_or js k no_job) admitted

-- the first job in input order that is not accepted, and what is bad about it
pub record FirstJob (Bad : Job → Type 0) (js : List Job) : Type 0 where
  pub place : ℕ
  pub inside : place < length js
  pub bad : Bad (get_or js place no_job)
  pub before : (k : ℕ) → k < place → JobTaken js k

-- the same, by the number of its refusal
abbrev pub FirstOut : List Job → ℕ → Type 0
FirstOut js n = FirstJob (λ (j : Job). JobGiven j (refused n)) js

-- a load: 1, 2, then job by job in input order 3, 4, 5, 6
pub data LoadGiven (jobs : Jobs) (capacity : ℤ) : Verdict → Type 0 where
  too_many : 32 < jobs.count → LoadGiven jobs capacity (refused 1)
  bad_capacity : jobs.count ≤ 32 → ¬ InRange capacities capacity → LoadGiven jobs capacity (refused 2)
  bad_job : {n : ℕ} → jobs.count ≤ 32 → InRange capacities capacity → FirstOut (jobs_of jobs) n → LoadGiven jobs capacity (refused n)
  load_in : jobs.count ≤ 32 → InRange capacities capacity → ((k : ℕ) → k < length (jobs_of jobs) → JobTaken (jobs_of jobs) k) → LoadGiven jobs capacity admitted

-- a task has this id, or none has: the ids are the numbers from 0 up to but without the number of tasks
pub record HasTask (plan : Plan) (id : ℤ) : Type 0 where
  pub low : le_z (pos 0) id ≡ true
  pub high : lt_z id (pos plan.tasks.count) ≡ true

abbrev pub NoTask : Plan → ℤ → Type 0
NoTask plan id = (lt_z id (pos 0) ≡ true) ⊎ (le_z (pos plan.tasks.count) id ≡ true)

-- the edits of a table by an update, in their order: a removal for each removed part, then an insertion for each added one
abbrev pub Edit : Type 0
Edit = List Row → List Row

abbrev pub edits_of : Part → Part → List Edit
edits_of old new = map removal (removed_parts old new) ++ map insertion (added_parts old new)

abbrev pub edits_by : Plan → ℤ → ℤ → ℤ → List Edit
edits_by plan id earliest latest =
    let k = task_at (tasks_of plan.tasks) (amount id) in
    edits_of (part_of (amount id) k) (part_of (amount id) (bounded k (tick earliest) (tick latest)))

-- the rows after these edits, one after another
unfoldable pub editing : List Edit → List Row → List Row
editing [] rows = rows
editing (e ∷ es) rows = editing es (e rows)

-- after some one of them there are over 128 rows
pub record OverAfter (es : List Edit) (rows : List Row) : Type 0 where
  pub place : ℕ
  pub inside : place < length es
  pub over : 128 < length (editing (take (suc place) es) rows)

-- an update: 7, 3, 4, 8
pub data UpdateGiven (plan : Plan) (id earliest latest : ℤ) : Verdict → Type 0 where
  not_there : NoTask plan id → UpdateGiven plan id earliest latest (refused 7)
  bad_bounds : {n : ℕ} → HasTask plan id → BoundsGiven earliest latest (refused n) → UpdateGiven plan id earliest latest (refused n)
  too_long : HasTask plan id → BoundsGiven earliest latest admitted → plan.live ≡ true
      → OverAfter (edits_by plan id earliest latest) (rows_of plan.table) → UpdateGiven plan id earliest latest (refused 8)
  update_in : HasTask plan id → BoundsGiven earliest latest admitted
      → (plan.live ≡ true → ¬ OverAfter (edits_by plan id earliest latest) (rows_of plan.table)) → UpdateGiven plan id earliest latest admitted

-- a question for the first fit: 7, 9
pub data FitGiven (plan : Plan) (id : ℤ) : Verdict → Type 0 where
  nobody : NoTask plan id → FitGiven plan id (refused 7)
  fit_stale : HasTask plan id → plan.live ≡ false → FitGiven plan id (refused 9)
  fit_in : HasTask plan id → plan.live ≡ true → FitGiven plan id admitted

-- a question for the rows: 9
pub data RowsGiven (plan : Plan) : Verdict → Type 0 where
  rows_stale : plan.live ≡ false → RowsGiven plan (refused 9)
  rows_in : plan.live ≡ true → RowsGiven plan admitted
