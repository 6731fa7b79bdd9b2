-- The questions: first fit, and the rows.
use Rattle.std.specs.Prelude.{cond, Option, option_map, Result, Ok, Err, ⊤, List, [], map, ℕ, ℤ, length, take}
use Rattle.time_table.specs.Held.{pad}
use Rattle.time_table.specs.Rows.{rows_of}
use Rattle.sweep.specs.declared.Task.{Task}
use Rattle.sweep.specs.Tasks.{tasks_of, task_at, lasts}
use Rattle.fit.specs.declared.Asked.{Asked}
use Rattle.fit.specs.FirstFit.{first_fit}
use Rattle.planner.specs.declared.Plan.{Plan}
use Rattle.planner.specs.declared.RowRecord.{RowRecord}
use Rattle.planner.specs.declared.Refusal.{Refusal}
use Rattle.planner.specs.declared.Refusal.TheVariants.{UnknownTask, Stale}
use Rattle.planner.specs.declared.Rows.{Rows}
use Rattle.planner.specs.Instants.{instant, amount}
use Rattle.planner.specs.Checks.{unless, ◌then◌}
use Rattle.planner.specs.Records.{record_of, no_record}
use Rattle.planner.specs.Updates.{known}

-- what a task asks with
abbrev pub asked_by : Task → Asked
asked_by k = record { earliest = k.earliest; latest = k.latest; run = lasts k; usage = k.usage }

-- a start that was found, in instants
abbrev pub start_of : Option ℕ → Option ℤ
start_of f = option_map instant f

-- first fit checks 7, 9
unfoldable pub fit_checked : Plan → ℤ → Result ⊤ Refusal
fit_checked plan id = unless UnknownTask (known plan.tasks.count id) then unless Stale plan.live

abbrev pub fit_by : Result ⊤ Refusal → Plan → ℤ → Result (Option ℤ) Refusal
fit_by (Ok _) plan id = Ok (start_of (first_fit (asked_by (task_at (tasks_of plan.tasks) (amount id))) plan.capacity (rows_of plan.table)))
fit_by (Err why) plan id = Err why

unfoldable pub fit_of : Plan → ℤ → Result (Option ℤ) Refusal
fit_of plan id = fit_by (fit_checked plan id) plan id

-- some rows as an answer has them
abbrev pub rows_with : List RowRecord → Rows
rows_with l = record { rows = pad 128 no_record l; count = length l }

-- the rows, in order; refused while the table is stale
unfoldable pub rows_shown : Plan → Result Rows Refusal
rows_shown plan = cond plan.live (Ok (rows_with (map record_of (rows_of plan.table)))) (Err Stale)

-- rows in order; those of an answer, none where it is refused
abbrev pub records_of : Rows → List RowRecord
records_of r = take r.count r.rows

abbrev pub shown_rows : Result Rows Refusal → List RowRecord
shown_rows (Ok r) = records_of r
shown_rows (Err why) = []
