-- The answer of a load or an update: "overloaded" with the first row that is too high, if there is one, and else "fits".
use Rattle.std.specs.Prelude.{cond, true, Option, Some, None, is_some, is_none, Result, Ok, Err, List, [], ℕ}
use Rattle.time_table.specs.declared.Row.{Row}
use Rattle.time_table.specs.Rows.{table_of}
use Rattle.time_table.specs.Overload.{conflict_in}
use Rattle.sweep.specs.declared.Task.{Task}
use Rattle.sweep.specs.Tasks.{tasks_with}
use Rattle.sweep.specs.Sweep.{sweep}
use Rattle.planner.specs.declared.Plan.{Plan}
use Rattle.planner.specs.declared.RowRecord.{RowRecord}
use Rattle.planner.specs.declared.Refusal.{Refusal}
use Rattle.planner.specs.declared.Answer.{Answer}
use Rattle.planner.specs.declared.Answer.TheVariants.{Fits, Overloaded}
use Rattle.planner.specs.declared.Updated.{Updated}
use Rattle.planner.specs.Records.{record_of, no_record}

abbrev pub answer_of : Option Row → Result Answer Refusal
answer_of (Some r) = Ok Overloaded
answer_of None = Ok Fits

abbrev pub shown_row : Option Row → RowRecord
shown_row (Some r) = record_of r
shown_row None = no_record

-- a fresh plan has no tasks, capacity 0 and a live, empty table
abbrev pub fresh_plan : Plan
fresh_plan = record { capacity = 0; tasks = tasks_with []; live = true; table = table_of [] }

-- the plan of these tasks whose table is live and has these rows, overloaded or not
abbrev pub live_plan : ℕ → List Task → List Row → Updated
live_plan capacity ts rows =
    record {
      answer = answer_of (conflict_in capacity rows);
      row = shown_row (conflict_in capacity rows);
      plan = record { capacity = capacity; tasks = tasks_with ts; live = true; table = table_of rows };
    }

-- the plan of these tasks, swept: if that is overloaded the table is stale and has no rows, and else its rows make the table live
abbrev pub swept_plan : ℕ → List Task → Updated
swept_plan capacity ts =
    record {
      answer = answer_of (conflict_in capacity (sweep ts));
      row = shown_row (conflict_in capacity (sweep ts));
      plan =
          record {
            capacity = capacity;
            tasks = tasks_with ts;
            live = is_none (conflict_in capacity (sweep ts));
            table = table_of (cond (is_some (conflict_in capacity (sweep ts))) [] (sweep ts));
          };
    }

-- a plan afterwards, with what is answered of it
abbrev pub outcome_with : Plan → Result Answer Refusal × RowRecord → Updated
outcome_with plan said = record { answer = said.0; row = said.1; plan = plan }

-- a refusal leaves the plan as it was
abbrev pub refused_update : Plan → Refusal → Updated
refused_update plan why = record { answer = Err why; row = no_record; plan = plan }
