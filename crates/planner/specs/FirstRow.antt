-- The row shown with an answer: the first row that is higher than the capacity, if there is one. That each call shows it is proved
-- (proofs/FirstRow.antt).
use Rattle.std.specs.Prelude.{◌≡◌, true, false, Ok, List, ℕ}
use Rattle.time_table.specs.declared.Row.{Row}
use Rattle.time_table.specs.Rows.{rows_of}
use Rattle.time_table.specs.Overload.{FirstOver, NoneOver}
use Rattle.sweep.specs.Tasks.{tasks_of}
use Rattle.sweep.specs.Sweep.{sweep}
use Rattle.planner.specs.declared.RowRecord.{RowRecord}
use Rattle.planner.specs.declared.Answer.TheVariants.{Fits, Overloaded}
use Rattle.planner.specs.declared.Updated.{Updated}
use Rattle.planner.specs.Records.{record_of}

-- what is shown is the first of the rows that is higher than the capacity
pub record FirstShown (capacity : ℕ) (rows : List Row) (shown : RowRecord) : Type 0 where
  pub row : Row
  pub is : shown ≡ record_of row
  pub first : FirstOver capacity rows row

-- after a call
pub record ShowsFirst (o : Updated) : Type 0 where
  -- overloaded, and the table is live afterwards: the first of its rows
  pub live : o.answer ≡ Ok Overloaded → o.plan.live ≡ true → FirstShown o.plan.capacity (rows_of o.plan.table) o.row
  -- overloaded, and the table is stale: the first of the sweep's rows
  pub stale : o.answer ≡ Ok Overloaded → o.plan.live ≡ false → FirstShown o.plan.capacity (sweep (tasks_of o.plan.tasks)) o.row
  -- fits: there is none
  pub none : o.answer ≡ Ok Fits → NoneOver o.plan.capacity (rows_of o.plan.table)
