-- Rows in arrays that hold them, and each row's ids in an array that holds them.
use Rattle.std.specs.Prelude.{ℕ, ◌<◌, take, get_or}
use Rattle.time_table.specs.Held.{Held}
use Rattle.planner.specs.declared.RowRecord.{RowRecord}
use Rattle.planner.specs.declared.Rows.{Rows}
use Rattle.planner.specs.Records.{ids_of, no_record}

abbrev pub HeldIds : RowRecord → Type 0
HeldIds r = Held 32 0 r.ids r.count (ids_of r)

-- of the answer to a question for the rows, whatever a read past the last one gives
pub record Shown (rows : Rows) : Type 0 where
  pub held : Held 128 no_record rows.rows rows.count (take rows.count rows.rows)
  pub ids : (d : RowRecord) (i : ℕ) → i < rows.count → HeldIds (get_or rows.rows i d)
