-- The answer of an update of a table.
use Rattle.std.specs.Prelude.{Bool, cond, List, Result, Ok, Err}
use Rattle.time_table.specs.declared.Row.{Row}
use Rattle.time_table.specs.declared.Table.{Table}
use Rattle.time_table.specs.declared.TooManyRows.{TooManyRows}
use Rattle.time_table.specs.Rows.{table_of}

-- for the rows l that a table comes to: too many where it is over, and else the table of the rows
abbrev pub verdict : Bool → List Row → Result Table TooManyRows
verdict over l = cond over (Err (record {})) (Ok (table_of l))
