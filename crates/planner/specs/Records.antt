-- Rows as a caller gets them: signed instants, and the rest as it is.
use Rattle.std.specs.Prelude.{List, [], ℕ, pos, take}
use Rattle.time_table.specs.declared.Row.{Row}
use Rattle.time_table.specs.Held.{pad}
use Rattle.planner.specs.declared.RowRecord.{RowRecord}
use Rattle.planner.specs.Instants.{instant}

abbrev pub record_of : Row → RowRecord
record_of r = record { start = instant r.start; end = instant r.end; height = r.height; ids = r.ids; count = r.count }

-- its ids, in order
abbrev pub ids_of : RowRecord → List ℕ
ids_of r = take r.count r.ids

-- the record of nothing
abbrev pub no_record : RowRecord
no_record = record { start = pos 0; end = pos 0; height = 0; ids = pad 32 0 []; count = 0 }

-- what a list of records has past its end, as the code's reads have it
abbrev pub no_row : RowRecord
no_row = record { start = pos 0; end = pos 0; height = 0; ids = []; count = 0 }
