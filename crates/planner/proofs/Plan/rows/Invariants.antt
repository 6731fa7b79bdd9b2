use mathlib.Core.List.{map}
use lib.ListN.{take}
use Rattle.time_table.specs.Held.{Held}
use Rattle.time_table.specs.Rows.{rows_of}
use Rattle.planner.specs.Records.{record_of, no_record}
use Rattle.planner.proofs.Plan.rows.Given as goal

abbrev pub invariant-loop-i : goal.invariant-loop-i
invariant-loop-i l = Held 128 no_record l.rows l.i (map record_of (take l.i (rows_of l.fn.self.table)))
