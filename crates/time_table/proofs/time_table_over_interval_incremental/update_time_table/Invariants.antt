-- The loop's invariant of `update_time_table`: the steps that are left.
-- Assumes nothing.
use Rattle.std.proofs.Common.{drop}
use Rattle.std.specs.List.{flat_map}
use Rattle.std.specs.Option.{option_to_list}
use Rattle.time_table.specs.Rewriting.{IsCleared}
use Rattle.time_table.proofs.StepsInTurn.{Doing}
use Rattle.time_table.proofs.time_table_over_interval_incremental.update_time_table.Given as goal

abbrev pub invariant-loop-step : goal.invariant-loop-step
invariant-loop-step l =
    Doing l.fn.old l.fn.new l.fn.table (flat_map option_to_list (drop l.step-index l.step-items)) l.rewriting.written × IsCleared l.rewriting
