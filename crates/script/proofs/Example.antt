-- The definitions, run on the script, give its numbers.
-- Assumes nothing.
use mathlib.Core.List.{flat_map}
use mathlib.Core.Path.{◌≡◌, refl}
use Rattle.time_table.specs.Rows.{cut}
use Rattle.time_table.specs.Meaning.{has, total}
use Rattle.time_table.specs.Overload.{conflict_in}
use Rattle.fit.specs.FirstFit.{moved, settled, answer, first_fit}
use Rattle.sweep.specs.Sorting.{insert_before, ordered}
use Rattle.sweep.specs.Sweep.{ids_at, insert_cut, cuts_below, cuts, laid, rows_from, rows_by, sweep}
use Rattle.sweep.specs.Created.{keeps, in_order, created}
use Rattle.planner.specs.Ranges.{in_range}
use Rattle.planner.specs.Instants.{instant, tick, amount}
use Rattle.planner.specs.Checks.{capacity_checked, bounds_checked, job_checked, jobs_checked}
use Rattle.planner.specs.Kept.{keeping}
use Rattle.planner.specs.Loads.{load_checked, accepted_load, loaded}
use Rattle.planner.specs.Updates.{known, update_checked, live_update, accepted_update, updated}
use Rattle.planner.specs.Questions.{fit_checked, fit_of, rows_shown}
use Rattle.script.specs.Commands.{command_of_kind, command_at}
use Rattle.script.specs.AnswerNumbers.{capped, keep_numbers}
use Rattle.script.specs.Runs.{answers_of, run}
use Rattle.script.specs.Example.{asked, told}

pub example : run asked ≡ told
unfolding flat_map cut has total conflict_in moved settled answer first_fit insert_before ordered ids_at insert_cut cuts_below cuts laid rows_from rows_by sweep keeps in_order created in_range instant tick amount capacity_checked bounds_checked job_checked jobs_checked keeping load_checked accepted_load loaded known update_checked live_update accepted_update updated fit_checked fit_of rows_shown command_of_kind command_at capped keep_numbers answers_of run asked told
example = refl
