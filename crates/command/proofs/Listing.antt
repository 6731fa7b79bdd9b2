-- The program prints document 01's listing: the definitions of its text, run on the input, give the output.
-- Assumes nothing.
use mathlib.Core.List.{flat_map}
use mathlib.Core.Path.{◌≡◌, refl}
use Rattle.time_table.specs.Rows.{cut}
use Rattle.time_table.specs.Meaning.{has, total}
use Rattle.time_table.specs.Overload.{conflict_in}
use Rattle.time_table.specs.Adjustments.{stretch, apart, left_of}
use Rattle.time_table.specs.Insertion.{insertion, joined}
use Rattle.time_table.specs.Removal.{removal, lessened, without}
use Rattle.time_table.specs.Update.{after, over_after}
use Rattle.sweep.specs.Sorting.{insert_before, ordered}
use Rattle.sweep.specs.Sweep.{ids_at, insert_cut, cuts_below, cuts, laid, rows_from, rows_by, sweep}
use Rattle.sweep.specs.Created.{keeps, in_order, created}
use Rattle.planner.specs.Ranges.{in_range}
use Rattle.planner.specs.Instants.{instant, tick, amount}
use Rattle.planner.specs.Checks.{capacity_checked, bounds_checked, job_checked, jobs_checked}
use Rattle.planner.specs.Kept.{keeping}
use Rattle.planner.specs.Loads.{load_checked, accepted_load, loaded}
use Rattle.planner.specs.Updates.{known, update_checked, live_update, accepted_update, updated}
use Rattle.planner.specs.Questions.{rows_shown}
use Rattle.command.specs.Decimal.{digits_in, decimal, signed_text}
use Rattle.command.specs.Numbers.{is_digit, magnitude_from, signed_of, number_of}
use Rattle.command.specs.Grammar.{fields_of, values_of, numbers_taken, command_with, by_letter, command_of}
use Rattle.command.specs.Text.{count_text, refusal_text, overload_text, answer_text, row_text, table_text}
use Rattle.command.specs.Sessions.{outcome}
use Rattle.command.specs.Lines.{lines_after, printed, transcript}
use Rattle.command.specs.Listing.{typed, shown}

pub listing : transcript typed ≡ shown
unfolding cut has total conflict_in stretch apart left_of insertion joined removal lessened without after over_after insert_before ordered ids_at insert_cut cuts_below cuts laid rows_from rows_by sweep keeps in_order created in_range instant tick amount capacity_checked bounds_checked job_checked jobs_checked keeping load_checked accepted_load loaded known update_checked live_update accepted_update updated rows_shown digits_in decimal signed_text is_digit magnitude_from signed_of number_of fields_of values_of numbers_taken command_with by_letter command_of count_text refusal_text overload_text answer_text flat_map row_text table_text outcome lines_after printed
listing = refl
