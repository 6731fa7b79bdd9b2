-- Document 01's corners hold of the definitions because both sides of the table compute to the same.
-- Assumes nothing.
use mathlib.Core.Path.{◌≡◌, refl}
use mathlib.Core.List.{map}
use Rattle.time_table.specs.Rows.{cut}
use Rattle.time_table.specs.Meaning.{has, total}
use Rattle.time_table.specs.Overload.{conflict_in}
use Rattle.time_table.specs.Adjustments.{stretch, apart, left_of}
use Rattle.time_table.specs.Insertion.{insertion}
use Rattle.time_table.specs.Update.{after, over_after}
use Rattle.sweep.specs.Sorting.{insert_before, ordered}
use Rattle.sweep.specs.Sweep.{ids_at, insert_cut, cuts_below, cuts, laid, rows_from, rows_by, sweep}
use Rattle.sweep.specs.Created.{keeps, in_order, created}
use Rattle.fit.specs.FirstFit.{moved, settled, answer, first_fit}
use Rattle.planner.specs.Ranges.{in_range}
use Rattle.planner.specs.Instants.{instant, tick, amount}
use Rattle.planner.specs.Checks.{capacity_checked, bounds_checked, job_checked, jobs_checked}
use Rattle.planner.specs.Loads.{load_checked, accepted_load, loaded}
use Rattle.planner.specs.Updates.{known, update_checked, live_update, accepted_update, updated}
use Rattle.planner.specs.Questions.{fit_checked, fit_of, rows_shown}
use Rattle.planner.specs.Corners.{says, next, said_by, answered, Corner, table}

pub corners : map (λ (c : Corner). answered c.asked) table ≡ map (λ (c : Corner). c.said) table
unfolding table answered said_by says next stretch apart left_of loaded load_checked accepted_load capacity_checked jobs_checked job_checked bounds_checked in_range instant tick amount created in_order ordered insert_before keeps sweep rows_by rows_from laid cuts cuts_below insert_cut ids_at has total conflict_in updated update_checked known accepted_update live_update after over_after insertion cut fit_of fit_checked first_fit settled moved answer rows_shown
corners = refl
