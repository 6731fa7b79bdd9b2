-- `add_task_to_profile` meets its contract: a store at the count puts the task last.
-- Assumes nothing.
use Rattle.time_table.specs.Insertion.{joined}
use Rattle.time_table.proofs.Held.{held_push}
use Rattle.time_table.proofs.RowOf.{row_held}
use Rattle.time_table.proofs.checks.add_task_to_profile.Goals as goal

pub returns : goal.returns
unfolding joined
returns c =
    row_held _ _ _ (held_push c.requires.listed c.args.part.id c.requires.count_lt_room_for_ids.0)
