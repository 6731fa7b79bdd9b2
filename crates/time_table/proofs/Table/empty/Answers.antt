-- `Table::empty` meets its contract: a repeat of the empty row is the padding of no rows.
-- Assumes nothing.
use mathlib.Core.Path.{refl}
use Rattle.time_table.proofs.Table.empty.Goals as goal

pub returns : goal.returns
returns c = rw c.empty-empty.ensures refl
