-- `record_of` meets its contract: each tick becomes its instant.
-- Assumes nothing.
use mathlib.Core.Path.{◌∙◌}
use mir.Syntax.{w32}
use mir.Facts.{to_z-of_z}
use Rattle.planner.proofs.records.record_of.Goals as goal

pub returns : goal.returns
returns c =
    λ i. record {
      start = (to_z-of_z {w = w32} {z = c.instant_of.result} (record { sfits = c.instant_of.type_inv }) ∙ c.instant_of.ensures) i;
      end = (to_z-of_z {w = w32} {z = c.instant_of-2.result} (record { sfits = c.instant_of-2.type_inv }) ∙ c.instant_of-2.ensures) i;
      height = c.args.row.height;
      ids = c.args.row.ids;
      count = c.args.row.count;
    }
