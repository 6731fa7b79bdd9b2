-- `overlap_updated_profile` meets its contract: there is no covered piece where the part does not meet the row.
-- Assumes nothing.
use mathlib.Core.Path.{sym}
use Rattle.time_table.proofs.CoveredPiece.{heightened_apart}
use native.Mathlib.Omega.{arith}
use Rattle.time_table.proofs.checks.overlap_updated_profile.Goals as goal

pub returns-then-upper-lower : goal.returns-then-upper-lower
returns-then-upper-lower c = sym (heightened_apart c.args.part c.args.profile (omega arith))
