-- `overlap_updated_profile` meets its contract: it is the row without the task, cut to what the part covers, if height is left and it covers something.
-- Assumes nothing.
use mathlib.Core.Path.{sym}
use Rattle.time_table.proofs.CoveredPiece.{lessened_flat, lessened_apart, lessened_is}
use native.Mathlib.Omega.{arith}
use Rattle.time_table.proofs.removal.overlap_updated_profile.Goals as goal

pub returns-then-profile-part : goal.returns-then-profile-part
returns-then-profile-part c = sym (lessened_flat c.args.part c.args.profile c.if-profile-part.true)

pub returns-then-upper-lower : goal.returns-then-upper-lower
returns-then-upper-lower c = sym (lessened_apart c.args.part c.args.profile (omega arith))

pub returns : goal.returns
returns c =
    let a = c.args in
    rw (lessened_is a.part a.profile c.if-profile-part.false, ← c.max-lower.ensures, ← c.min-upper.ensures, ← c.remove_task_from_profile.ensures) c.cut.ensures
