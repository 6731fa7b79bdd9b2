-- The status is 0 exactly for the ending at which all input was answered: no other has it.
-- Assumes nothing.
use Rattle.std.proofs.Common.{◌≡◌, refl, pos}
use Rattle.terminal.specs.declared.Ending.{Ending}
use Rattle.terminal.specs.Endings.{status_of}

pub over_0 : status_of Ending.Over ≡ pos 0
over_0 = refl

pub only_over_0 : (e : Ending) → status_of e ≡ pos 0 → e ≡ Ending.Over
only_over_0 Ending.Over s = refl
only_over_0 Ending.Unread s = cc
only_over_0 Ending.Unwritten s = cc
