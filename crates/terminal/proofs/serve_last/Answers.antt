-- `serve_last` meets its contract: without a line that was begun there is no line feed to serve.
-- Assumes nothing.
use Rattle.std.proofs.Common.{◌≡◌, refl, false, rules}
use Rattle.command.specs.Lines.{begun}
use Rattle.terminal.specs.Reads.{state_after, InputEnded}
use Rattle.terminal.proofs.serve_last.Goals as goal

pub returns-then-not-begun-clause-input_ended : goal.returns-then-not-begun-clause-input_ended
unfolding state_after
returns-then-not-begun-clause-input_ended g c =
    let none : begun c.args.state ≡ false = search rules in InputEnded.over refl (rw none refl)
