use Rattle.std.proofs.Common.{◌≡◌, length}
use Rattle.command.specs.Lines.{ReadyState}
use Rattle.terminal.specs.Reads.{state_after}
use Rattle.terminal.proofs.serve_all.Given as goal

abbrev pub invariant-loop-rest : goal.invariant-loop-rest
invariant-loop-rest g l =
    record {
      ready : ReadyState l.state;
      leads : state_after l.state l.rest ≡ state_after l.initial.state l.initial.rest;
    }

abbrev pub decreases-loop-rest : goal.decreases-loop-rest
decreases-loop-rest g l = length l.rest
