use Rattle.command.specs.Lines.{ReadyState}
use Rattle.terminal.proofs.run.Given as goal

abbrev pub invariant-loop : goal.invariant-loop
invariant-loop g l = ReadyState l.state
