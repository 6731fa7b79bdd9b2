-- `State::new` meets its contract: a fresh session, and no line begun.
-- Assumes nothing.
use Rattle.command.proofs.ServedLines.{no_line_held}
use Rattle.command.proofs.lines.State.new.Goals as goal

pub returns : goal.returns
returns c =
    record {
      value = (λ i. record { session = c.new.ensures.value i; reader = c.empty.ensures i });
      ready_state = record { session = c.new.ensures.ready; reader = rw c.empty.ensures no_line_held };
    }
