-- The bytes to come lead to the same as all of them at the start.
use mathlib.Core.List.{List}
use mathlib.Core.Path.{◌≡◌}
use Prim.Native.Nat.{ℕ, ◌+◌}
use lib.ListN.{length}
use Rattle.planner.specs.declared.Jobs.{Jobs}
use Rattle.planner.specs.declared.Plan.{Plan}
use Rattle.command.specs.declared.lines.Reader.{Reader}
use Rattle.command.specs.Lines.{Gathered, served}
use Rattle.command.proofs.ServedLines.{Serving}
use Rattle.command.proofs.lines.State.serve.Given as goal

-- what all the bytes lead to
abbrev pub from_start : List ℕ → ℕ → List ℕ → Plan → Jobs → Reader → Gathered
from_start bytes from out plan jobs reader = served (length out) (record { session = record { plan = plan; jobs = jobs }; reader = reader }) from bytes

abbrev pub invariant-loop-byte : goal.invariant-loop-byte
invariant-loop-byte l =
    record {
      place : l.next ≡ l.from + l.byte-index;
      serving :
          Serving (from_start l.byte-items l.from l.initial.answers.out.now l.initial.last.plan l.initial.jobs l.initial.reader) l.byte-items l.initial.answers (record { plan = l.last.plan; jobs = l.jobs }) l.reader.line l.reader.len l.byte-index l.next l.answers;
    }
