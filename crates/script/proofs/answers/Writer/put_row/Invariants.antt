-- The invariant of `put_row`: behind start, end, height and count the first ids are written.
use mathlib.Core.List.{◌∷◌, map}
use lib.ListN.{take}
use Rattle.planner.specs.Records.{ids_of}
use Rattle.script.specs.AnswerNumbers.{capped}
use Rattle.script.specs.Written.{Written}
use Rattle.script.proofs.answers.Writer.put_row.Given as goal

abbrev pub invariant-loop-id : goal.invariant-loop-id
invariant-loop-id l =
    Written l.fn.self (l.row.start ∷ l.row.end ∷ capped l.row.height ∷ capped l.row.count ∷ map capped (take l.id-index (ids_of l.row))) l.self
