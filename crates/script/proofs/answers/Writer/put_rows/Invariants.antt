-- The invariant of `put_rows`: behind the count the first rows are written.
use lib.ListN.{take}
use Rattle.script.specs.AnswerNumbers.{each}
use Rattle.script.specs.Written.{Written}
use Rattle.script.proofs.answers.Writer.put_rows.Given as goal

abbrev pub invariant-loop-row : goal.invariant-loop-row
invariant-loop-row l = Written l.initial.self (each (take l.row-index l.row-items)) l.self
