-- The invariant of `put_all`: the first numbers are written.
use lib.ListN.{take}
use Rattle.script.specs.Written.{Written}
use Rattle.script.proofs.answers.Writer.put_all.Given as goal

abbrev pub invariant-loop-number : goal.invariant-loop-number
invariant-loop-number l = Written l.initial.self (take l.number-index l.numbers) l.self
