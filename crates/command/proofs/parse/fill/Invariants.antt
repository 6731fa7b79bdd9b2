-- The numbers so far, and those of the fields that are left, are the numbers behind the letter.
use Rattle.std.proofs.Common.{◌≡◌, take}
use Rattle.command.specs.Grammar.{values_behind, fields_of, before, values_of}
use Rattle.command.proofs.LineFields.{left}
use Rattle.command.proofs.parse.fill.Given as goal

abbrev pub invariant-loop-number : goal.invariant-loop-number
invariant-loop-number l = values_behind (fields_of l.behind) ≡ before (take l.number-index l.numbers) (values_of (left l.fields.done l.fields.rest.now))
