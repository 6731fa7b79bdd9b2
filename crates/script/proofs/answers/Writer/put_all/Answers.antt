-- `put_all` meets its contract: each number is written behind those before.
-- Assumes nothing.
use lib.IntN.{pos}
use lib.ListN.{get_or}
use mir.Syntax.{w32}
use mir.Facts.{to_z-of_z}
use borrow.Author.Rules.{rules}
use Rattle.std.proofs.lemmas.List.{take_more}
use Rattle.script.proofs.Written.{wrote_none, wrote_then}
use Rattle.script.proofs.answers.Writer.put_all.Goals as goal

pub loop-number-init : goal.loop-number-init
loop-number-init c = wrote_none _

pub loop-number-preserved : goal.loop-number-preserved
loop-number-preserved c =
    let i = c.loop-number.number-index in
    let numbers = c.args.numbers.now in
    rw (take_more numbers i (pos 0) c.loop-number-test.true)
    (wrote_then c.loop-number.invariant (rw (to_z-of_z {w = w32} {z = get_or numbers i (pos 0)} (record { sfits = search rules })) at c.put.ensures))
