-- `put_row` meets its contract: each id is written behind those before.
-- Assumes nothing.
use mir.Syntax.{w32}
use mir.Facts.{to_z-of_z}
use Rattle.std.proofs.lemmas.List.{map_more}
use Rattle.planner.specs.Records.{ids_of}
use Rattle.script.specs.AnswerNumbers.{capped}
use Rattle.script.proofs.Written.{wrote_then}
use Rattle.script.proofs.answers.Writer.put_row.Goals as goal

pub loop-id-preserved : goal.loop-id-preserved
loop-id-preserved c =
    let one =
    rw (to_z-of_z {w = w32} {z = c.signed.result} (record { sfits = c.signed.type_inv }), c.signed.ensures, c.from-in-loop-id.ensures, c.ids-id-items.ensures) at c.put.ensures in
    rw (map_more capped (ids_of c.args.row.now) c.loop-id.id-index 0 (rw c.ids-id-items.ensures at c.loop-id-test.true)) (wrote_then c.loop-id.invariant one)
