-- `put_rows` meets its contract: each row is written behind those before.
-- Assumes nothing.
use mathlib.Core.Path.{◌≡◌, ap, ◌∙◌}
use mathlib.Core.List.{List, append-nil, ◌++◌}
use lib.IntN.{ℤ}
use native.Mathlib.Omega.{arith}
use Prim.Native.Nat.{ℕ, ◌+◌, ◌<◌}
use mir.Syntax.{w32}
use mir.Facts.{to_z-of_z}
use lib.ListN.{length, take, get_or}
use Rattle.std.proofs.lemmas.List.{take_more, take_all}
use Rattle.std.proofs.lemmas.Grind.{flat_map-append}
use Rattle.planner.specs.declared.RowRecord.{RowRecord}
use Rattle.planner.specs.Records.{no_row}
use Rattle.script.specs.AnswerNumbers.{capped, row_numbers, each}
use Rattle.script.proofs.Written.{wrote_none, wrote_then}
use Rattle.script.proofs.answers.Writer.put_rows.Goals as goal

pub loop-row-init : goal.loop-row-init
loop-row-init c = wrote_none _

-- the numbers of one row more
each_more : (rows : List RowRecord) (i : ℕ) → i < length rows → each (take (i + 1) rows) ≡ each (take i rows) ++ row_numbers (get_or rows i no_row)
each_more rows i inside =
    rw (take_more rows i no_row inside, flat_map-append row_numbers)
    (ap (λ (numbers : List ℤ). each (take i rows) ++ numbers) (append-nil _))

pub loop-row-preserved : goal.loop-row-preserved
loop-row-preserved c = rw (each_more _ _ c.loop-row-test.true) (wrote_then c.loop-row.invariant c.put_row.ensures)

pub returns-after-loop-row : goal.returns-after-loop-row
returns-after-loop-row c =
    let count = c.signed.ensures ∙ ap capped {y = c.in-Ok.rows.count} (omega arith) in
    let counted = rw (to_z-of_z {w = w32} {z = c.signed.result} (record { sfits = c.signed.type_inv }), count) at c.put_all.ensures in
    let listed = rw (take_all _ _ c.loop-row-test.false, c.as_slice-row-items.ensures) at c.loop-row.invariant in
    rw c.in-Ok.is (wrote_then counted listed)
