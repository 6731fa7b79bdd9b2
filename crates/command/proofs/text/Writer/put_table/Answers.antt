-- `put_table` meets its contract: the rows, and then their count; or the refusal.
-- Assumes nothing.
use mathlib.Core.Path.{◌≡◌, ap, ◌∙◌}
use mathlib.Core.List.{List}
use Prim.Native.Nat.{ℕ, ◌^◌, ◌<◌}
use native.Mathlib.Omega.{arith}
use mir.Syntax.{w64}
use mir.Val.{to_z}
use lib.ListN.{take}
use Rattle.planner.specs.declared.RowRecord.{RowRecord}
use Rattle.planner.specs.declared.Rows.{Rows}
use Rattle.planner.specs.Questions.{records_of}
use Rattle.planner.specs.Shown.{Shown}
use Rattle.command.specs.declared.text.Writer.{Writer}
use Rattle.command.specs.Decimal.{signed_text}
use Rattle.command.specs.Text.{number_text, count_text, table_text}
use Rattle.command.specs.Written.{Written}
use Rattle.command.proofs.WrittenText.{written_length, written_more}
use Rattle.command.proofs.NumberSigns.{plain_wide}
use Rattle.command.proofs.text.Writer.put_table.Goals as goal

-- a count is printed as what it counts
counted : {before after : Writer} {n : ℕ} → Written before (number_text 69 (to_z w64 n)) after → n < 2 ^ 32 → Written before (count_text 69 n) after
unfolding count_text signed_text
counted {n = n} wrote small = rw (plain_wide n small) at wrote

-- the rows that are printed are all that are counted
all_of : (rows : Rows) {n : ℕ} {l : List RowRecord} → l ≡ take n rows.rows → n ≡ rows.count → l ≡ records_of rows
all_of rows e same = e ∙ ap (λ (k : ℕ). take k rows.rows) same

pub put_count-requires : goal.put_count-requires
put_count-requires c =
    let shown : Shown c.in-Ok.rows = rw c.in-Ok.is at c.requires.shown in
    let listed = rw (all_of c.in-Ok.rows c.as_slice.ensures (omega arith)) at c.put_rows.ensures.upper_bound in
    omega (arith, c.requires.room, shown.held.counts, shown.held.fits, listed, written_length c.put_rows.ensures.written)

pub returns-in-Ok : goal.returns-in-Ok
unfolding table_text
returns-in-Ok c =
    let shown : Shown c.in-Ok.rows = rw c.in-Ok.is at c.requires.shown in
    let few = shown.held.fits in
    rw c.in-Ok.is
    (written_more (rw (all_of c.in-Ok.rows c.as_slice.ensures (omega arith)) at c.put_rows.ensures.written) (counted c.put_count.ensures (omega arith)))

pub returns-in-Err : goal.returns-in-Err
unfolding table_text
returns-in-Err c = rw c.in-Err.is c.put_refusal.ensures
