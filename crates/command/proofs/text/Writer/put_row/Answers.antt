-- `put_row` meets its contract: the numbers, the ids and the line feed, one behind the other.
-- Assumes nothing.
use native.Mathlib.Omega.{arith}
use Rattle.command.specs.Text.{row_text}
use Rattle.command.proofs.WrittenText.{written_length, written_more}
use Rattle.command.proofs.text.Writer.put_row.Goals as goal

pub put_ids-requires : goal.put_ids-requires
put_ids-requires c =
    rw c.ids.ensures (omega (arith, c.requires.room, c.requires.held_ids.counts, c.requires.held_ids.fits, c.put_stretch.ensures.upper_bound, written_length c.put_stretch.ensures.written))

pub put_byte-requires : goal.put_byte-requires
put_byte-requires c =
    let ids = rw c.ids.ensures at c.put_ids.ensures.upper_bound in
    let w = written_more c.put_stretch.ensures.written c.put_ids.ensures.written in
    omega (arith, c.requires.room, c.requires.held_ids.counts, c.requires.held_ids.fits, c.put_stretch.ensures.upper_bound, ids, written_length w)

pub returns-clause-written : goal.returns-clause-written
unfolding row_text
returns-clause-written c =
    let ids = rw c.ids.ensures at c.put_ids.ensures.written in
    written_more (written_more c.put_stretch.ensures.written ids) c.put_byte.ensures
