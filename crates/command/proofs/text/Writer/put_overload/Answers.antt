-- `put_overload` meets its contract: the letter, the numbers after a space, and the line feed.
-- Assumes nothing.
use native.Mathlib.Omega.{arith}
use Rattle.command.specs.Text.{overload_text}
use Rattle.command.proofs.WrittenText.{written_length, written_more}
use Rattle.command.proofs.text.Writer.put_overload.Goals as goal

pub put_stretch-requires : goal.put_stretch-requires
put_stretch-requires c =
    let begun = written_more c.put_byte.ensures c.put_byte-2.ensures in
    omega (arith, c.requires, begun.place, written_length begun)

pub put_byte-requires-3 : goal.put_byte-requires-3
put_byte-requires-3 c =
    let begun = written_more c.put_byte.ensures c.put_byte-2.ensures in
    omega (arith, c.requires, begun.place, written_length begun, c.put_stretch.ensures.upper_bound, written_length c.put_stretch.ensures.written)

pub returns : goal.returns
unfolding overload_text
returns c =
    written_more (written_more (written_more c.put_byte.ensures c.put_byte-2.ensures) c.put_stretch.ensures.written) c.put_byte-3.ensures
