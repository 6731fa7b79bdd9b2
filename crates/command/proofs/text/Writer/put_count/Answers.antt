-- `put_count` meets its contract: the letter, the number after a space, and the line feed.
-- Assumes nothing.
use mir.Facts.{to_z-of_z}
use native.Mathlib.Omega.{arith}
use Rattle.command.proofs.WrittenText.{written_length, written_more}
use Rattle.command.proofs.DecimalDigits.{signed_long}
use Rattle.command.proofs.text.Writer.put_count.Goals as goal

pub put_next-requires : goal.put_next-requires
put_next-requires c =
    rw (to_z-of_z c.ranges.n) (omega (arith, c.requires, signed_long c.args.n c.ranges.n.sfits, c.put_byte.ensures.place, written_length c.put_byte.ensures))

pub put_byte-requires-2 : goal.put_byte-requires-2
put_byte-requires-2 c =
    let next = rw (to_z-of_z c.ranges.n) at c.put_next.ensures in
    omega (arith, c.requires, signed_long c.args.n c.ranges.n.sfits, c.put_byte.ensures.place, written_length c.put_byte.ensures, next.place, written_length next)

pub returns : goal.returns
returns c =
    let next = rw (to_z-of_z c.ranges.n) at c.put_next.ensures in
    written_more (written_more c.put_byte.ensures next) c.put_byte-2.ensures
