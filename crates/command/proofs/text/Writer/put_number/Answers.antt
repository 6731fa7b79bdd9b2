-- `put_number` meets its contract: a minus where there is one, and then the digits of the number without its sign.
-- Assumes nothing.
use mathlib.Core.Path.{ap}
use lib.ListN.{length}
use mir.Facts.{to_z-of_z}
use native.Mathlib.Omega.{arith}
use Rattle.command.proofs.WrittenText.{written_length, written_more}
use Rattle.command.proofs.NumberSigns.{signed_minus, signed_plain}
use Rattle.command.proofs.text.Writer.put_number.Goals as goal
use Rattle.command.proofs.text.Writer.put_number.Goals.{then-n-lt0, else-n-lt0}

pub put_byte-requires : goal.put_byte-requires
put_byte-requires c =
    let text = signed_minus c.args.n (rw (to_z-of_z c.ranges.n) at c.if-n-lt0.true) in
    omega (arith, c.requires, ap length text)

pub put_digits-requires : goal.put_digits-requires
put_digits-requires c =
    let size = rw (to_z-of_z c.ranges.n) at c.unsigned_abs.ensures.value in
    elim c.if-n-lt0.branch [
      | then-n-lt0 w ↦
          let text = signed_minus c.args.n (rw (to_z-of_z c.ranges.n) at w.if-n-lt0.true) in
          rw (w.self-is, size) (omega (arith, c.requires, ap length text, w.put_byte.ensures.place, written_length w.put_byte.ensures))
      | else-n-lt0 w ↦
          let text = signed_plain c.args.n (rw (to_z-of_z c.ranges.n) at w.if-n-lt0.false) in
          rw (w.self-is, size) (omega (arith, c.requires, ap length text))
    ]

pub returns : goal.returns
returns c =
    let size = rw (to_z-of_z c.ranges.n) at c.unsigned_abs.ensures.value in
    let digits = rw size at c.put_digits.ensures in
    elim c.if-n-lt0.branch [
      | then-n-lt0 w ↦ rw (signed_minus c.args.n (rw (to_z-of_z c.ranges.n) at w.if-n-lt0.true)) (written_more w.put_byte.ensures (rw w.self-is at digits))
      | else-n-lt0 w ↦ rw (signed_plain c.args.n (rw (to_z-of_z c.ranges.n) at w.if-n-lt0.false)) (rw w.self-is at digits)
    ]
