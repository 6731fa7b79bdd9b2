-- `put_digits` meets its contract: `ilog10` counts the digits, and so many are written behind what was written before.
-- Assumes nothing.
use mathlib.Core.Path.{refl}
use native.Mathlib.Omega.{arith}
use Rattle.command.proofs.DecimalDigits.{digits_counted, decimal_std}
use Rattle.command.proofs.WrittenText.{written_before}
use Rattle.command.proofs.text.Writer.put_digits.Goals as goal

pub write_digits-requires : goal.write_digits-requires
write_digits-requires c =
    let counted = digits_counted c.ilog10.result c.args.n c.max.result c.max.ensures c.ilog10.ensures.power_le c.ilog10.ensures.next_power_gt in
    rw (decimal_std c.args.n c.ranges.n.fits) (omega arith, omega (arith, c.requires))

pub returns : goal.returns
returns c =
    let counted = digits_counted c.ilog10.result c.args.n c.max.result c.max.ensures c.ilog10.ensures.power_le c.ilog10.ensures.next_power_gt in
    let same = decimal_std c.args.n c.ranges.n.fits in
    let start = rw same at c.write_digits.ensures.start in
    written_before refl start (omega arith) (omega (arith, c.requires)) (rw same at c.write_digits.ensures.written) c.write_digits.ensures.before
