-- `put_stretch` meets its contract: three numbers, one behind the other, each of 32 bits and so of at most 11 bytes.
-- Assumes nothing.
use mathlib.Core.Path.{◌≡◌}
use Prim.Native.Nat.{◌^◌, ◌<◌}
use lib.IntN.{pos}
use mir.Syntax.{w32, w64}
use mir.Val.{SFits, to_z, of_z}
use borrow.Author.Rules.{rules}
use native.Mathlib.Omega.{arith}
use Rattle.command.specs.Decimal.{signed_text}
use Rattle.command.specs.Text.{spaced}
use Rattle.command.specs.Written.{Written}
use Rattle.command.proofs.WrittenText.{written_length, written_more}
use Rattle.command.proofs.DecimalDigits.{decimal_short, signed_short}
use Rattle.command.proofs.text.Writer.put_stretch.Goals as goal

pub put_number-requires : goal.put_number-requires
put_number-requires c =
    let r = c.args.row.now in
    let s : SFits w32 r.start = search rules in
    let start : to_z w64 (of_z w64 c.from.result) ≡ r.start = search rules in
    rw start (omega (arith, c.requires, signed_short r.start s.sfits))

pub put_next-requires : goal.put_next-requires
put_next-requires c =
    let r = c.args.row.now in
    let s : SFits w32 r.start = search rules in
    let e : SFits w32 r.end = search rules in
    let start : Written c.args.self.now (signed_text r.start) c.put_number.new.self = search rules in
    let end : to_z w64 (of_z w64 c.from-2.result) ≡ r.end = search rules in
    rw end (omega (arith, c.requires, signed_short r.start s.sfits, signed_short r.end e.sfits, start.place, written_length start))

pub put_next-requires-2 : goal.put_next-requires-2
unfolding signed_text
put_next-requires-2 c =
    let r = c.args.row.now in
    let s : SFits w32 r.start = search rules in
    let e : SFits w32 r.end = search rules in
    let h : r.height < 2 ^ 32 = search rules in
    let start : Written c.args.self.now (signed_text r.start) c.put_number.new.self = search rules in
    let end : Written c.put_number.new.self (spaced (signed_text r.end)) c.put_next.new.self = search rules in
    let height : to_z w64 (of_z w64 c.from-3.result) ≡ pos r.height = search rules in
    let w = written_more start end in
    rw height (omega (arith, c.requires, signed_short r.start s.sfits, signed_short r.end e.sfits, decimal_short r.height h, start.place, end.place, written_length w))

pub returns : goal.returns
unfolding signed_text
returns c =
    let r = c.args.row.now in
    let s : SFits w32 r.start = search rules in
    let e : SFits w32 r.end = search rules in
    let h : r.height < 2 ^ 32 = search rules in
    let start : Written c.args.self.now (signed_text r.start) c.put_number.new.self = search rules in
    let end : Written c.put_number.new.self (spaced (signed_text r.end)) c.put_next.new.self = search rules in
    let height : Written c.put_next.new.self (spaced (signed_text (pos r.height))) c.put_next-2.new.self = search rules in
    record {
      written = written_more (written_more start end) height;
      upper_bound = omega (arith, signed_short r.start s.sfits, signed_short r.end e.sfits, decimal_short r.height h, start.place, end.place, height.place);
    }
