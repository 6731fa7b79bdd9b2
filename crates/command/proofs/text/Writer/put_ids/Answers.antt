-- `put_ids` meets its contract: the ids passed are written, one behind the other, and each takes at most 11 bytes.
-- Assumes nothing.
use mathlib.Core.Path.{◌≡◌}
use mathlib.Core.List.{[], flat_map}
use Prim.Native.Nat.{◌^◌, ◌<◌}
use lib.IntN.{pos}
use lib.ListN.{take, get_or}
use mir.Syntax.{w64}
use mir.Val.{to_z, of_z}
use borrow.Author.Rules.{rules}
use native.Mathlib.Omega.{arith}
use Rattle.std.proofs.lemmas.List.{take_more, flat_map_more}
use Rattle.command.specs.Decimal.{signed_text}
use Rattle.command.specs.Text.{id_text}
use Rattle.command.specs.Written.{Written}
use Rattle.command.proofs.WrittenText.{written_none, written_length, written_more, written_as}
use Rattle.command.proofs.DecimalDigits.{decimal_short}
use Rattle.command.proofs.text.Writer.put_ids.Goals as goal

pub loop-id-init : goal.loop-id-init
unfolding flat_map
loop-id-init c = record { written = written_none c.args.self.now (omega (arith, c.requires.room)); upper_bound = omega arith }

pub put_next-requires : goal.put_next-requires
unfolding signed_text
put_next-requires c =
    let id = get_or c.args.ids.now c.loop-id.id-index 0 in
    let byte = c.type_inv.ids c.loop-id.id-index in
    let small : id < 2 ^ 32 = omega (arith, byte) in
    let text : to_z w64 (of_z w64 c.from.result) ≡ pos id = search rules in
    rw text (omega (arith, c.requires.room, c.loop-id-test.true, c.loop-id.invariant.upper_bound, written_length c.loop-id.invariant.written, decimal_short id small))

pub loop-id-preserved : goal.loop-id-preserved
unfolding signed_text flat_map
loop-id-preserved c =
    let id = get_or c.args.ids.now c.loop-id.id-index 0 in
    let byte = c.type_inv.ids c.loop-id.id-index in
    let small : id < 2 ^ 32 = omega (arith, byte) in
    let next : Written c.loop-id.self (id_text id) c.put_next.new.self = search rules in
    record {
      written = rw (take_more c.args.ids.now c.loop-id.id-index 0 c.loop-id-test.true) (written_as (written_more c.loop-id.invariant.written next) (flat_map_more id_text [] (take c.loop-id.id-index c.args.ids.now) id));
      upper_bound = omega (arith, next.place, c.loop-id.invariant.upper_bound, decimal_short id small);
    }
