-- `put_rows` meets its contract: the rows passed are written, one behind the other, and each takes at most 400 bytes.
-- Assumes nothing.
use mathlib.Core.List.{[], flat_map}
use lib.ListN.{take, get_or}
use native.Mathlib.Omega.{arith}
use Rattle.std.proofs.lemmas.List.{take_more, flat_map_more}
use Rattle.planner.specs.Records.{no_row}
use Rattle.command.specs.Text.{row_text}
use Rattle.command.proofs.WrittenText.{written_none, written_length, written_more, written_as}
use Rattle.command.proofs.text.Writer.put_rows.Goals as goal

pub loop-row-init : goal.loop-row-init
unfolding flat_map
loop-row-init c = record { written = written_none c.args.self.now (omega (arith, c.requires.room)); upper_bound = omega arith }

pub put_row-requires-clause-room : goal.put_row-requires-clause-room
put_row-requires-clause-room c =
    omega (arith, c.requires.room, c.loop-row-test.true, c.loop-row.invariant.upper_bound, written_length c.loop-row.invariant.written)

pub loop-row-preserved : goal.loop-row-preserved
unfolding row_text flat_map
loop-row-preserved c =
    let row = get_or c.args.rows.now c.loop-row.row-index no_row in
    record {
      written = rw (take_more c.args.rows.now c.loop-row.row-index no_row c.loop-row-test.true) (written_as (written_more c.loop-row.invariant.written c.put_row.ensures.written) (flat_map_more row_text [] (take c.loop-row.row-index c.args.rows.now) row));
      upper_bound = omega (arith, c.put_row.ensures.upper_bound, c.loop-row.invariant.upper_bound);
    }
