use Prim.Native.Nat.{◌+◌, ◌*◌, ◌≤◌}
use lib.ListN.{take}
use Rattle.command.specs.Text.{row_room, rows_text}
use Rattle.command.specs.Written.{Written}
use Rattle.command.proofs.text.Writer.put_rows.Given as goal

-- the rows passed are written, and each takes at most so much
abbrev pub invariant-loop-row : goal.invariant-loop-row
invariant-loop-row l = record { written : Written l.fn.self (rows_text (take l.row-index l.rows)) l.self; upper_bound : l.self.len ≤ l.fn.self.len + l.row-index * row_room }
