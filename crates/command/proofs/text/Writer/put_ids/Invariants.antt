use Prim.Native.Nat.{◌+◌, ◌*◌, ◌≤◌}
use lib.ListN.{take}
use Rattle.command.specs.Text.{id_room, ids_text}
use Rattle.command.specs.Written.{Written}
use Rattle.command.proofs.text.Writer.put_ids.Given as goal

-- the ids passed are written, and each takes at most so much
abbrev pub invariant-loop-id : goal.invariant-loop-id
invariant-loop-id l = record { written : Written l.fn.self (ids_text (take l.id-index l.ids)) l.self; upper_bound : l.self.len ≤ l.fn.self.len + l.id-index * id_room }
