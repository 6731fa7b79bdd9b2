-- `Reader::push` meets its contract: where there is room the byte goes behind the line, and else the line stays.
-- Assumes nothing.
use Rattle.time_table.proofs.Held.{held_push}
use Rattle.command.specs.Lines.{bytes_of}
use Rattle.command.proofs.LineBytes.{grown_more}
use native.Mathlib.Omega.{arith}
use Rattle.command.proofs.lines.Reader.push.Goals as goal

pub returns-then-self-lt-ROOM : goal.returns-then-self-lt-ROOM
returns-then-self-lt-ROOM c =
    rw (grown_more (bytes_of c.args.self.now) c.args.byte (omega (arith, c.if-self-lt-ROOM.true, c.requires.counts))) (held_push c.requires c.args.byte c.if-self-lt-ROOM.true)
