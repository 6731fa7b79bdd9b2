-- What follows a read, by what it gave. What is read and written is the system's; that a line is answered only once it is whole, and with which status a
-- run ends, is said here.
use Rattle.std.specs.Prelude.{◌≡◌, List, [], ◌∷◌, ℕ, zero, ℤ, pos, take, Option, None, Some, option_map, unwrap_or, Result, Ok, Err}
use Rattle.std.specs.declared.io.Error.{Error}
use Rattle.command.specs.declared.lines.State.{State}
use Rattle.command.specs.Lines.{byte_taken, last_feed}
use Rattle.terminal.specs.declared.Reading.{Reading}
use Rattle.terminal.specs.Endings.{status_of}

-- the state after some bytes, however they are served
unfoldable pub state_after : State → List ℕ → State
state_after s [] = s
state_after s (b ∷ bs) = state_after (byte_taken s b).state bs

-- the status with which the run ends at a reading, if it ends there
abbrev pub status_at : Reading → Option ℤ
status_at r = option_map status_of r.ended

-- and with which it ends if it ends at this one: 1 where it may go on, since there may be more to read
abbrev pub status_here : Reading → ℤ
status_here r = unwrap_or (status_at r) (pos 1)

-- bytes are answered: all of them, and the run goes on, status 1 if it ended here, since there may be more to read; or an answer could not be written,
-- status 2
pub data BytesAnswered (s : State) (bytes : List ℕ) (r : Reading) : Type 0 where
  all : status_at r ≡ None → status_here r ≡ pos 1 → r.state ≡ state_after s bytes → BytesAnswered s bytes r
  unwritten : status_at r ≡ Some (pos 2) → BytesAnswered s bytes r

-- the input ends: a line that was begun gets the line feed that it lacks, status 0; or its answer could not be written
pub data InputEnded (s : State) (r : Reading) : Type 0 where
  over : status_at r ≡ Some (pos 0) → r.state ≡ state_after s (last_feed s) → InputEnded s r
  unwritten : status_at r ≡ Some (pos 2) → InputEnded s r

-- a read fails: nothing is answered, the state stays as it was, and the run ends with status 1
pub record ReadFailed (s : State) (r : Reading) : Type 0 where
  pub status : status_at r ≡ Some (pos 1)
  pub state : r.state ≡ s

-- a read fails; or it gives nothing, and the input ends; or it gives bytes, and these are answered
abbrev pub FollowsRead : State → Result ℕ Error → List ℕ → Reading → Type 0
FollowsRead s (Err why) buffer r = ReadFailed s r
FollowsRead s (Ok zero) buffer r = InputEnded s r
FollowsRead s (Ok n) buffer r = BytesAnswered s (take n buffer) r
