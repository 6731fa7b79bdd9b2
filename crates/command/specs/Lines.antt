-- Lines from bytes, and what a session prints for them.
use Rattle.std.specs.Prelude.{◌≡◌, Bool, cond, List, [], ◌∷◌, ◌++◌, ℕ, ◌+◌, ◌≤◌, ◌<◌, ltb, leb, eqb, length, take, drop}
use Rattle.time_table.specs.Held.{pad, Held}
use Rattle.command.specs.declared.Session.{Session}
use Rattle.command.specs.declared.lines.Reader.{Reader}
use Rattle.command.specs.declared.lines.State.{State}
use Rattle.command.specs.declared.lines.Served.{Served}
use Rattle.command.specs.Grammar.{line_limit}
use Rattle.command.specs.Text.{longest}
use Rattle.command.specs.Sessions.{Ready, fresh_session, answered}

-- the lines of a stream of bytes, after those of a line that is not complete; the last may lack its line feed
abbrev pub last_line : List ℕ → List (List ℕ)
last_line [] = []
last_line (b ∷ bs) = (b ∷ bs) ∷ []

unfoldable pub lines_after : List ℕ → List ℕ → List (List ℕ)
lines_after line [] = last_line line
lines_after line (b ∷ bs) = cond (eqb b 10) (line ∷ lines_after [] bs) (lines_after (line ++ b ∷ []) bs)

abbrev pub lines_of : List ℕ → List (List ℕ)
lines_of bytes = lines_after [] bytes

-- the same, put together: each line has no line feed in it and ends at one; the last may lack its own, and then has a byte
abbrev pub NoFeed : List ℕ → Type 0
NoFeed [] = Unit {0}
NoFeed (b ∷ bs) = (¬ (b ≡ 10)) × NoFeed bs

pub data LinesAre : List ℕ → List (List ℕ) → Type 0 where
  over : LinesAre [] []
  rest : {b : ℕ} {bs : List ℕ} → NoFeed (b ∷ bs) → LinesAre (b ∷ bs) ((b ∷ bs) ∷ [])
  ends : {l bytes : List ℕ} {lines : List (List ℕ)} → NoFeed l → LinesAre bytes lines → LinesAre (l ++ 10 ∷ bytes) (l ∷ lines)

-- what a session prints for some lines
unfoldable pub printed : Session → List (List ℕ) → List ℕ
printed s [] = []
printed s (line ∷ lines) = (answered s line).text ++ printed (answered s line).session lines

-- what the program prints for its whole input
abbrev pub transcript : List ℕ → List ℕ
transcript bytes = printed fresh_session (lines_of bytes)

-- a reader has room for one byte more than a line may have: that byte makes the line too long
abbrev pub reader_room : ℕ
reader_room = line_limit + 1

-- the bytes of a reader, and the reader of some bytes
abbrev pub bytes_of : Reader → List ℕ
bytes_of reader = take reader.len reader.line

abbrev pub reader_of : List ℕ → Reader
reader_of l = record { line = pad reader_room 0 l; len = length l }

abbrev pub HeldLine : Reader → Type 0
HeldLine reader = Held reader_room 0 reader.line reader.len (bytes_of reader)

-- one more byte, unless the line is too long already
abbrev pub grown : List ℕ → ℕ → List ℕ
grown l b = cond (ltb (length l) reader_room) (l ++ b ∷ []) l

-- a state whose session is ready and whose reader holds a line
pub record ReadyState (state : State) : Type 0 where
  pub session : Ready state.session
  pub reader : HeldLine state.reader

abbrev pub fresh_state : State
fresh_state = record { session = fresh_session; reader = reader_of [] }

-- what a byte leads to: the state afterwards, and what is printed
pub record Step : Type 0 where
  pub state : State
  pub text : List ℕ

-- a line feed ends the line, which is answered; any other byte makes it longer
abbrev pub line_ended : State → Step
line_ended s =
    record {
      state = record { session = (answered s.session (bytes_of s.reader)).session; reader = reader_of [] };
      text = (answered s.session (bytes_of s.reader)).text;
    }

abbrev pub line_grown : State → ℕ → Step
line_grown s b = record { state = record { session = s.session; reader = reader_of (grown (bytes_of s.reader) b) }; text = [] }

abbrev pub byte_taken : State → ℕ → Step
byte_taken s b = cond (eqb b 10) (line_ended s) (line_grown s b)

-- what some bytes lead to: the state afterwards, the place behind those that were taken, and what is printed
pub record Gathered : Type 0 where
  pub state : State
  pub next : ℕ
  pub text : List ℕ

abbrev pub gather : Gathered → ℕ → Gathered
gather g b =
    record {
      state = (byte_taken g.state b).state;
      next = g.next + 1;
      text = g.text ++ (byte_taken g.state b).text;
    }

-- the bytes are taken one by one, while there is room for one more answer
unfoldable pub gathered : ℕ → Gathered → List ℕ → Gathered
gathered room g [] = g
gathered room g (b ∷ bs) = cond (leb (length g.text + longest) room) (gathered room (gather g b) bs) g

abbrev pub served : ℕ → State → ℕ → List ℕ → Gathered
served room s at bytes = gathered room (record { state = s; next = at; text = [] }) bytes

pub record Serves (s : State) (bytes : List ℕ) (at : ℕ) (r : Served) (out after : List ℕ) : Type 0 where
  pub state : r.state ≡ (served (length out) s at bytes).state
  pub next : r.next ≡ (served (length out) s at bytes).next
  pub len : r.len ≡ length (served (length out) s at bytes).text
  pub text : after ≡ (served (length out) s at bytes).text ++ drop r.len out
  pub fits : r.len ≤ length out

-- whether a line is begun, and the bytes that the end of the input stands for: the line feed that such a line lacks
abbrev pub begun : State → Bool
begun s = ltb 0 s.reader.len

abbrev pub last_feed : State → List ℕ
last_feed s = cond (begun s) (10 ∷ []) []

-- the pieces of an input, one behind the other
unfoldable pub joined : List (List ℕ) → List ℕ
joined [] = []
joined (piece ∷ pieces) = piece ++ joined pieces

-- what the program prints from a state on, at a place of a piece and with pieces to come, where the lent slice has so much room. It gathers from the
-- piece until that is used up, each time as much as there is room for, and then from the next. At the end of the input it gathers from the line feed
-- that a begun line lacks
pub data Prints (room : ℕ) : State → List ℕ → ℕ → List (List ℕ) → List ℕ → Type 0 where
  some : {s : State} {piece : List ℕ} {at : ℕ} {pieces : List (List ℕ)} {text : List ℕ} → at < length piece
      → Prints room (served room s at (drop at piece)).state piece (served room s at (drop at piece)).next pieces text
      → Prints room s piece at pieces ((served room s at (drop at piece)).text ++ text)
  next : {s : State} {piece more : List ℕ} {at : ℕ} {pieces : List (List ℕ)} {text : List ℕ} → length piece ≤ at
      → Prints room s more 0 pieces text → Prints room s piece at (more ∷ pieces) text
  end : {s : State} {piece : List ℕ} {at : ℕ} → length piece ≤ at → Prints room s piece at [] (served room s 0 (last_feed s)).text
