-- Whatever pieces the input arrives in and whatever room there is for answers, what is printed for them, one after the other, is the transcript of the
-- whole input: each byte that is taken leaves the same to be printed in all.
-- Assumes nothing.
use mathlib.Core.Path.{◌≡◌, refl, sym, ap, ◌∙◌, subst}
use mathlib.Core.Bool.{Bool, true, false, cond}
use mathlib.Core.List.{List, [], ◌∷◌, ◌++◌, append-nil, append_assoc}
use mathlib.Core.Logic.{⊎_elim}
use Prim.Native.Nat.{ℕ, zero, suc, ◌+◌, ◌≤◌, ◌<◌}
use native.Mathlib.Decide.{ℕ_discrete}
use native.Mathlib.Omega.{arith}
use borrow.Author.Tests.{lt-ltb, le-ltb}
use lib.Dec.{eqb, leb}
use lib.ListN.{length, drop, length-append, drop_of_length-le}
use lib.Seq.{drop-drop}
use Rattle.time_table.proofs.Held.{held_self}
use Rattle.time_table.proofs.Sums.{lt_or_le}
use Rattle.command.specs.declared.Session.{Session}
use Rattle.command.specs.declared.lines.State.{State}
use Rattle.command.specs.Grammar.{line_limit}
use Rattle.command.specs.Text.{longest}
use Rattle.command.specs.Sessions.{outcome, answered}
use Rattle.command.specs.Lines.{lines_after, last_line, printed, transcript, bytes_of, reader_of, HeldLine, grown, fresh_state, line_ended, line_grown, byte_taken, Gathered, gather, gathered, served, last_feed, joined, Prints, some, next, end, reader_room}
use Rattle.command.proofs.LineFields.{line_long}
use Rattle.command.proofs.LineBytes.{grown_more, grown_full, reader_bytes}
use Rattle.command.proofs.ServedLines.{gathered_byte, served_further}

-- two lines that are too long are answered alike
alike : (s : Session) (l m : List ℕ) → line_limit < length l → line_limit < length m → answered s l ≡ answered s m
alike s l m p q = ap (outcome s) (line_long l p ∙ sym (line_long m q))

last_line_lem : (l : List ℕ) → 0 < length l → last_line l ≡ l ∷ []
last_line_lem [] h = absurd (omega arith)
last_line_lem (b ∷ bs) h = refl

long : (bytes : List ℕ) (s : Session) (l m : List ℕ) → line_limit < length l → line_limit < length m → printed s (lines_after l bytes) ≡ printed s (lines_after m bytes)
unfolding lines_after printed
long [] s l m p q =
    rw (last_line_lem l (omega arith), last_line_lem m (omega arith))
    (λ i. (alike s l m p q i).text ++ [])
long (b ∷ bytes) s l m p q = go (eqb b 10)
    (long bytes s (l ++ b ∷ []) (m ++ b ∷ []) (omega (arith, length-append l (b ∷ []))) (omega (arith, length-append m (b ∷ []))))
  where
    go : (feed : Bool) → printed s (lines_after (l ++ b ∷ []) bytes) ≡ printed s (lines_after (m ++ b ∷ []) bytes)
        → printed s (cond feed (l ∷ lines_after [] bytes) (lines_after (l ++ b ∷ []) bytes))
        ≡ printed s (cond feed (m ∷ lines_after [] bytes) (lines_after (m ++ b ∷ []) bytes))
    go true h = λ i. (alike s l m p q i).text ++ printed (alike s l m p q i).session (lines_after [] bytes)
    go false h = h

-- one more byte may be left away where the line is too long
grown_alike : (bytes : List ℕ) (s : Session) (l : List ℕ) (b : ℕ) → printed s (lines_after (l ++ b ∷ []) bytes) ≡ printed s (lines_after (grown l b) bytes)
grown_alike bytes s l b =
    ⊎_elim
    (λ room. ap (λ (x : List ℕ). printed s (lines_after x bytes)) (sym (grown_more l b room)))
    (λ full. long bytes s (l ++ b ∷ []) l (omega (arith, length-append l (b ∷ []))) (omega arith) ∙ ap (λ (x : List ℕ). printed s (lines_after x bytes)) (sym (grown_full l b full)))
    (lt_or_le (length l) reader_room)

grown_small : (l : List ℕ) (b : ℕ) → length l ≤ reader_room → length (grown l b) ≤ reader_room
grown_small l b h =
    ⊎_elim
    (λ room. rw (grown_more l b room) (omega (arith, length-append l (b ∷ []))))
    (λ full. rw (grown_full l b full) h)
    (lt_or_le (length l) reader_room)

-- what is printed in all from a state on
abbrev to_come : State → List ℕ → List ℕ
to_come st bytes = printed st.session (lines_after (bytes_of st.reader) bytes)

line_short : (st : State) → HeldLine st.reader → length (bytes_of st.reader) ≤ reader_room
line_short st h = omega (arith, h.counts, h.fits)

-- the reader goes on to hold a line
reader_held : (l : List ℕ) → length l ≤ reader_room → HeldLine (reader_of l)
reader_held l h = held_self {cap = reader_room} {n = length l} {blank = 0} {arr = (reader_of l).line} {l = l} (record { is = refl; counts = refl; fits = h })

module _ (st : State) (b : ℕ) (h : HeldLine st.reader) where
  byte_held : HeldLine (byte_taken st b).state.reader
  byte_held = go (eqb b 10)
    where
      go : (feed : Bool) → HeldLine (cond feed (line_ended st) (line_grown st b)).state.reader
      go true = reader_held [] (omega arith)
      go false = reader_held (grown (bytes_of st.reader) b) (grown_small (bytes_of st.reader) b (line_short st h))

  -- a byte prints what it prints, and then what is left
  byte_prints : (bytes : List ℕ) → to_come st (b ∷ bytes) ≡ (byte_taken st b).text ++ to_come (byte_taken st b).state bytes
  unfolding lines_after printed
  byte_prints bytes = go (eqb b 10)
    where
      l : List ℕ
      l = bytes_of st.reader

      go : (feed : Bool) → printed st.session (cond feed (l ∷ lines_after [] bytes) (lines_after (l ++ b ∷ []) bytes))
          ≡ (cond feed (line_ended st) (line_grown st b)).text ++ to_come (cond feed (line_ended st) (line_grown st b)).state bytes
      go true = refl
      go false = grown_alike bytes st.session l b ∙ ap (λ (x : List ℕ). printed st.session (lines_after x bytes)) (sym (reader_bytes (grown l b) (grown_small l b (line_short st h))))

-- bytes of a piece, one by one
module _ (room : ℕ) (piece later : List ℕ) where
  abbrev all_from : Gathered → List ℕ
  all_from g = g.text ++ to_come g.state (drop g.next piece ++ later)

  gathered_prints : (bytes : List ℕ) (g : Gathered) → drop g.next piece ≡ bytes → HeldLine g.state.reader → all_from (gathered room g bytes) ≡ all_from g
  unfolding gathered
  gathered_prints [] g e h = refl
  gathered_prints (b ∷ bytes) g e h = go (leb (length g.text + longest) room) (gathered_prints bytes (gather g b) tail (byte_held g.state b h))
    where
      tail : drop (g.next + 1) piece ≡ bytes
      tail = sym (drop-drop 1 g.next piece) ∙ ap (drop 1) e

      one : all_from (gather g b) ≡ all_from g
      one =
          rw (tail, e)
          (append_assoc g.text (byte_taken g.state b).text _
          ∙ ap (λ (l : List ℕ). g.text ++ l) (sym (byte_prints g.state b h (bytes ++ later))))

      go : (free : Bool) → all_from (gathered room (gather g b) bytes) ≡ all_from (gather g b) → all_from (cond free (gathered room (gather g b) bytes) g) ≡ all_from g
      go true more = more ∙ one
      go false more = refl

gathered_held : (room : ℕ) (bytes : List ℕ) (g : Gathered) → HeldLine g.state.reader → HeldLine (gathered room g bytes).state.reader
unfolding gathered
gathered_held room [] g h = h
gathered_held room (b ∷ bytes) g h = go (leb (length g.text + longest) room) (gathered_held room bytes (gather g b) (byte_held g.state b h))
  where
    go : (free : Bool) → HeldLine (gathered room (gather g b) bytes).state.reader → HeldLine (cond free (gathered room (gather g b) bytes) g).state.reader
    go true more = more
    go false more = h

no_bytes : (l : List ℕ) → length l ≡ 0 → l ≡ []
no_bytes [] e = refl
no_bytes (b ∷ bs) e = absurd (omega arith)

module _ (room : ℕ) (enough : longest ≤ room) where
  -- at the end the line feed is served that a line lacks which was begun
  finish : (st : State) → HeldLine st.reader → to_come st [] ≡ (served room st 0 (last_feed st)).text
  unfolding lines_after printed gathered
  finish st h =
      elim (ℕ_discrete st.reader.len 0) [
        | yes none ↦ rw (no_bytes (bytes_of st.reader) (omega (arith, h.counts)), le-ltb 0 st.reader.len (omega arith)) refl
        | no begun ↦
            rw (last_line_lem (bytes_of st.reader) (omega (arith, h.counts)), lt-ltb 0 st.reader.len (omega arith))
            (append-nil _ ∙ ap (λ (g : Gathered). g.text) (sym (gathered_byte room (record { state = st; next = 0; text = [] }) 10 [] (omega (arith, enough)))))
      ]

  -- from a place of a piece on, with pieces to come
  from_there : {st : State} {piece : List ℕ} {at : ℕ} {pieces : List (List ℕ)} {text : List ℕ} → Prints room st piece at pieces text → HeldLine st.reader
      → text ≡ to_come st (drop at piece ++ joined pieces)
  unfolding joined
  from_there {st} {piece} {at} {pieces} (some {text = text} inside p) h =
      let r = served room st at (drop at piece) in
      ap (λ (t : List ℕ). r.text ++ t) (from_there p (gathered_held room (drop at piece) _ h))
      ∙ gathered_prints room piece (joined pieces) (drop at piece) (record { state = st; next = at; text = [] }) refl h
  from_there {st} {piece} {at} (next past p) h = rw (drop_of_length-le piece past) (from_there p h)
  from_there {st} {piece} {at} (end past) h = rw (drop_of_length-le piece past) (sym (finish st h))

  pub any_pieces : (pieces : List (List ℕ)) (text : List ℕ) → Prints room fresh_state [] 0 pieces text → text ≡ transcript (joined pieces)
  any_pieces pieces text p = from_there p (reader_held [] (omega arith))

  -- and there is such a run for all pieces: a byte at least is taken each time
  abbrev Run : State → List ℕ → ℕ → List (List ℕ) → Type 0
  Run st piece at pieces = (text : List ℕ) × Prints room st piece at pieces text

  within : (k : ℕ) (pieces : List (List ℕ)) → ((st : State) (piece : List ℕ) (at : ℕ) → length piece ≤ at → Run st piece at pieces)
      → (st : State) (piece : List ℕ) (at : ℕ) → length piece ≤ at + k → Run st piece at pieces
  within zero pieces rest st piece at h = rest st piece at (omega arith)
  within (suc k) pieces rest st piece at h =
      ⊎_elim
      (λ inside. let g = served room st at (drop at piece) in
      let r = within k pieces rest g.state piece g.next (omega (arith, served_further room st at piece enough inside)) in
      (g.text ++ r.0, some inside r.1))
      (λ past. rest st piece at past)
      (lt_or_le at (length piece))

  behind : (pieces : List (List ℕ)) (st : State) (piece : List ℕ) (at : ℕ) → length piece ≤ at → Run st piece at pieces
  behind [] st piece at past = ((served room st 0 (last_feed st)).text, end past)
  behind (more ∷ pieces) st piece at past =
      let r = within (length more) pieces (behind pieces) st more 0 (omega arith) in
      (r.0, next past r.1)

  pub pieces_printed : (pieces : List (List ℕ)) → Prints room fresh_state [] 0 pieces (transcript (joined pieces))
  pieces_printed pieces =
      let r = behind pieces fresh_state [] 0 (omega arith) in
      subst (λ (text : List ℕ). Prints room fresh_state [] 0 pieces text) (any_pieces pieces r.0 r.1) r.1
