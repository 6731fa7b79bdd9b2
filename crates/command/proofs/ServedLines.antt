-- The bytes that are taken one by one lead to what all of them lead to from the start: a byte that is no line feed makes the line longer, a line feed has
-- the line answered, and where the bytes are over or there is no room for an answer this is all.
-- Assumes nothing.
use mathlib.Core.Path.{◌≡◌, refl, sym, ap, ◌∙◌}
use mathlib.Core.Bool.{Bool, true, false, cond}
use mathlib.Core.List.{List, [], ◌∷◌, ◌++◌, append-nil}
use Prim.Native.Nat.{ℕ, suc, ◌+◌, ◌-◌, ◌≤◌, ◌<◌}
use native.Mathlib.Numerals.{add-one}
use native.Mathlib.Omega.{arith}
use borrow.Author.Tests.{eq-eqb, ne_eqb, le-leb, lt-leb}
use lib.Dec.{leb}
use lib.ListN.{length, take, drop, get_or, length-drop, drop_of_length-le}
use lib.Seq.{drop-cons, take_all}
use denote.Ref.{Bor}
use mathlib.Core.Logic.{⊎_elim}
use Rattle.std.specs.Prelude.{Option, Some, None}
use Rattle.std.specs.Option.{unwrap_or}
use Rattle.std.specs.Slice.{IsGetRangeResult}
use Rattle.time_table.specs.Held.{Held}
use Rattle.time_table.proofs.Held.{held_list, held_self}
use Rattle.command.specs.declared.Session.{Session}
use Rattle.command.specs.declared.lines.State.{State}
use Rattle.command.specs.declared.text.Writer.{Writer}
use Rattle.command.specs.Text.{longest}
use Rattle.command.specs.Written.{Room, Written}
use Rattle.command.specs.Sessions.{Ready, answered}
use Rattle.command.specs.Lines.{reader_room, bytes_of, reader_of, grown, Gathered, gather, gathered, served, Serves}
use Rattle.command.proofs.LineBytes.{reader_is, reader_bytes}
use Rattle.command.proofs.WrittenText.{written_length, written_more, written_front}

pub no_line_held : Held reader_room 0 (reader_of []).line 0 []
no_line_held = record { is = refl; counts = refl; fits = omega arith }

-- one byte more, or none
module _ (room : ℕ) (g : Gathered) where
  pub gathered_full : (bytes : List ℕ) → room < length g.text + longest → gathered room g bytes ≡ g
  unfolding gathered
  gathered_full [] full = refl
  gathered_full (b ∷ bytes) full = simp (lt-leb (length g.text + longest) room full)

  pub gathered_byte : (b : ℕ) (bytes : List ℕ) → length g.text + longest ≤ room → gathered room g (b ∷ bytes) ≡ gathered room (gather g b) bytes
  unfolding gathered
  gathered_byte b bytes free = simp (le-leb (length g.text + longest) room free)

-- a byte that is there is taken
gathered_past : (room : ℕ) (bytes : List ℕ) (g : Gathered) → g.next ≤ (gathered room g bytes).next
unfolding gathered
gathered_past room [] g = omega arith
gathered_past room (b ∷ bytes) g = go (leb (length g.text + longest) room) (gathered_past room bytes (gather g b))
  where
    go : (free : Bool) → g.next + 1 ≤ (gathered room (gather g b) bytes).next → g.next ≤ (cond free (gathered room (gather g b) bytes) g).next
    go true h = omega arith
    go false h = omega arith

pub served_further : (room : ℕ) (s : State) (at : ℕ) (chunk : List ℕ) → longest ≤ room → at < length chunk → at < (served room s at (drop at chunk)).next
served_further room s at chunk enough inside =
    let g : Gathered = record { state = s; next = at; text = [] } in
    let b = get_or chunk at 0 in
    let rest = drop (suc at) chunk in
    rw (drop-cons chunk at 0 inside, gathered_byte room g b rest (omega (arith, enough))) (omega (arith, gathered_past room rest (gather g b)))

-- Where the bytes are counted from changes the place that is told, and nothing else: what is left of a piece is served from its own front on (`serve_all` of
-- `terminal`) as it is from its place in the piece (`Prints` in specs/Lines.antt).
abbrev counted_on : ℕ → Gathered → Gathered
counted_on at g = record { state = g.state; next = at + g.next; text = g.text }

gathered_on : (room at : ℕ) (bytes : List ℕ) (g : Gathered) → gathered room (counted_on at g) bytes ≡ counted_on at (gathered room g bytes)
unfolding gathered
gathered_on room at [] g = refl
gathered_on room at (b ∷ bytes) g =
    let e : at + g.next + 1 ≡ at + (g.next + 1) = omega arith in
    let turned : gather (counted_on at g) b ≡ counted_on at (gather g b) =
    λ i. record { state = (gather g b).state; next = e i; text = (gather g b).text } in
    go (leb (length g.text + longest) room) (ap (λ (x : Gathered). gathered room x bytes) turned ∙ gathered_on room at bytes (gather g b))
  where
    go : (free : Bool) → gathered room (gather (counted_on at g) b) bytes ≡ counted_on at (gathered room (gather g b) bytes)
        → cond free (gathered room (gather (counted_on at g) b) bytes) (counted_on at g) ≡ counted_on at (cond free (gathered room (gather g b) bytes) g)
    go true more = more
    go false more = refl

pub served_on : (room : ℕ) (s : State) (at : ℕ) (bytes : List ℕ)
    → served room s at bytes ≡ record { state = (served room s 0 bytes).state; next = at + (served room s 0 bytes).next; text = (served room s 0 bytes).text }
served_on room s at bytes =
    let e : at ≡ at + 0 = omega arith in
    (λ i. gathered room (record { state = s; next = e i; text = [] }) bytes) ∙ gathered_on room at bytes (record { state = s; next = 0; text = [] })

-- the bytes from a place on, and none from a place behind the last
pub bytes_from : (chunk : List ℕ) (from : ℕ) (found : Option (Bor (List ℕ))) (none : Bor (List ℕ)) → IsGetRangeResult chunk from (length chunk) found → none.now ≡ []
    → (unwrap_or found none).now ≡ drop from chunk
bytes_from chunk from None none found e = e ∙ sym (drop_of_length-le chunk (⊎_elim (λ past. omega arith) (λ past. omega arith) found.0))
bytes_from chunk from (Some part) none found e = found.0.2 ∙ take_all (length chunk - from) (drop from chunk) (omega (arith, length-drop from chunk))

-- what the turns of the loop keep: the answers so far stand in the slice, and the bytes to come lead to what all lead to
abbrev pub here : Session → List ℕ → ℕ → List ℕ → Gathered
here s l at text = record { state = record { session = s; reader = reader_of l }; next = at; text = text }

pub record Serving (all : Gathered) (bytes : List ℕ) (w₀ : Writer) (s : Session) (line : List ℕ) (len i next : ℕ) (w : Writer) : Type 0 where
  pub text : List ℕ
  pub front : w₀.len ≡ 0
  pub wrote : Written w₀ text w
  pub leads : all ≡ gathered (length w₀.out.now) (here s (take len line) next text) (drop i bytes)
  pub ready : Ready s
  pub held : Held reader_room 0 line len (take len line)

module _ {all : Gathered} {bytes line : List ℕ} {w₀ w : Writer} {s : Session} {len i next : ℕ} (v : Serving all bytes w₀ s line len i next w) where
  abbrev room : ℕ
  room = length w₀.out.now

  abbrev now_at : Gathered
  now_at = here s (take len line) next v.text

  -- the line is what the reader holds
  bytes_held : bytes_of (reader_of (take len line)) ≡ take len line
  bytes_held = let h = v.held in reader_bytes (take len line) (omega (arith, h.counts, h.fits))

  module _ (inside : i < length bytes) (free : Room w longest) where
    abbrev byte : ℕ
    byte = get_or bytes i 0

    taken : all ≡ gathered room (gather now_at byte) (drop (i + 1) bytes)
    taken =
        v.leads
        ∙ ap (gathered room now_at) (rw (add-one i) (drop-cons bytes i 0 inside))
        ∙ gathered_byte room now_at byte (drop (i + 1) bytes) (omega (arith, free, v.front, v.wrote.place, written_length v.wrote))

    -- a byte that is no line feed, and a line feed
    longer : {l : List ℕ} → ¬ (byte ≡ 10) → grown (take len line) byte ≡ l → gather now_at byte ≡ here s l (next + 1) v.text
    longer other e =
        simp (ne_eqb byte 10 other)
        (λ k. record { state = record { session = s; reader = reader_of ((ap (λ (l : List ℕ). grown l byte) bytes_held ∙ e) k) }; next = next + 1; text = append-nil v.text k })

    ended : {s' : Session} {t : List ℕ} → byte ≡ 10 → answered s (take len line) ≡ record { session = s'; text = t } → gather now_at byte ≡ here s' [] (next + 1) (v.text ++ t)
    ended feed is =
        simp (eq-eqb byte 10 feed)
        (λ k.
        let o = (ap (answered s) bytes_held ∙ is) k in
        record { state = record { session = o.session; reader = reader_of [] }; next = next + 1; text = v.text ++ o.text })

    pub serving_byte : {line' : List ℕ} {len' : ℕ} → ¬ (byte ≡ 10) → Held reader_room 0 line' len' (grown (take len line) byte)
        → Serving all bytes w₀ s line' len' (i + 1) (next + 1) w
    serving_byte other held =
        record {
          text = v.text;
          front = v.front;
          wrote = v.wrote;
          leads = taken ∙ ap (λ (g : Gathered). gathered room g (drop (i + 1) bytes)) (longer other (sym (held_list held)));
          ready = v.ready;
          held = held_self held;
        }

    pub serving_line : {s' : Session} {t : List ℕ} {w' : Writer} → byte ≡ 10 → answered s (take len line) ≡ record { session = s'; text = t }
        → Written w t w' → Ready s' → Serving all bytes w₀ s' (reader_of []).line 0 (i + 1) (next + 1) w'
    serving_line {s'} {t} feed is wrote ready =
        record {
          text = v.text ++ t;
          front = v.front;
          wrote = written_more v.wrote wrote;
          leads = taken ∙ ap (λ (g : Gathered). gathered room g (drop (i + 1) bytes)) (ended feed is);
          ready = ready;
          held = no_line_held;
        }

  -- and what holds at the end
  pub serving_over : length bytes ≤ i → all ≡ now_at
  unfolding gathered
  serving_over past = v.leads ∙ rw (drop_of_length-le bytes past) refl

  pub serving_full : length w.out.now < w.len + longest → all ≡ now_at
  serving_full full = v.leads ∙ gathered_full room now_at (drop i bytes) (omega (arith, full, v.front, v.wrote.place, written_length v.wrote))

  -- so what all lead to is served
  pub serving_done : {s₀ : State} {from : ℕ} {given out after : List ℕ} → served room s₀ from given ≡ all → all ≡ now_at → w₀.out.now ≡ out → after ≡ w.out.now
      → Serves s₀ given from (record { state = record { session = s; reader = record { line = line; len = len } }; next = next; len = w.len }) out after
  serving_done from_start over before after_is =
      let e = sym (from_start ∙ over) in
      rw (after_is, ← before) record {
        state = (λ k. record { session = s; reader = reader_is v.held k }) ∙ ap (λ (g : Gathered). g.state) e;
        next = ap (λ (g : Gathered). g.next) e;
        len = omega (arith, v.front, v.wrote.place) ∙ ap (λ (g : Gathered). length g.text) e;
        text = written_front v.front v.wrote ∙ ap (λ (g : Gathered). g.text ++ drop w.len w₀.out.now) e;
        fits = v.wrote.fits;
      }
