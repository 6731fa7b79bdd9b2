-- Bytes that are served piece by piece lead to the state after all of them: each that is taken leaves the same to come.
-- Assumes nothing.
use Rattle.std.proofs.Common.{◌≡◌, refl, sym, ap, ◌∙◌, Bool, true, false, cond, List, [], ◌∷◌, ℕ, ◌+◌, ◌-◌, ◌<◌, ◌≤◌, leb, length, take, drop, arith, length-drop, take_all}
use Rattle.std.proofs.Math.Seq.{drop-drop}
use Rattle.command.specs.declared.lines.State.{State}
use Rattle.command.specs.declared.lines.Served.{Served}
use Rattle.command.specs.Text.{longest}
use Rattle.command.specs.Lines.{Gathered, gather, gathered, Serves}
use Rattle.command.proofs.ServedLines.{served_further}
use Rattle.terminal.specs.Reads.{state_after}

module _ (room : ℕ) (piece : List ℕ) where
  abbrev to_come_lem : Gathered → State
  to_come_lem g = state_after g.state (drop g.next piece)

  gathered_leads : (bytes : List ℕ) (g : Gathered) → drop g.next piece ≡ bytes → to_come_lem (gathered room g bytes) ≡ to_come_lem g
  unfolding gathered state_after
  gathered_leads [] g e = refl
  gathered_leads (b ∷ bytes) g e = go (leb (length g.text + longest) room) (gathered_leads bytes (gather g b) tail)
    where
      tail : drop (g.next + 1) piece ≡ bytes
      tail = sym (drop-drop 1 g.next piece) ∙ ap (drop 1) e

      go : (free : Bool) → to_come_lem (gathered room (gather g b) bytes) ≡ to_come_lem (gather g b) → to_come_lem (cond free (gathered room (gather g b) bytes) g) ≡ to_come_lem g
      go true more = more ∙ rw (tail, e) refl
      go false more = refl

  -- no more bytes are taken than there are
  gathered_within : (bytes : List ℕ) (g : Gathered) → (gathered room g bytes).next ≤ g.next + length bytes
  unfolding gathered
  gathered_within [] g = omega arith
  gathered_within (b ∷ bytes) g = go (leb (length g.text + longest) room) (gathered_within bytes (gather g b))
    where
      go : (free : Bool) → (gathered room (gather g b) bytes).next ≤ g.next + 1 + length bytes → (cond free (gathered room (gather g b) bytes) g).next ≤ g.next + length (b ∷ bytes)
      go true h = omega arith
      go false h = omega arith

-- what is served of some bytes: one at least, no more than there are, and those that are left lead where all lead
module _ {s : State} {bytes out after : List ℕ} {r : Served} (v : Serves s bytes 0 r out after) where
  pub serves_some : longest ≤ length out → 0 < length bytes → 0 < r.next
  serves_some enough some = omega (arith, v.next, served_further (length out) s 0 bytes enough some)

  pub serves_within : r.next ≤ length bytes
  serves_within = omega (arith, v.next, gathered_within (length out) bytes bytes (record { state = s; next = 0; text = [] }))

  pub serves_leads : state_after r.state (take (length bytes - r.next) (drop r.next bytes)) ≡ state_after s bytes
  serves_leads =
      ap (state_after r.state) (take_all (length bytes - r.next) (drop r.next bytes) (omega (arith, length-drop r.next bytes)))
      ∙ (λ i. state_after (v.state i) (drop (v.next i) bytes))
      ∙ gathered_leads (length out) bytes bytes (record { state = s; next = 0; text = [] }) refl
