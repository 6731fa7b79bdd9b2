-- What `State::serve` promises for some bytes determines the state, the place, the length and each byte of the lent slice.
-- Assumes nothing.
use mathlib.Core.Path.{◌≡◌, sym, ap, ◌∙◌}
use mathlib.Core.List.{List, ◌++◌}
use Prim.Native.Nat.{ℕ}
use lib.ListN.{length, drop}
use contract.Lifetimes.{Lfts}
use borrow.Fn.World.{ArgsD}
use borrow.Fn.Kinds.{ended_of}
use denote.Triple.Clauses.{AtExit}
use Rattle.command.specs.declared.lines.State.{State}
use Rattle.command.specs.declared.lines.Served.{Served}
use Rattle.command.specs.Lines.{served, Serves}
use Rattle.command.proofs.lines.State.serve.Reads as serve
use Rattle.command.proofs.lines.State.serve.Kinds as serve-kinds
use Rattle.command.specs.contracts.lines.State.serve as serve-fn

pub serves_unique : (s : State) (bytes : List ℕ) (at : ℕ) (out a b : List ℕ) (r q : Served) → Serves s bytes at r out a → Serves s bytes at q out b → (a ≡ b) × (r ≡ q)
serves_unique s bytes at out a b r q g h =
    let len : r.len ≡ q.len = g.len ∙ sym h.len in (
      g.text ∙ ap (λ (n : ℕ). (served (length out) s at bytes).text ++ drop n out) len ∙ sym h.text,
      (λ i. record { state = (g.state ∙ sym h.state) i; next = (g.next ∙ sym h.next) i; len = len i }),
    )

-- what meets the contract of `State::serve` meets its promise
pub serve_promised : (κs : Lfts 2) (a : ArgsD serve-fn.signature κs) (r : Served) (s : AtExit (ended_of 2 serve-kinds.ps serve-kinds.r) κs)
    → serve.Post κs a r s → Serves a.0 (drop a.1.1.0 a.1.0.now) a.1.1.0 r a.1.1.1.0.now s.1.1.1.0.now
serve_promised κs a r s meets = meets.0
