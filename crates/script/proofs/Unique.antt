-- No two outcomes meet a run's promise: it says what the result is, and what each place of the lent slice is afterwards.
-- Assumes nothing.
use mathlib.Core.Path.{◌≡◌, sym, ◌∙◌}
use mathlib.Core.List.{List}
use Prim.Native.Nat.{ℕ}
use lib.IntN.{ℤ}
use contract.Lifetimes.{Lfts}
use borrow.Fn.World.{ArgsD}
use borrow.Fn.Kinds.{ended_of}
use denote.Triple.Clauses.{AtExit}
use Rattle.script.specs.Unique.{RunPromise}
use Rattle.script.proofs.pass_planner_run.Reads as run
use Rattle.script.proofs.pass_planner_run.Kinds as kinds
use Rattle.script.specs.contracts.pass_planner_run as self

pub run_unique : (script answers : List ℤ) {a b : List ℤ} {r s : ℕ} → RunPromise script answers a r → RunPromise script answers b s → (a ≡ b) × (r ≡ s)
run_unique script answers p q = (p.0 ∙ sym q.0, p.1 ∙ sym q.1)

-- what meets the contract of `pass_planner_run` meets its promise
pub run_promised : (κs : Lfts 2) (a : ArgsD self.signature κs) (r : ℕ) (s : AtExit (ended_of 2 kinds.ps kinds.r) κs)
    → run.Post κs a r s → RunPromise a.0.now a.1.0.now s.1.0.now r
run_promised κs a r s meets = meets
