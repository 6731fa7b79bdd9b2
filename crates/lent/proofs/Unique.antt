-- No two outcomes meet a call's promise: the promise says what the answer is, and what the lent plan or each place of the lent slice is afterwards. The
-- contract of `sound::copy_rows` is the promise of the plan that its argument holds.
-- Assumes nothing.
use mathlib.Core.Path.{◌≡◌, sym, ap, ◌∙◌, subst}
use mathlib.Core.List.{List}
use Prim.Native.Nat.{ℕ}
use lib.IntN.{ℤ}
use contract.Lifetimes.{Lfts}
use borrow.Fn.World.{ArgsD}
use borrow.Fn.Kinds.{ended_of}
use denote.Triple.Clauses.{AtExit}
use Rattle.std.specs.Prelude.{Result}
use Rattle.planner.specs.declared.Jobs.{Jobs}
use Rattle.planner.specs.declared.Refusal.{Refusal}
use Rattle.planner.specs.declared.Plan.{Plan}
use Rattle.planner.specs.declared.Loaded.{Loaded}
use Rattle.planner.specs.declared.Updated.{Updated}
use Rattle.planner.specs.declared.RowRecord.{RowRecord}
use Rattle.lent.specs.declared.Changed.{Changed}
use Rattle.lent.specs.declared.Placing.{Placing}
use Rattle.lent.specs.declared.controller.Controller.{Controller}
use Rattle.lent.specs.Promises.{LentLoadPromise, LentUpdatePromise, CopyPromise, FreshControllerPromise, BeginPromise, StepPromise}
use Rattle.lent.specs.contracts.sound.copy_rows as sound-copy-fn
use Rattle.lent.proofs.sound.copy_rows.Reads as sound-copy
use Rattle.lent.proofs.sound.copy_rows.Kinds as sound-copy-kinds
use Rattle.lent.proofs.WithoutPlan.{changed_of, placing_of}

-- the controller that keeps an update
abbrev keeper : Updated → Controller
keeper u = record { plan = u.plan; last = changed_of u }

module _ (plan : Plan) where
  pub lent_load_unique : (jobs : Jobs) (capacity : ℤ) {r s : Placing} {a b : Plan} → LentLoadPromise plan jobs capacity r a → LentLoadPromise plan jobs capacity s b → (r ≡ s) × (a ≡ b)
  lent_load_unique jobs capacity p q =
      let same = p.whole ∙ sym q.whole in
      (ap placing_of same, ap (λ (u : Loaded). u.plan) same)

  pub lent_update_unique : (id earliest latest : ℤ) {r s : Changed} {a b : Plan}
      → LentUpdatePromise plan id earliest latest r a → LentUpdatePromise plan id earliest latest s b → (r ≡ s) × (a ≡ b)
  lent_update_unique id earliest latest p q =
      let same = p.whole ∙ sym q.whole in
      (ap changed_of same, ap (λ (u : Updated). u.plan) same)

  pub copy_unique : (out : List RowRecord) {r s : Result ℕ Refusal} {a b : List RowRecord} → CopyPromise plan out r a → CopyPromise plan out s b → (r ≡ s) × (a ≡ b)
  copy_unique out {a = a} p q =
      let same = p.answer ∙ sym q.answer in
      (same, (subst (λ (c : Result ℕ Refusal). CopyPromise plan out c a) same p).slice ∙ sym q.slice)

-- what meets the contract of `sound::copy_rows` meets the promise of a copy
pub sound_copy_promised : (κs : Lfts 1) (a : ArgsD sound-copy-fn.signature κs) (r : Result ℕ Refusal) (s : AtExit (ended_of 1 sound-copy-kinds.ps sound-copy-kinds.r) κs)
    → sound-copy.Post κs a r s → CopyPromise a.0.plan a.1.0.now r s.1.0.now
sound_copy_promised κs a r s meets = meets

pub fresh_controller_unique : {r s : Controller} → FreshControllerPromise r → FreshControllerPromise s → r ≡ s
fresh_controller_unique p q = p.whole ∙ sym q.whole

module _ (controller : Controller) where
  pub begin_unique : (jobs : Jobs) (capacity : ℤ) {r s : Controller} → BeginPromise controller jobs capacity r → BeginPromise controller jobs capacity s → r ≡ s
  begin_unique jobs capacity p q = ap keeper (p.whole ∙ sym q.whole)

  pub step_unique : (id earliest latest : ℤ) {r s : Controller} → StepPromise controller id earliest latest r → StepPromise controller id earliest latest s → r ≡ s
  step_unique id earliest latest p q = ap keeper (p.whole ∙ sym q.whole)
