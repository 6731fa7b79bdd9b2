-- No two outcomes meet a function's promise: the promise says what the outcome is; and a promise is what the `ensures` clauses in the code say, as they are
-- read off them.
-- Assumes nothing.
use Rattle.std.specs.Prelude.{Option, Result, IfOk}
use mathlib.Core.Path.{◌≡◌, sym, ◌∙◌}
use Prim.Native.Nat.{ℕ}
use lib.IntN.{ℤ}
use contract.Lifetimes.{Lfts}
use borrow.Fn.World.{ArgsD}
use borrow.Fn.Kinds.{ended_of}
use denote.Triple.Clauses.{AtExit}
use Rattle.planner.specs.declared.Job.{Job}
use Rattle.planner.specs.declared.Jobs.{Jobs}
use Rattle.planner.specs.declared.Plan.{Plan}
use Rattle.planner.specs.declared.Refusal.{Refusal}
use Rattle.planner.specs.declared.RowRecord.{RowRecord}
use Rattle.planner.specs.declared.Rows.{Rows}
use Rattle.planner.specs.declared.Updated.{Updated}
use Rattle.planner.specs.declared.Loaded.{Loaded}
use Rattle.planner.specs.Shown.{Shown}
use Rattle.planner.specs.Unique.{FreshPromise, LoadPromise, UpdatePromise, FitPromise, RowsPromise, EmptyPromise, KeepPromise, NumberPromise, NoRecordPromise}
use Rattle.planner.proofs.Plan.fresh.Reads as fresh
use Rattle.planner.proofs.Plan.load.Reads as load
use Rattle.planner.proofs.Plan.update.Reads as update
use Rattle.planner.specs.contracts.Plan.first_fit as fit-fn
use Rattle.planner.proofs.Plan.first_fit.Reads as fit
use Rattle.planner.proofs.Plan.first_fit.Kinds as fit-kinds
use Rattle.planner.specs.contracts.Plan.rows as rows-fn
use Rattle.planner.proofs.Plan.rows.Reads as rows
use Rattle.planner.proofs.Plan.rows.Kinds as rows-kinds
use Rattle.planner.specs.contracts.sound.Plan.first_fit as sound-fit-fn
use Rattle.planner.proofs.sound.Plan.first_fit.Reads as sound-fit
use Rattle.planner.proofs.sound.Plan.first_fit.Kinds as sound-fit-kinds
use Rattle.planner.specs.contracts.sound.Plan.rows as sound-rows-fn
use Rattle.planner.proofs.sound.Plan.rows.Reads as sound-rows
use Rattle.planner.proofs.sound.Plan.rows.Kinds as sound-rows-kinds
use Rattle.planner.proofs.Jobs.empty.Reads as empty
use Rattle.planner.proofs.Jobs.keep.Reads as keep
use Rattle.planner.proofs.Refusal.number.Reads as number
use Rattle.planner.proofs.records.no_record.Reads as no_record

pub fresh_unique : {r s : Plan} → FreshPromise r → FreshPromise s → r ≡ s
fresh_unique p q = p.0 ∙ sym q.0

module _ (plan : Plan) where
  pub load_unique : (jobs : Jobs) (capacity : ℤ) {r s : Loaded} → LoadPromise plan jobs capacity r → LoadPromise plan jobs capacity s → r ≡ s
  load_unique jobs capacity p q = p.0 ∙ sym q.0

  pub update_unique : (id earliest latest : ℤ) {r s : Updated} → UpdatePromise plan id earliest latest r → UpdatePromise plan id earliest latest s → r ≡ s
  update_unique id earliest latest p q = p.0 ∙ sym q.0

  pub fit_unique : (id : ℤ) {r s : Result (Option ℤ) Refusal} → FitPromise plan id r → FitPromise plan id s → r ≡ s
  fit_unique id p q = p ∙ sym q

  pub rows_unique : {r s : Result Rows Refusal} → RowsPromise plan r → RowsPromise plan s → r ≡ s
  rows_unique p q = p ∙ sym q

pub empty_unique : {r s : Jobs} → EmptyPromise r → EmptyPromise s → r ≡ s
empty_unique p q = p ∙ sym q

pub keep_unique : (jobs : Jobs) (job : Job) {r s : Jobs} → KeepPromise jobs job r → KeepPromise jobs job s → r ≡ s
keep_unique jobs job p q = p ∙ sym q

pub number_unique : (why : Refusal) {r s : ℕ} → NumberPromise why r → NumberPromise why s → r ≡ s
number_unique why p q = p ∙ sym q

pub no_record_unique : {r s : RowRecord} → NoRecordPromise r → NoRecordPromise s → r ≡ s
no_record_unique p q = p ∙ sym q

-- what meets a function's contract meets its promise
pub fresh_promised : (r : Plan) → fresh.Post tt tt r tt → FreshPromise r
fresh_promised r meets = meets

module _ (plan : Plan) where
  pub load_promised : (jobs : Jobs) (capacity : ℤ) (r : Loaded) → load.Post tt (plan, (jobs, (capacity, tt))) r (plan, (jobs, (capacity, tt))) → LoadPromise plan jobs capacity r
  load_promised jobs capacity r meets = meets

  pub update_promised : (id earliest latest : ℤ) (r : Updated)
      → update.Post tt (plan, (id, (earliest, (latest, tt)))) r (plan, (id, (earliest, (latest, tt)))) → UpdatePromise plan id earliest latest r
  update_promised id earliest latest r meets = meets

pub fit_promised : (κs : Lfts 1) (a : ArgsD fit-fn.signature κs) (r : Result (Option ℤ) Refusal) (s : AtExit (ended_of 1 fit-kinds.ps fit-kinds.r) κs)
    → fit.Post κs a r s → FitPromise a.0.now a.1.0 r
fit_promised κs a r s meets = meets

pub rows_promised : (κs : Lfts 1) (a : ArgsD rows-fn.signature κs) (r : Result Rows Refusal) (s : AtExit (ended_of 1 rows-kinds.ps rows-kinds.r) κs)
    → rows.Post κs a r s → RowsPromise a.0.now r × IfOk r Shown
rows_promised κs a r s meets = meets

-- the same promises of the plan that a `sound::Plan` holds
pub sound_fit_promised : (κs : Lfts 1) (a : ArgsD sound-fit-fn.signature κs) (r : Result (Option ℤ) Refusal) (s : AtExit (ended_of 1 sound-fit-kinds.ps sound-fit-kinds.r) κs)
    → sound-fit.Post κs a r s → FitPromise a.0.now.plan a.1.0 r
sound_fit_promised κs a r s meets = meets

pub sound_rows_promised : (κs : Lfts 1) (a : ArgsD sound-rows-fn.signature κs) (r : Result Rows Refusal) (s : AtExit (ended_of 1 sound-rows-kinds.ps sound-rows-kinds.r) κs)
    → sound-rows.Post κs a r s → RowsPromise a.0.now.plan r × IfOk r Shown
sound_rows_promised κs a r s meets = meets

pub empty_promised : (r : Jobs) → empty.Post tt tt r tt → EmptyPromise r
empty_promised r meets = meets

pub keep_promised : (jobs : Jobs) (job : Job) (r : Jobs) → keep.Post tt (jobs, (job, tt)) r (jobs, (job, tt)) → KeepPromise jobs job r
keep_promised jobs job r meets = meets

pub number_promised : (why : Refusal) (r : ℕ) → number.Post tt (why, tt) r (why, tt) → NumberPromise why r
number_promised why r meets = meets

pub no_record_promised : (r : RowRecord) → no_record.Post tt tt r tt → NoRecordPromise r
no_record_promised r meets = meets
