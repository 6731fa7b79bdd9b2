-- Demand 3 of lent plans, of controllers and of copied rows, over every history: each call leads to what the by-value call leads to, so that what is proved of
-- the by-value calls holds of these.
-- Assumes nothing.
use mathlib.Core.Path.{◌≡◌, refl, sym, ap, ◌∙◌, subst}
use mathlib.Core.List.{List}
use Prim.Native.Nat.{ℕ}
use lib.ListN.{take}
use Rattle.std.specs.Prelude.{Result, Ok}
use Rattle.planner.specs.declared.Plan.{Plan}
use Rattle.planner.specs.declared.Updated.{Updated}
use Rattle.planner.specs.declared.RowRecord.{RowRecord}
use Rattle.planner.specs.declared.Refusal.{Refusal}
use Rattle.planner.specs.Answers.{fresh_plan}
use Rattle.planner.specs.History.{Call, without_places, outcome, plan_after}
use Rattle.planner.specs.Demand.{DemandedAfter}
use Rattle.planner.proofs.Histories.{rows_demanded}
use Rattle.lent.specs.declared.controller.Controller.{Controller}
use Rattle.lent.specs.Controllers.{last_update}
use Rattle.lent.specs.Promises.{CopyPromise}
use Rattle.lent.specs.LentHistory.{LentCall, loads, updates, LentCalls, lent_end, lent_next, ControllerCall, begins, steps, ControllerCalls, controller_end, controller_next, ControllerAfter}
use Rattle.lent.proofs.CopyGiven.{copy_places, copy_shown}

-- a lent plan
pub lent_outcome : {plan : Plan} {call : Call} {u : Updated} → LentCall plan call u → u ≡ outcome plan call
lent_outcome (loads p) = ap without_places p.whole
lent_outcome (updates p) = p.whole

pub lent_plan : {plan after : Plan} {calls : List Call} → LentCalls plan calls after → after ≡ plan_after plan calls
lent_plan lent_end = refl
lent_plan (lent_next {calls = calls} one rest) = lent_plan rest ∙ ap (λ (u : Updated). plan_after u.plan calls) (lent_outcome one)

-- a controller
pub controller_outcome : {c r : Controller} {call : Call} → ControllerCall c call r → last_update r ≡ outcome c.plan call
controller_outcome (begins p) = p.whole
controller_outcome (steps p) = p.whole

calls_plan : {c after : Controller} {calls : List Call} → ControllerCalls c calls after → after.plan ≡ plan_after c.plan calls
calls_plan controller_end = refl
calls_plan (controller_next {calls = calls} one rest) = calls_plan rest ∙ ap (λ (u : Updated). plan_after u.plan calls) (controller_outcome one)

pub controller_plan : {calls : List Call} {c : Controller} → ControllerAfter calls c → c.plan ≡ plan_after fresh_plan calls
controller_plan {calls} a = calls_plan a.led ∙ ap (λ (c : Controller). plan_after c.plan calls) a.fresh.whole

-- the rows that a copy leaves in the slice are as demanded after the calls
pub copy_demanded : (calls : List Call) {before after : List RowRecord} {r : Result ℕ Refusal} {n : ℕ} → CopyPromise (plan_after fresh_plan calls) before r after
    → r ≡ Ok n → DemandedAfter calls (take n after)
copy_demanded calls kept taken = subst (DemandedAfter calls) (sym ((copy_places kept).first _ taken)) (rows_demanded calls (copy_shown kept taken))
