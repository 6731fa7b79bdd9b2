-- Calls of a lent plan and of a controller, one after another, each with any outcome that meets its promise.
use Rattle.std.specs.Prelude.{List, [], ◌∷◌, ℤ}
use Rattle.planner.specs.declared.Jobs.{Jobs}
use Rattle.planner.specs.declared.Plan.{Plan}
use Rattle.planner.specs.declared.Updated.{Updated}
use Rattle.planner.specs.History.{Call, load, update}
use Rattle.lent.specs.declared.Changed.{Changed}
use Rattle.lent.specs.declared.Placing.{Placing}
use Rattle.lent.specs.declared.controller.Controller.{Controller}
use Rattle.lent.specs.Changes.{told, whole_update}
use Rattle.lent.specs.Promises.{LentLoadPromise, LentUpdatePromise, FreshControllerPromise, BeginPromise, StepPromise}

-- a call of a lent plan: what is answered, and the plan afterwards
pub data LentCall (plan : Plan) : Call → Updated → Type 0 where
  loads : {jobs : Jobs} {capacity : ℤ} {r : Placing} {after : Plan} → LentLoadPromise plan jobs capacity r after
      → LentCall plan (load jobs capacity) (whole_update (told r) after)
  updates : {id earliest latest : ℤ} {r : Changed} {after : Plan} → LentUpdatePromise plan id earliest latest r after
      → LentCall plan (update id earliest latest) (whole_update r after)

pub data LentCalls : Plan → List Call → Plan → Type 0 where
  lent_end : {plan : Plan} → LentCalls plan [] plan
  lent_next : {plan after : Plan} {call : Call} {calls : List Call} {u : Updated} → LentCall plan call u
      → LentCalls u.plan calls after → LentCalls plan (call ∷ calls) after

-- a call of a controller, and the controller afterwards
pub data ControllerCall (c : Controller) : Call → Controller → Type 0 where
  begins : {jobs : Jobs} {capacity : ℤ} {r : Controller} → BeginPromise c jobs capacity r → ControllerCall c (load jobs capacity) r
  steps : {id earliest latest : ℤ} {r : Controller} → StepPromise c id earliest latest r → ControllerCall c (update id earliest latest) r

pub data ControllerCalls : Controller → List Call → Controller → Type 0 where
  controller_end : {c : Controller} → ControllerCalls c [] c
  controller_next : {c r after : Controller} {call : Call} {calls : List Call} → ControllerCall c call r
      → ControllerCalls r calls after → ControllerCalls c (call ∷ calls) after

-- a controller that some calls of a fresh one led to
pub record ControllerAfter (calls : List Call) (c : Controller) : Type 0 where
  pub first : Controller
  pub fresh : FreshControllerPromise first
  pub led : ControllerCalls first calls c
