-- What each call promises of its outcome: its `ensures` clause. No two outcomes meet a promise, which is proved (proofs/Unique.antt).
use Rattle.std.specs.Prelude.{◌≡◌, Result, List, ℕ, ℤ, length}
use Rattle.planner.specs.declared.Jobs.{Jobs}
use Rattle.planner.specs.declared.Plan.{Plan}
use Rattle.planner.specs.declared.RowRecord.{RowRecord}
use Rattle.planner.specs.declared.Refusal.{Refusal}
use Rattle.planner.specs.Sound.{Sound}
use Rattle.planner.specs.Loads.{loaded}
use Rattle.planner.specs.Updates.{updated}
use Rattle.planner.specs.History.{without_places}
use Rattle.planner.specs.Questions.{rows_shown, shown_rows}
use Rattle.lent.specs.declared.Changed.{Changed}
use Rattle.lent.specs.declared.Placing.{Placing}
use Rattle.lent.specs.declared.controller.Controller.{Controller}
use Rattle.lent.specs.Changes.{whole_update, whole_load}
use Rattle.lent.specs.Controllers.{fresh_controller, last_update}
use Rattle.lent.specs.Copies.{copy_answer, copied_count, copied}

-- of a lent plan: what is answered, and what the plan is afterwards
pub record LentLoadPromise (plan : Plan) (jobs : Jobs) (capacity : ℤ) (r : Placing) (after : Plan) : Type 0 where
  pub whole : whole_load r after ≡ loaded plan jobs capacity
  pub sound : Sound after

pub record LentUpdatePromise (plan : Plan) (id earliest latest : ℤ) (r : Changed) (after : Plan) : Type 0 where
  pub whole : whole_update r after ≡ updated plan id earliest latest
  pub sound : Sound after

-- of a lent slice: what is answered, and what the slice is afterwards
pub record CopyPromise (plan : Plan) (out : List RowRecord) (r : Result ℕ Refusal) (after : List RowRecord) : Type 0 where
  pub answer : r ≡ copy_answer (rows_shown plan) (length out)
  pub slice : after ≡ copied (shown_rows (rows_shown plan)) (copied_count r) out

-- of a controller
pub record FreshControllerPromise (r : Controller) : Type 0 where
  pub whole : r ≡ fresh_controller
  pub sound : Sound r.plan

pub record BeginPromise (controller : Controller) (jobs : Jobs) (capacity : ℤ) (r : Controller) : Type 0 where
  pub whole : last_update r ≡ without_places (loaded controller.plan jobs capacity)
  pub sound : Sound r.plan

pub record StepPromise (controller : Controller) (id earliest latest : ℤ) (r : Controller) : Type 0 where
  pub whole : last_update r ≡ updated controller.plan id earliest latest
  pub sound : Sound r.plan
