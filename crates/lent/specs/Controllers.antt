-- What a controller keeps: its plan, and what the last change of it answered.
use Rattle.std.specs.Prelude.{Ok}
use Rattle.planner.specs.declared.Updated.{Updated}
use Rattle.planner.specs.declared.Answer.TheVariants.{Fits}
use Rattle.planner.specs.Records.{no_record}
use Rattle.planner.specs.Answers.{fresh_plan}
use Rattle.lent.specs.declared.controller.Controller.{Controller}
use Rattle.lent.specs.Changes.{whole_update}

abbrev pub fresh_controller : Controller
fresh_controller = record { plan = fresh_plan; last = record { answer = Ok Fits; row = no_record } }

-- what is kept, taken together
abbrev pub last_update : Controller → Updated
last_update c = whole_update c.last c.plan
