-- A change of a lent plan: what is answered and the plan afterwards, taken together, as the by-value function gives them.
use Rattle.planner.specs.declared.Plan.{Plan}
use Rattle.planner.specs.declared.Updated.{Updated}
use Rattle.planner.specs.declared.Loaded.{Loaded}
use Rattle.lent.specs.declared.Changed.{Changed}
use Rattle.lent.specs.declared.Placing.{Placing}

abbrev pub whole_update : Changed → Plan → Updated
whole_update r after = record { answer = r.answer; row = r.row; plan = after }

-- of a load, what is answered of the plan
abbrev pub told : Placing → Changed
told p = record { answer = p.answer; row = p.row }

abbrev pub whole_load : Placing → Plan → Loaded
whole_load r after = record { answer = r.answer; row = r.row; placed = r.placed; plan = after }
