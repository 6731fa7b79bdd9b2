-- Of what a by-value function gives, what is answered: all but the plan.
-- Assumes nothing.
use Rattle.planner.specs.declared.Loaded.{Loaded}
use Rattle.planner.specs.declared.Updated.{Updated}
use Rattle.lent.specs.declared.Changed.{Changed}
use Rattle.lent.specs.declared.Placing.{Placing}

abbrev pub changed_of : Updated → Changed
changed_of u = record { answer = u.answer; row = u.row }

abbrev pub placing_of : Loaded → Placing
placing_of u = record { answer = u.answer; row = u.row; placed = u.placed }
