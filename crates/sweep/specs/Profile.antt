-- The open profile of the sweep: when an event ends it, which is where it has begun before the event; and what a task that ends leaves of it.
use Rattle.std.specs.Prelude.{Bool, false, cond, not, List, [], ◌∷◌, ℕ, ◌-◌, eqb}
use Rattle.time_table.specs.declared.Row.{Row}
use Rattle.time_table.specs.Rows.{row_of, tasks}
use Rattle.sweep.specs.declared.time_table_over_interval.Event.{Event}

abbrev pub ends_profile : Bool → Row → Event → Bool
ends_profile begun r e = cond begun (not (eqb r.start e.time)) false

-- a list without an id, the others in their order
unfoldable pub leaving : ℕ → List ℕ → List ℕ
leaving id [] = []
leaving id (x ∷ xs) = let rest = leaving id xs in cond (eqb x id) rest (x ∷ rest)

-- the profile without one of its tasks
unfoldable pub left_by : Row → ℕ → ℕ → Row
left_by r id usage = row_of r.start r.end (r.height - usage) (leaving id (tasks r))
