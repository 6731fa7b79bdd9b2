-- That a plan is sound has one proof at most, so a struct may keep the fact beside the plan (`sound::Plan` in src/sound.rt).
use Rattle.std.specs.Prelude.{List, [], ◌∷◌, ℕ, ◌+◌}
use Rattle.std.specs.Coded.{×_prop, Unit-prop}
use Rattle.std.proofs.Props.{props}
use Rattle.time_table.specs.declared.Row.{Row}
use Rattle.time_table.specs.Order.{Each, Ordered}
use Rattle.planner.specs.declared.Plan.{Plan}
use Rattle.planner.specs.Sound.{Sound}

each_prop : {P : Row → Type 0} → ((r : Row) → IsProp (P r)) → (rs : List Row) → IsProp (Each P rs)
unfolding Each
each_prop one [] = Unit-prop
each_prop one (r ∷ rs) = ×_prop (one r) (each_prop one rs)

ordered_prop : (hi lo : ℕ) (rs : List Row) → IsProp (Ordered hi lo rs)
unfolding Ordered
ordered_prop hi lo [] = Unit-prop
ordered_prop hi lo (r ∷ rs) = let rest = ordered_prop hi (r.end + 1) rs in Prim.hlevel (rest, props)

pub sound_prop : (plan : Plan) → IsProp (Sound plan)
sound_prop plan = Prim.hlevel (each_prop, ordered_prop, props)
