-- `Plan::change` meets its contract: its checks are the definition's, and an accepted update is that of the task with the id.
-- Assumes nothing.
use Rattle.std.specs.Prelude.{Some, Ok}
use mathlib.Core.Path.{◌≡◌, sym, ap, ◌∙◌}
use mathlib.Core.Bool.{true}
use Prim.Native.Nat.{ℕ, ◌<◌}
use native.Mathlib.Omega.{arith}
use lib.IntN.{ℤ}
use mir.Syntax.{w32}
use mir.Val.{SFits, to_z, of_z}
use mir.Facts.{to_z-of_z}
use Rattle.planner.specs.declared.Plan.{Plan}
use Rattle.planner.specs.declared.Bounds.{Bounds}
use Rattle.planner.specs.declared.Updated.{Updated}
use Rattle.planner.specs.Instants.{amount}
use Rattle.planner.specs.Bounds.{BoundsOf}
use Rattle.planner.specs.Updates.{known, known_place, accepted_update, updated}
use Rattle.planner.proofs.Ids.{place_known, place_unknown}
use Rattle.planner.proofs.Known.{known_true}
use Rattle.planner.proofs.UpdatedPlan.{update_unknown, update_known}
use Rattle.planner.proofs.Plan.change.Goals as goal

place_is : (plan : Plan) (id : ℤ) → SFits w32 id → known_place plan.tasks.count (to_z w32 (of_z w32 id)) ≡ known_place plan.tasks.count id
place_is plan id fits = ap (known_place plan.tasks.count) (to_z-of_z fits)

-- a place that was found is the id of a known task
module _ (plan : Plan) (id : ℤ) (fits : SFits w32 id) (place : ℕ) (found : Some place ≡ known_place plan.tasks.count (to_z w32 (of_z w32 id))) where
  is_known : (known plan.tasks.count id ≡ true) × (place ≡ amount id)
  is_known = place_known plan.tasks.count id place (sym (found ∙ place_is plan id fits))

  below : place < plan.tasks.count
  below = omega (arith, is_known, known_true plan.tasks.count id is_known.0)

  -- an update with accepted bounds
  module _ (earliest latest : ℤ) (low : SFits w32 earliest) (high : SFits w32 latest) (b : Bounds)
      (given : BoundsOf (to_z w32 (of_z w32 earliest)) (to_z w32 (of_z w32 latest)) (Ok b)) where
    bounds : BoundsOf earliest latest (Ok b)
    bounds = rw (to_z-of_z low, to_z-of_z high) at given

    whole : {r : Updated} → r ≡ accepted_update plan place b.earliest b.latest → r ≡ updated plan id earliest latest
    whole is =
        is ∙ (λ i. accepted_update plan (is_known.1 i) (bounds.1 i) (bounds.2 i))
        ∙ sym (update_known plan id earliest latest (Ok tt) is_known.0 bounds.0)

pub returns-in_default : goal.returns-in_default
returns-in_default c =
    let none = place_unknown c.args.self.now.tasks.count c.args.id (sym (c.in_default.ensures ∙ place_is c.args.self.now c.args.id c.ranges.id)) in
    record {
      value = rw c.no_record.ensures (sym (update_unknown c.args.self.now c.args.id c.args.earliest c.args.latest none));
      sound = c.requires;
    }

pub accepted_update-requires : goal.accepted_update-requires
accepted_update-requires c = (c.requires, below c.args.self.now c.args.id c.ranges.id c.in-Some.place c.in-Some.ensures)

pub returns-in-Err : goal.returns-in-Err
returns-in-Err c =
    let p = is_known c.args.self.now c.args.id c.ranges.id c.in-Some.place c.in-Some.ensures in
    record {
      value =
          rw c.no_record-in-Err.ensures
          (sym (update_known c.args.self.now c.args.id c.args.earliest c.args.latest _ p.0 (rw (to_z-of_z c.ranges.earliest, to_z-of_z c.ranges.latest) at c.in-Err.ensures)));
      sound = c.requires;
    }

pub returns-in-Ok : goal.returns-in-Ok
returns-in-Ok c =
    record {
      value =
          whole c.args.self.now c.args.id c.ranges.id c.in-Some.place c.in-Some.ensures c.args.earliest c.args.latest c.ranges.earliest c.ranges.latest
          c.in-Ok.bounds c.in-Ok.ensures c.accepted_update.ensures.value;
      sound = c.accepted_update.ensures.sound;
    }
