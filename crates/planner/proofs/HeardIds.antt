-- Over every history an id is unknown exactly if no job was told it: the ids that were told are the numbers of the plan's tasks.
-- Assumes nothing.
use mathlib.Core.Path.{◌≡◌, refl, ap, ◌∙◌, subst}
use mathlib.Core.Bool.{true}
use mathlib.Core.List.{List}
use mathlib.Core.Logic.Iff
use mathlib.Core.Logic.{◌↔◌, inl, inr, ⊎_elim}
use Prim.Native.Nat.{ℕ, ◌<◌}
use native.Mathlib.Omega.{arith}
use borrow.Author.Tests.{ltb-true, leb-true, le-leb}
use lib.IntN.{ℤ, pos, negsuc}
use lib.ListN.{length, length-map}
use lib.Signed.{le_z, lt_z}
use Rattle.time_table.proofs.Sums.{lt_or_le}
use Rattle.planner.specs.declared.Plan.{Plan}
use Rattle.planner.specs.Refusals.{refused, verdict}
use Rattle.planner.specs.Loads.{task_of}
use Rattle.planner.specs.Updates.{updated}
use Rattle.planner.specs.Questions.{fit_of}
use Rattle.planner.specs.Refused.{NoTask}
use Rattle.planner.specs.Answers.{fresh_plan}
use Rattle.planner.specs.History.{Call, Heard, nothing, plan_after, heard_after}
use Rattle.planner.specs.Demand.{SomeJob, NoJob}
use Rattle.planner.proofs.HeardPlan.{Agrees}
use Rattle.planner.proofs.Histories.{history_agrees}
use Rattle.planner.proofs.Numbers.{update_refused_7, fit_refused_7}

module _ (h : Heard) (plan : Plan) (a : Agrees h plan) where
  counts : plan.tasks.count ≡ length a.kept
  counts = a.sound.tasks.held.counts ∙ ap length a.tasks ∙ length-map a.kept task_of

  told_below : (i : ℕ) → SomeJob h i → i < plan.tasks.count
  told_below i w = omega (arith, counts, (a.by_id.at w.place i w.told).0)

  none_told : (id : ℤ) → NoTask plan id → NoJob h id
  none_told id (inl low) i e w = absurd (omega (arith, ltb-true i 0 (subst (λ (z : ℤ). lt_z z (pos 0) ≡ true) e low)))
  none_told id (inr high) i e w =
      absurd (omega (arith, told_below i w, leb-true plan.tasks.count i (subst (λ (z : ℤ). le_z (pos plan.tasks.count) z ≡ true) e high)))

  no_task_lem : (id : ℤ) → NoJob h id → NoTask plan id
  no_task_lem (negsuc n) none = inl refl
  no_task_lem (pos n) none =
      ⊎_elim
      (λ lt. absurd (none n refl (a.by_id.from n (omega (arith, counts)))))
      (λ le. inr (le-leb plan.tasks.count n le))
      (lt_or_le n plan.tasks.count)

-- after every history
module _ (calls : List Call) (id : ℤ) where
  heard_none : NoTask (plan_after fresh_plan calls) id ↔ NoJob (heard_after fresh_plan nothing calls) id
  heard_none = (
    none_told (heard_after fresh_plan nothing calls) (plan_after fresh_plan calls) (history_agrees calls) id,
    no_task_lem (heard_after fresh_plan nothing calls) (plan_after fresh_plan calls) (history_agrees calls) id,
  )

  pub heard_update_7 : (earliest latest : ℤ) → (verdict (updated (plan_after fresh_plan calls) id earliest latest).answer ≡ refused 7) ↔ NoJob (heard_after fresh_plan nothing calls) id
  heard_update_7 earliest latest = Iff.trans (update_refused_7 (plan_after fresh_plan calls) id earliest latest) heard_none

  pub heard_fit_7 : (verdict (fit_of (plan_after fresh_plan calls) id) ≡ refused 7) ↔ NoJob (heard_after fresh_plan nothing calls) id
  heard_fit_7 = Iff.trans (fit_refused_7 (plan_after fresh_plan calls) id) heard_none
