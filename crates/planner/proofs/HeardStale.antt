-- Over every history the table is stale exactly if the answers that were heard say so: each call leaves it as its answer tells.
-- Assumes nothing.
use Rattle.std.specs.Prelude.{Result, Ok, Err, is_ok}
use mathlib.Core.Path.{◌≡◌, refl, sym, ap, ◌∙◌}
use mathlib.Core.Bool.{Bool, true, false, not, true≢false, false≢true}
use mathlib.Core.List.{List, [], ◌∷◌}
use mathlib.Core.Logic.Iff
use mathlib.Core.Logic.{◌↔◌, ⊎_elim}
use lib.IntN.{ℤ}
use Rattle.planner.specs.declared.Refusal.{Refusal}
use Rattle.planner.specs.declared.Jobs.{Jobs}
use Rattle.planner.specs.declared.Plan.{Plan}
use Rattle.planner.specs.declared.Answer.{Answer}
use Rattle.planner.specs.declared.Answer.TheVariants.{Fits, Overloaded}
use Rattle.planner.specs.Refusals.{verdict, refused}
use Rattle.planner.specs.Questions.{rows_shown}
use Rattle.planner.specs.Answers.{fresh_plan}
use Rattle.planner.specs.History.{Call, load, update, outcome, plan_after}
use Rattle.planner.specs.Stale.{stale_by, stale_after}
use Rattle.planner.proofs.Tests.{by_test}
use Rattle.planner.proofs.Liveness.{load_live, stale_live, live_stays}
use Rattle.planner.proofs.Refused.{load_kept, update_kept}
use Rattle.planner.proofs.Numbers.{rows_refused_9}

-- overloaded is not fits, so a table that is live exactly if the answer is "fits" is stale
over_stale : {live : Bool} {answer : Result Answer Refusal} → answer ≡ Ok Overloaded → (live ≡ true) ↔ (answer ≡ Ok Fits) → live ≡ false
over_stale {live} over exactly =
    ⊎_elim
    (λ is. let same : Ok Overloaded ≡ Ok Fits = sym over ∙ exactly.0 is in absurd (cc))
    (λ is. is)
    (by_test live)

module _ (plan : Plan) (stale : Bool) (same : plan.live ≡ not stale) where
  load_step : (jobs : Jobs) (capacity : ℤ) (a : Result Answer Refusal) → (outcome plan (load jobs capacity)).answer ≡ a
      → (outcome plan (load jobs capacity)).plan.live ≡ not (stale_by (load jobs capacity) a stale)
  load_step jobs capacity (Ok Fits) e = (load_live plan jobs capacity (ap is_ok e)).1 e
  load_step jobs capacity (Ok Overloaded) e = over_stale e (load_live plan jobs capacity (ap is_ok e))
  load_step jobs capacity (Err why) e = ap (λ (p : Plan). p.live) (load_kept plan jobs capacity (ap verdict e)).0 ∙ same

  update_step : (id earliest latest : ℤ) (a : Result Answer Refusal) → (outcome plan (update id earliest latest)).answer ≡ a
      → (outcome plan (update id earliest latest)).plan.live ≡ not (stale_by (update id earliest latest) a stale)
  update_step id earliest latest a e = go stale same a e
    where
      go : (stale : Bool) → plan.live ≡ not stale → (a : Result Answer Refusal) → (outcome plan (update id earliest latest)).answer ≡ a
          → (outcome plan (update id earliest latest)).plan.live ≡ not (stale_by (update id earliest latest) a stale)
      go false live (Ok Fits) e = live_stays plan id earliest latest live
      go false live (Ok Overloaded) e = live_stays plan id earliest latest live
      go false live (Err why) e = live_stays plan id earliest latest live
      go true was (Ok Fits) e = (stale_live plan id earliest latest was (ap is_ok e)).1 e
      go true was (Ok Overloaded) e = over_stale e (stale_live plan id earliest latest was (ap is_ok e))
      go true was (Err why) e = ap (λ (p : Plan). p.live) (update_kept plan id earliest latest (ap verdict e)).0 ∙ was

  call_step : (c : Call) → (outcome plan c).plan.live ≡ not (stale_by c (outcome plan c).answer stale)
  call_step (load jobs capacity) = load_step jobs capacity (outcome plan (load jobs capacity)).answer refl
  call_step (update id earliest latest) = update_step id earliest latest (outcome plan (update id earliest latest)).answer refl

calls_live : (plan : Plan) (stale : Bool) → plan.live ≡ not stale → (calls : List Call) → (plan_after plan calls).live ≡ not (stale_after plan stale calls)
calls_live plan stale same [] = same
calls_live plan stale same (c ∷ cs) = calls_live (outcome plan c).plan (stale_by c (outcome plan c).answer stale) (call_step plan stale same c) cs

not_live : (live stale : Bool) → live ≡ not stale → (live ≡ false) ↔ (stale ≡ true)
not_live live true e = (λ h. refl, λ h. e)
not_live live false e = (λ h. absurd (true≢false (sym e ∙ h)), λ h. absurd (false≢true h))

-- after every history the rows are refused with 9 exactly if the answers say that the table is stale
pub heard_rows_9 : (calls : List Call) → (verdict (rows_shown (plan_after fresh_plan calls)) ≡ refused 9) ↔ (stale_after fresh_plan false calls ≡ true)
heard_rows_9 calls = Iff.trans (rows_refused_9 (plan_after fresh_plan calls)) (not_live _ _ (calls_live fresh_plan false refl calls))
