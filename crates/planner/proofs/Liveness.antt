-- A load, and an update of a stale plan, sweep: the table is live afterwards exactly if the answer is "fits". An update of a live plan edits, or is
-- refused, and leaves the table live.
-- Assumes nothing.
use Rattle.std.specs.Prelude.{Option, Some, None, is_none, Result, Ok, Err, is_ok, ⊤}
use mathlib.Core.Path.{◌≡◌, refl, sym, ap, subst}
use mathlib.Core.Bool.{Bool, true, false, true≢false, false≢true}
use mathlib.Core.Logic.{◌↔◌, ⊎_elim}
use mathlib.Core.List.{List}
use Prim.Native.Nat.{ℕ}
use lib.IntN.{ℤ}
use Rattle.time_table.specs.declared.Row.{Row}
use Rattle.time_table.specs.Rows.{rows_of}
use Rattle.time_table.specs.Update.{update_over}
use Rattle.time_table.specs.Overload.{conflict_in}
use Rattle.sweep.specs.declared.Task.{Task}
use Rattle.sweep.specs.Tasks.{tasks_of, task_at, part_of}
use Rattle.sweep.specs.Sweep.{sweep}
use Rattle.planner.specs.declared.Jobs.{Jobs}
use Rattle.planner.specs.declared.Plan.{Plan}
use Rattle.planner.specs.declared.Refusal.{Refusal}
use Rattle.planner.specs.declared.Answer.TheVariants.{Fits}
use Rattle.planner.specs.declared.Updated.{Updated}
use Rattle.planner.specs.Instants.{tick, amount}
use Rattle.planner.specs.Checks.{bounds_checked}
use Rattle.planner.specs.Answers.{answer_of, swept_plan, refused_update}
use Rattle.planner.specs.Loads.{load_checked, accepted_load}
use Rattle.planner.specs.Updates.{known, bounded, accepted_update}
use Rattle.planner.specs.History.{load, update, without_places, outcome}
use Rattle.planner.proofs.Tests.{by_test}
use Rattle.planner.proofs.LoadedTasks.{load_by}
use Rattle.planner.proofs.UpdatedPlan.{accepted_by, live_over_full, live_with_room, update_unknown, update_known}

-- live afterwards exactly if the answer is "fits"
abbrev LiveIfFits : Updated → Type 0
LiveIfFits o = (o.plan.live ≡ true) ↔ (o.answer ≡ Ok Fits)

-- of a call that is accepted
abbrev Accepts : Updated → Type 0
Accepts o = is_ok o.answer ≡ true → LiveIfFits o

swept_accepts : (capacity : ℕ) (ts : List Task) → Accepts (swept_plan capacity ts)
swept_accepts capacity ts taken = go (conflict_in capacity (sweep ts))
  where
    go : (c : Option Row) → (is_none c ≡ true) ↔ (answer_of c ≡ Ok Fits)
    go (Some r) = (λ e. absurd (false≢true e), λ e. absurd (cc))
    go None = (λ e. refl, λ e. refl)

refused_accepts : (plan : Plan) (why : Refusal) → Accepts (refused_update plan why)
refused_accepts plan why taken = absurd (true≢false (sym taken))

-- after an accepted load
pub load_live : (plan : Plan) (jobs : Jobs) (capacity : ℤ) → is_ok (outcome plan (load jobs capacity)).answer ≡ true
    → ((outcome plan (load jobs capacity)).plan.live ≡ true) ↔ ((outcome plan (load jobs capacity)).answer ≡ Ok Fits)
unfolding accepted_load
load_live plan jobs capacity = go (load_checked jobs capacity) refl
  where
    go : (r : Result ⊤ Refusal) → load_checked jobs capacity ≡ r → Accepts (outcome plan (load jobs capacity))
    go (Ok _) e = subst Accepts (sym (ap without_places (load_by plan jobs capacity (Ok tt) e))) (swept_accepts (amount capacity) _)
    go (Err why) e = subst Accepts (sym (ap without_places (load_by plan jobs capacity (Err why) e))) (refused_accepts plan why)

module _ (plan : Plan) (id earliest latest : ℤ) where
  -- the ways of an update
  pub by_update : (P : Updated → Type 0) → ((why : Refusal) → P (refused_update plan why)) → P (accepted_update plan (amount id) (tick earliest) (tick latest))
      → P (outcome plan (update id earliest latest))
  by_update P refused taken =
      ⊎_elim
      (λ k. go k (bounds_checked earliest latest) refl)
      (λ no_task_lem. rw (update_unknown plan id earliest latest no_task_lem) (refused _))
      (by_test (known plan.tasks.count id))
    where
      go : known plan.tasks.count id ≡ true → (r : Result ⊤ Refusal) → bounds_checked earliest latest ≡ r → P (outcome plan (update id earliest latest))
      go k (Ok _) e = rw (update_known plan id earliest latest (Ok tt) k e) taken
      go k (Err why) e = rw (update_known plan id earliest latest (Err why) k e) (refused why)

  -- after an accepted update of a stale plan
  pub stale_live : plan.live ≡ false → is_ok (outcome plan (update id earliest latest)).answer ≡ true
      → ((outcome plan (update id earliest latest)).plan.live ≡ true) ↔ ((outcome plan (update id earliest latest)).answer ≡ Ok Fits)
  stale_live stale =
      by_update Accepts (refused_accepts plan)
      (rw (accepted_by plan (amount id) (tick earliest) (tick latest) stale) (swept_accepts plan.capacity _))

  abbrev over : Bool
  over =
      let k = task_at (tasks_of plan.tasks) (amount id) in
      update_over (part_of (amount id) k) (part_of (amount id) (bounded k (tick earliest) (tick latest))) (rows_of plan.table)

  -- after an update of a live plan, accepted or refused
  pub live_stays : plan.live ≡ true → (outcome plan (update id earliest latest)).plan.live ≡ true
  live_stays live =
      by_update (λ (o : Updated). o.plan.live ≡ true) (λ why. live)
      (⊎_elim
      (λ full. rw (accepted_by plan (amount id) (tick earliest) (tick latest) live, live_over_full plan (amount id) (tick earliest) (tick latest) full) live)
      (λ room. rw (accepted_by plan (amount id) (tick earliest) (tick latest) live, live_with_room plan (amount id) (tick earliest) (tick latest) room) refl)
      (by_test over))
