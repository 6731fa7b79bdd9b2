-- Each call of a sound plan leaves a sound plan: a refused one leaves it as it was, a load and an update of a stale plan sweep, and an update of a live
-- one edits its table.
-- Assumes nothing.
use Rattle.std.specs.Prelude.{Result, Ok, Err, ⊤}
use mathlib.Core.Path.{◌≡◌, refl, sym, ◌∙◌, subst}
use mathlib.Core.Bool.{true}
use mathlib.Core.Logic.{⊎_elim}
use mathlib.Core.List.{List}
use Prim.Native.Nat.{ℕ, ◌≤◌, ◌<◌}
use lib.IntN.{ℤ}
use lib.ListN.{set}
use Rattle.time_table.specs.Rows.{rows_of, table_of}
use Rattle.time_table.specs.Update.{update_over}
use Rattle.time_table.proofs.TableUpdate.{update_fits}
use Rattle.sweep.specs.declared.Task.{Task}
use Rattle.sweep.specs.Tasks.{tasks_of, tasks_with, task_at, part_of}
use Rattle.planner.specs.declared.Jobs.{Jobs}
use Rattle.planner.specs.declared.Plan.{Plan}
use Rattle.planner.specs.declared.Refusal.{Refusal}
use Rattle.planner.specs.declared.Updated.{Updated}
use Rattle.planner.specs.Ranges.{last_start}
use Rattle.planner.specs.Instants.{tick, amount}
use Rattle.planner.specs.Checks.{bounds_checked}
use Rattle.planner.specs.Loads.{load_checked, accepted_load, loaded}
use Rattle.planner.specs.Updates.{known, accepted_update, updated}
use Rattle.planner.specs.Sound.{SoundTasks, Sound}
use Rattle.planner.specs.History.{Call, load, update, outcome}
use Rattle.planner.proofs.Tests.{by_test}
use Rattle.planner.proofs.Known.{known_true}
use Rattle.planner.proofs.Accepted.{capacity_accepted, bounds_accepted}
use Rattle.planner.proofs.AnswerAndPlan.{live_sound, swept_sound}
use Rattle.planner.proofs.LoadedTasks.{load_by, load_accepted, loaded_sound}
use Rattle.planner.proofs.UpdatedPlan.{changed, rows_after, new_sound, new_live, accepted_by, live_over_full, live_with_room, update_unknown, update_known}

module _ (plan : Plan) (s : Sound plan) where
  -- an outcome that is one with a sound plan has a sound plan
  sound_as : {u v : Updated} → u ≡ v → Sound v.plan → Sound u.plan
  sound_as is = subst (λ (u : Updated). Sound u.plan) (sym is)

  load_sound : (jobs : Jobs) (capacity : ℤ) → Sound (loaded plan jobs capacity).plan
  unfolding accepted_load
  load_sound jobs capacity = go (load_checked jobs capacity) refl
    where
      go : (r : Result ⊤ Refusal) → load_checked jobs capacity ≡ r → Sound (loaded plan jobs capacity).plan
      go (Err why) e = rw (load_by plan jobs capacity (Err why) e) s
      go (Ok _) e =
          let ok = load_accepted jobs capacity e in
          rw (load_by plan jobs capacity (Ok tt) e) (swept_sound (amount capacity) _ (loaded_sound jobs ok.0) (capacity_accepted ok.1).top)

  module _ (i e l : ℕ) (lt : i < plan.tasks.count) (order : e ≤ l) (top : l ≤ last_start) where
    abbrev ts : List Task
    ts = set (tasks_of plan.tasks) i (changed plan i e l)

    ts_sound : SoundTasks (tasks_with ts)
    ts_sound = new_sound plan s i e l lt order top

    edited_sound : plan.live ≡ true → Sound (accepted_update plan i e l).plan
    edited_sound live =
        ⊎_elim
        (λ full. sound_as (accepted_by plan i e l live ∙ live_over_full plan i e l full) s)
        (λ room. sound_as (accepted_by plan i e l live ∙ live_with_room plan i e l room)
        (live_sound plan.capacity (tasks_with ts) (table_of (rows_after plan i e l)) ts_sound
        (new_live plan s i e l lt order top live _ (update_fits _ _ plan.table _ (s.live live).clean room refl)) s.capacity))
        (by_test (update_over (part_of i (task_at (tasks_of plan.tasks) i)) (part_of i (changed plan i e l)) (rows_of plan.table)))

    accepted_sound : Sound (accepted_update plan i e l).plan
    accepted_sound =
        ⊎_elim edited_sound (λ stale. sound_as (accepted_by plan i e l stale) (swept_sound plan.capacity ts ts_sound s.capacity)) (by_test plan.live)

  update_sound : (id earliest latest : ℤ) → Sound (updated plan id earliest latest).plan
  update_sound id earliest latest =
      ⊎_elim
      (λ k. go k (bounds_checked earliest latest) refl)
      (λ none. sound_as (update_unknown plan id earliest latest none) s)
      (by_test (known plan.tasks.count id))
    where
      go : known plan.tasks.count id ≡ true → (r : Result ⊤ Refusal) → bounds_checked earliest latest ≡ r → Sound (updated plan id earliest latest).plan
      go k (Err why) e = sound_as (update_known plan id earliest latest (Err why) k e) s
      go k (Ok _) e =
          let b = bounds_accepted e in
          sound_as (update_known plan id earliest latest (Ok tt) k e)
          (accepted_sound (amount id) (tick earliest) (tick latest) (known_true plan.tasks.count id k).1 b.order b.top)

pub outcome_sound : (plan : Plan) → Sound plan → (c : Call) → Sound (outcome plan c).plan
outcome_sound plan s (load jobs capacity) = load_sound plan s jobs capacity
outcome_sound plan s (update id earliest latest) = update_sound plan s id earliest latest
