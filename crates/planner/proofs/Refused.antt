-- Each call is refused with each number exactly when document 01's table says so: some row of the table holds, and its tests lead to its answer and number.
-- Assumes nothing.
use Rattle.std.specs.Prelude.{Option, Some, None, Result, Ok, Err, ⊤}
use mathlib.Core.Path.{◌≡◌, refl, sym, ap, ◌∙◌}
use mathlib.Core.Bool.{Bool, true, false, true≢false}
use mathlib.Core.List.{List, [], map}
use mathlib.Core.Logic.{◌↔◌, ⊎_elim}
use Prim.Native.Nat.{ℕ, ◌≤◌}
use borrow.Author.Tests.{leb-true, leb-false, le-leb, lt-leb}
use lib.Dec.{leb}
use lib.IntN.{ℤ}
use lib.ListN.{set}
use Rattle.time_table.specs.Held.{pad}
use Rattle.time_table.specs.Rows.{rows_of}
use Rattle.time_table.specs.Update.{update_over}
use Rattle.time_table.specs.Overload.{conflict_in}
use Rattle.time_table.specs.declared.Row.{Row}
use Rattle.sweep.specs.declared.Task.{Task}
use Rattle.sweep.specs.Tasks.{tasks_of, task_at, part_of}
use Rattle.sweep.specs.Created.{created, dropped}
use Rattle.sweep.specs.Sweep.{sweep}
use Rattle.planner.specs.declared.Refusal.{Refusal}
use Rattle.planner.specs.declared.Jobs.{Jobs}
use Rattle.planner.specs.declared.Plan.{Plan}
use Rattle.planner.specs.declared.Refusal.TheVariants.{TooManyRows}
use Rattle.planner.specs.Refusals.{Verdict, admitted, refused, verdict}
use Rattle.planner.specs.Instants.{tick, amount}
use Rattle.planner.specs.Records.{no_record}
use Rattle.planner.specs.Checks.{jobs_checked, bounds_checked, capacity_checked}
use Rattle.planner.specs.Given.{CapacityGiven, capacity_out, capacity_in, BoundsGiven}
use Rattle.planner.specs.Answers.{answer_of, refused_update}
use Rattle.planner.specs.Loads.{jobs_of, task_of, load_checked, accepted_load, loaded_by, loaded}
use Rattle.planner.specs.Updates.{known, bounded, updated_by, updated}
use Rattle.planner.specs.Questions.{fit_of, rows_shown, shown_rows}
use Rattle.planner.specs.Refused.{LoadGiven, too_many, bad_capacity, bad_job, load_in, HasTask, edits_by, OverAfter, UpdateGiven, not_there, bad_bounds, too_long, update_in, FitGiven, nobody, fit_stale, fit_in, RowsGiven, rows_stale, rows_in}
use Rattle.planner.proofs.Tests.{by_test}
use Rattle.planner.proofs.Given.{refused_first, by_table, some_capacity, capacity_exactly, capacity_taken, some_bounds, bounds_exactly, bounds_taken}
use Rattle.planner.proofs.InputOrder.{jobs_taken, jobs_refused}
use Rattle.planner.proofs.UpdatedPlan.{accepted_by, live_over_full, live_with_room, update_unknown, update_known}
use Rattle.planner.proofs.FitQuestions as asking
use Rattle.planner.proofs.Ids.{has_task, no_task_lem}
use Rattle.planner.proofs.OverLimit.{over_exactly}

-- a load's checks
module _ (jobs : Jobs) (capacity : ℤ) where
  some_load : (v : Verdict) × LoadGiven jobs capacity v
  some_load =
      let c = some_capacity capacity in
      ⊎_elim
      (λ few. go (leb-true jobs.count 32 few) c.0 c.1 (jobs_checked (jobs_of jobs)) refl)
      (λ many. (_, too_many (leb-false jobs.count 32 many)))
      (by_test (leb jobs.count 32))
    where
      go : jobs.count ≤ 32 → (c : Verdict) → CapacityGiven capacity c → (r : Result ⊤ Refusal) → jobs_checked (jobs_of jobs) ≡ r → (v : Verdict) × LoadGiven jobs capacity v
      go few (refused n) (capacity_out out) r e = (_, bad_capacity few out)
      go few admitted (capacity_in within) (Err why) e = (_, bad_job few within ((jobs_refused (jobs_of jobs)).0 (ap verdict e)))
      go few admitted (capacity_in within) (Ok _) e = (_, load_in few within ((jobs_taken (jobs_of jobs)).0 e))

  checks_given : {v : Verdict} → LoadGiven jobs capacity v → verdict (load_checked jobs capacity) ≡ v
  unfolding load_checked
  checks_given (too_many h) = rw (lt-leb jobs.count 32 h)
  checks_given (bad_capacity few out) = rw (le-leb jobs.count 32 few) (refused_first (capacity_checked capacity) _ ((capacity_exactly capacity _).1 (capacity_out out)))
  checks_given (bad_job few within f) = rw (le-leb jobs.count 32 few, capacity_taken (capacity_in within)) ((jobs_refused (jobs_of jobs)).1 f)
  checks_given (load_in few within all) = rw (le-leb jobs.count 32 few, capacity_taken (capacity_in within), (jobs_taken (jobs_of jobs)).1 all)

-- what a scan of rows answers is no refusal
scanned : (capacity : ℕ) (rows : List Row) → verdict (answer_of (conflict_in capacity rows)) ≡ admitted
scanned capacity rows = go (conflict_in capacity rows)
  where
    go : (c : Option Row) → verdict (answer_of c) ≡ admitted
    go (Some r) = refl
    go None = refl

load_taken : (jobs : Jobs) (capacity : ℤ) → verdict (accepted_load jobs capacity).answer ≡ admitted
unfolding accepted_load
load_taken jobs capacity = scanned (amount capacity) (sweep (created (map task_of (jobs_of jobs))))

module _ (plan : Plan) (jobs : Jobs) (capacity : ℤ) where
  pub load_judged : verdict (loaded plan jobs capacity).answer ≡ verdict (load_checked jobs capacity)
  unfolding loaded
  load_judged = go (load_checked jobs capacity)
    where
      go : (r : Result ⊤ Refusal) → verdict (loaded_by r plan jobs capacity).answer ≡ verdict r
      go (Ok _) = load_taken jobs capacity
      go (Err why) = refl

  pub load_exactly : (v : Verdict) → (verdict (loaded plan jobs capacity).answer ≡ v) ↔ LoadGiven jobs capacity v
  load_exactly = by_table (λ v g. load_judged ∙ checks_given jobs capacity g) (some_load jobs capacity)

  -- a refused load leaves the plan as it was, shows no row and places no job
  pub load_kept : {n : ℕ} → verdict (loaded plan jobs capacity).answer ≡ refused n
      → ((loaded plan jobs capacity).plan ≡ plan) × ((loaded plan jobs capacity).row ≡ no_record) × ((loaded plan jobs capacity).placed ≡ pad 32 dropped [])
  unfolding loaded
  load_kept {n} h = go (load_checked jobs capacity) (sym load_judged ∙ h)
    where
      go : (r : Result ⊤ Refusal) → verdict r ≡ refused n
          → ((loaded_by r plan jobs capacity).plan ≡ plan) × ((loaded_by r plan jobs capacity).row ≡ no_record) × ((loaded_by r plan jobs capacity).placed ≡ pad 32 dropped [])
      go (Ok _) e = absurd (cc)
      go (Err why) e = (refl, refl, refl)

-- an update
module _ (plan : Plan) (id earliest latest : ℤ) where
  abbrev old : Task
  old = task_at (tasks_of plan.tasks) (amount id)

  abbrev new : Task
  new = bounded old (tick earliest) (tick latest)

  abbrev over : Bool
  over = update_over (part_of (amount id) old) (part_of (amount id) new) (rows_of plan.table)

  over_after_lem : (over ≡ true) ↔ OverAfter (edits_by plan id earliest latest) (rows_of plan.table)
  over_after_lem = over_exactly (part_of (amount id) old) (part_of (amount id) new) (rows_of plan.table)

  module _ (there : known plan.tasks.count id ≡ true) (good : bounds_checked earliest latest ≡ Ok tt) where
    over_is : plan.live ≡ true → over ≡ true → updated plan id earliest latest ≡ refused_update plan TooManyRows
    over_is live h =
        update_known plan id earliest latest (Ok tt) there good
        ∙ accepted_by plan (amount id) (tick earliest) (tick latest) live
        ∙ live_over_full plan (amount id) (tick earliest) (tick latest) h

    room_is : plan.live ≡ true → over ≡ false → verdict (updated plan id earliest latest).answer ≡ admitted
    room_is live h =
        rw (update_known plan id earliest latest (Ok tt) there good, accepted_by plan (amount id) (tick earliest) (tick latest) live, live_with_room plan (amount id) (tick earliest) (tick latest) h)
        (scanned plan.capacity _)

    stale_is : plan.live ≡ false → verdict (updated plan id earliest latest).answer ≡ admitted
    stale_is stale =
        rw (update_known plan id earliest latest (Ok tt) there good, accepted_by plan (amount id) (tick earliest) (tick latest) stale)
        (scanned plan.capacity (sweep (set (tasks_of plan.tasks) (amount id) new)))

  some_update : (v : Verdict) × UpdateGiven plan id earliest latest v
  some_update =
      let b = some_bounds earliest latest in
      ⊎_elim (λ k. go ((has_task plan id).0 k) b.0 b.1) (λ k. (_, not_there ((no_task_lem plan id).0 k))) (by_test (known plan.tasks.count id))
    where
      go : HasTask plan id → (b : Verdict) → BoundsGiven earliest latest b → (v : Verdict) × UpdateGiven plan id earliest latest v
      go h (refused n) g = (_, bad_bounds h g)
      go h admitted g =
          ⊎_elim
          (λ live. ⊎_elim
          (λ o. (_, too_long h g live (over_after_lem.0 o)))
          (λ o. (_, update_in h g (λ l w. true≢false (sym (over_after_lem.1 w) ∙ o))))
          (by_test over))
          (λ stale. (_, update_in h g (λ l w. true≢false (sym l ∙ stale))))
          (by_test plan.live)

  bounds_judged : {n : ℕ} (r : Result ⊤ Refusal) → verdict r ≡ refused n → verdict (updated_by r plan id earliest latest).answer ≡ refused n
  bounds_judged (Ok _) e = absurd (cc)
  bounds_judged (Err why) e = e

  update_given : {v : Verdict} → UpdateGiven plan id earliest latest v → verdict (updated plan id earliest latest).answer ≡ v
  update_given (not_there n) = rw (update_unknown plan id earliest latest ((no_task_lem plan id).1 n))
  update_given (bad_bounds h g) =
      rw (update_known plan id earliest latest _ ((has_task plan id).1 h) refl) (bounds_judged (bounds_checked earliest latest) ((bounds_exactly earliest latest _).1 g))
  update_given (too_long h g live w) = rw (over_is ((has_task plan id).1 h) (bounds_taken g) live (over_after_lem.1 w))
  update_given (update_in h g room) =
      let k = (has_task plan id).1 h in
      let e = bounds_taken g in
      ⊎_elim
      (λ live. ⊎_elim (λ o. absurd (room live (over_after_lem.0 o))) (room_is k e live) (by_test over))
      (stale_is k e)
      (by_test plan.live)

  pub update_exactly : (v : Verdict) → (verdict (updated plan id earliest latest).answer ≡ v) ↔ UpdateGiven plan id earliest latest v
  update_exactly = by_table (λ v. update_given) some_update

  -- a refused update leaves the plan as it was and shows no row
  bounds_kept : {n : ℕ} (r : Result ⊤ Refusal) → verdict r ≡ refused n
      → ((updated_by r plan id earliest latest).plan ≡ plan) × ((updated_by r plan id earliest latest).row ≡ no_record)
  bounds_kept (Ok _) e = absurd (cc)
  bounds_kept (Err why) e = (refl, refl)

  pub update_kept : {n : ℕ} → verdict (updated plan id earliest latest).answer ≡ refused n
      → ((updated plan id earliest latest).plan ≡ plan) × ((updated plan id earliest latest).row ≡ no_record)
  update_kept {n} h = go ((update_exactly (refused n)).0 h)
    where
      go : {n : ℕ} → UpdateGiven plan id earliest latest (refused n) → ((updated plan id earliest latest).plan ≡ plan) × ((updated plan id earliest latest).row ≡ no_record)
      go (not_there n) = rw (update_unknown plan id earliest latest ((no_task_lem plan id).1 n)) (refl, refl)
      go (bad_bounds h g) = rw (update_known plan id earliest latest _ ((has_task plan id).1 h) refl) (bounds_kept (bounds_checked earliest latest) ((bounds_exactly earliest latest _).1 g))
      go (too_long h g live w) = rw (over_is ((has_task plan id).1 h) (bounds_taken g) live (over_after_lem.1 w)) (refl, refl)

-- the questions
module _ (plan : Plan) where
  module _ (id : ℤ) where
    fit_given : {v : Verdict} → FitGiven plan id v → verdict (fit_of plan id) ≡ v
    fit_given (nobody n) = rw (asking.fit_unknown plan id ((no_task_lem plan id).1 n))
    fit_given (fit_stale h stale) = rw (asking.fit_stale plan id ((has_task plan id).1 h) stale)
    fit_given (fit_in h live) = rw (asking.fit_asked plan id ((has_task plan id).1 h) live) refl

    some_fit : (v : Verdict) × FitGiven plan id v
    some_fit =
        ⊎_elim
        (λ k. ⊎_elim (λ live. (_, fit_in ((has_task plan id).0 k) live)) (λ stale. (_, fit_stale ((has_task plan id).0 k) stale)) (by_test plan.live))
        (λ k. (_, nobody ((no_task_lem plan id).0 k)))
        (by_test (known plan.tasks.count id))

    pub fit_exactly : (v : Verdict) → (verdict (fit_of plan id) ≡ v) ↔ FitGiven plan id v
    fit_exactly = by_table (λ v. fit_given) some_fit

  rows_given : {v : Verdict} → RowsGiven plan v → verdict (rows_shown plan) ≡ v
  unfolding rows_shown
  rows_given (rows_stale stale) = rw stale
  rows_given (rows_in live) = rw live

  some_rows : (v : Verdict) × RowsGiven plan v
  some_rows = ⊎_elim (λ live. (_, rows_in live)) (λ stale. (_, rows_stale stale)) (by_test plan.live)

  pub rows_exactly : (v : Verdict) → (verdict (rows_shown plan) ≡ v) ↔ RowsGiven plan v
  rows_exactly = by_table (λ v. rows_given) some_rows

  -- a refused question shows no row
  pub rows_kept : {n : ℕ} → verdict (rows_shown plan) ≡ refused n → shown_rows (rows_shown plan) ≡ []
  unfolding rows_shown
  rows_kept {n} h = go ((rows_exactly (refused n)).0 h)
    where
      go : {n : ℕ} → RowsGiven plan (refused n) → shown_rows (rows_shown plan) ≡ []
      go (rows_stale stale) = rw stale refl
