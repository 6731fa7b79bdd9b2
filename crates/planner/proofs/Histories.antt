-- Demand 3 over every history: what is heard of the accepted calls agrees with the plan, so each answer is right for it.
-- Assumes nothing.
use Rattle.std.specs.Prelude.{Option, Result, Ok, Err, is_ok, IsOk, ⊤}
use mathlib.Core.Path.{◌≡◌, refl, sym, ap, ◌∙◌, subst}
use mathlib.Core.Bool.{true, false, true≢false}
use mathlib.Core.Logic.{◌⊎◌, inl, inr, ⊎_elim}
use mathlib.Core.List.{List, [], ◌∷◌, map}
use Prim.Native.Nat.{ℕ, ◌≤◌, ◌<◌}
use native.Mathlib.Omega.{arith}
use lib.IntN.{ℤ}
use lib.ListN.{length, get_or, set, length-map}
use Rattle.time_table.specs.declared.Row.{Row}
use Rattle.time_table.specs.Rows.{rows_of, table_of}
use Rattle.time_table.specs.Meaning.{Right}
use Rattle.time_table.specs.Update.{update_over, updated_rows}
use Rattle.time_table.specs.declared.Part.{Part}
use Rattle.time_table.proofs.TableOfRows.{rows_of_lem}
use Rattle.time_table.proofs.TableUpdate.{UpdateFits, update_fits}
use Rattle.sweep.specs.declared.Task.{Task}
use Rattle.sweep.specs.Tasks.{tasks_of, tasks_with, task_at, usage_of, part_of, runs}
use Rattle.sweep.specs.Created.{created, placed_below}
use Rattle.planner.specs.declared.Job.{Job}
use Rattle.planner.specs.declared.Jobs.{Jobs}
use Rattle.planner.specs.declared.Refusal.{Refusal}
use Rattle.planner.specs.declared.Plan.{Plan}
use Rattle.planner.specs.declared.Updated.{Updated}
use Rattle.planner.specs.declared.Loaded.{Loaded}
use Rattle.planner.specs.declared.Refusal.TheVariants.{UnknownTask, TooManyRows}
use Rattle.planner.specs.Instants.{tick, amount}
use Rattle.planner.specs.Checks.{bounds_checked}
use Rattle.planner.specs.Given.{no_job}
use Rattle.planner.specs.Updates.{known, bounded, accepted_update}
use Rattle.planner.specs.Loads.{task_of, jobs_of, load_checked, accepted_load}
use Rattle.planner.specs.Sound.{SoundTasks}
use Rattle.planner.specs.Answers.{fresh_plan, refused_update}
use Rattle.planner.specs.History.{Call, load, update, without_places, outcome, tells, Heard, nothing, rebounded, hear, last_heard, plan_after, heard_after, heard_with}
use Rattle.planner.specs.Questions.{rows_shown, shown_rows}
use Rattle.planner.specs.Demand.{Identified, Answered, DemandedAfter}
use Rattle.planner.proofs.Tests.{by_test}
use Rattle.planner.proofs.LoadedTasks.{jobs_few, load_by, load_accepted, loaded_sound}
use Rattle.planner.proofs.Known.{tasks_of_lem}
use Rattle.planner.proofs.Known.{known_true}
use Rattle.planner.proofs.UpdatedPlan.{new_sound, new_live, accepted_by, live_over_full, live_with_room, update_unknown, update_known}
use Rattle.planner.proofs.Accepted.{capacity_accepted, bounds_accepted}
use Rattle.planner.proofs.HeardJobs.{kept_tasks, kept_numbers, moved_tasks, moved_numbers}
use Rattle.planner.proofs.SignedDraws.{AllNumbers}
use Rattle.planner.proofs.ById.{ById, kept_jobs, loaded_by_id, updated_by_id}
use Rattle.planner.proofs.SignedRows.{demanded_signed}
use Rattle.planner.proofs.HeardPlan.{Agrees, fresh_agrees, shown_demanded, Good, live_good, swept_good}

-- a call is refused and leaves the plan as it was, or is accepted and good
abbrev Led : Heard → Plan → Call → Type 0
Led h plan c = ((is_ok (outcome plan c).answer ≡ false) × ((outcome plan c).plan ≡ plan)) ⊎ Good (hear h c (tells plan c)) (outcome plan c)

-- where an outcome is known
refused_led : (h : Heard) (plan : Plan) (c : Call) (why : Refusal) → outcome plan c ≡ refused_update plan why → Led h plan c
refused_led h plan c why e = inl (ap (λ (o : Updated). is_ok o.answer) e, ap (λ (o : Updated). o.plan) e)

good_led : (h : Heard) (plan : Plan) (c : Call) (o : Updated) → outcome plan c ≡ o → Good (hear h c (tells plan c)) o → Led h plan c
good_led h plan c o e g = inr (rw e g)

load_led : (h : Heard) (plan : Plan) (jobs : Jobs) (capacity : ℤ) → Led h plan (load jobs capacity)
unfolding accepted_load
load_led h plan jobs capacity = go (load_checked jobs capacity) refl
  where
    go : (r : Result ⊤ Refusal) → load_checked jobs capacity ≡ r → Led h plan (load jobs capacity)
    go (Err why) e = refused_led h plan (load jobs capacity) why (ap without_places (load_by plan jobs capacity (Err why) e))
    go (Ok _) e =
        let ok = load_accepted jobs capacity e in
        let js = jobs_of jobs in
        let k = capacity_accepted ok.1 in
        let is = load_by plan jobs capacity (Ok tt) e in
        let few : length js ≤ 32 = omega (arith, jobs_few jobs ok.0, length-map js task_of) in
        good_led h plan (load jobs capacity) _ (ap without_places is)
        (subst (λ (told : List (Option ℕ)). Good (record { capacity = capacity; jobs = js; told = told }) (without_places (accepted_load jobs capacity))) (sym (ap (λ (l : Loaded). l.placed) is))
        (swept_good (record { capacity = capacity; jobs = js; told = placed_below (map task_of js) 32 }) (kept_jobs js) (loaded_by_id capacity js few ok.0.checked)
        (created (map task_of js)) (loaded_sound jobs ok.0) (kept_tasks js) (kept_numbers js ok.0.checked) (amount capacity) k.top refl))

module _ (h : Heard) (plan : Plan) (a : Agrees h plan) (id earliest latest : ℤ) where
  abbrev call : Call
  call = update id earliest latest

  -- the task is known and the bounds are accepted
  module _ (k : known plan.tasks.count id ≡ true) (ok : bounds_checked earliest latest ≡ Ok tt) where
    lt : amount id < plan.tasks.count
    lt = (known_true plan.tasks.count id k).1

    abbrev ts : List Task
    ts = set (tasks_of plan.tasks) (amount id) (bounded (task_at (tasks_of plan.tasks) (amount id)) (tick earliest) (tick latest))

    inside : amount id < length a.kept
    inside = omega (arith, lt, a.sound.tasks.held.counts, ap length a.tasks, length-map a.kept task_of)

    -- the kept jobs afterwards
    abbrev jobs : List Job
    jobs = set a.kept (amount id) (rebounded (get_or a.kept (amount id) no_job) earliest latest)

    by_id : ById (hear h call []) jobs
    by_id = updated_by_id (amount id) earliest latest h a.kept a.by_id inside ok

    ts_sound : SoundTasks (tasks_with ts)
    ts_sound = new_sound plan a.sound (amount id) (tick earliest) (tick latest) lt (bounds_accepted ok).order (bounds_accepted ok).top

    ts_heard : ts ≡ map task_of jobs
    ts_heard =
        ap (λ (l : List Task). set l (amount id) (bounded (task_at l (amount id)) (tick earliest) (tick latest))) a.tasks
        ∙ moved_tasks a.kept a.numbers (amount id) inside earliest latest ok

    numbers : AllNumbers jobs
    numbers = moved_numbers a.kept a.numbers (amount id) inside earliest latest ok

    is_accepted : outcome plan call ≡ accepted_update plan (amount id) (tick earliest) (tick latest)
    is_accepted = update_known plan id earliest latest (Ok tt) k ok

    stale_led : plan.live ≡ false → Led h plan call
    stale_led stale =
        good_led h plan call _ (is_accepted ∙ accepted_by plan (amount id) (tick earliest) (tick latest) stale)
        (swept_good (hear h call []) jobs by_id ts ts_sound ts_heard numbers plan.capacity a.sound.capacity a.capacity)

    abbrev old : Part
    old = part_of (amount id) (task_at (tasks_of plan.tasks) (amount id))

    abbrev new : Part
    new = part_of (amount id) (bounded (task_at (tasks_of plan.tasks) (amount id)) (tick earliest) (tick latest))

    abbrev rows : List Row
    rows = updated_rows old new (rows_of plan.table)

    -- the edit of a live table that has room
    module _ (live : plan.live ≡ true) (room : update_over old new (rows_of plan.table) ≡ false) where
      fits : UpdateFits old new plan.table (table_of rows)
      fits = update_fits old new plan.table (table_of rows) (a.sound.live live).clean room refl

      right : Right (runs ts) (usage_of ts) rows
      right =
          rw (rows_of_lem rows, tasks_of_lem ts) at
          (new_live plan a.sound (amount id) (tick earliest) (tick latest) lt (bounds_accepted ok).order (bounds_accepted ok).top live _ fits).right

      room_led : Led h plan call
      room_led =
          good_led h plan call _
          (is_accepted ∙ accepted_by plan (amount id) (tick earliest) (tick latest) live ∙ live_with_room plan (amount id) (tick earliest) (tick latest) room)
          (live_good (hear h call []) jobs by_id ts ts_sound ts_heard numbers plan.capacity a.sound.capacity a.capacity rows right fits.few)

    live_led : plan.live ≡ true → Led h plan call
    live_led live =
        ⊎_elim
        (λ over. refused_led h plan call TooManyRows
        (is_accepted ∙ accepted_by plan (amount id) (tick earliest) (tick latest) live ∙ live_over_full plan (amount id) (tick earliest) (tick latest) over))
        (λ room. room_led live room)
        (by_test (update_over old new (rows_of plan.table)))

  update_led : Led h plan call
  update_led =
      ⊎_elim
      (λ k. go k (bounds_checked earliest latest) refl)
      (λ no_task_lem. refused_led h plan call UnknownTask (update_unknown plan id earliest latest no_task_lem))
      (by_test (known plan.tasks.count id))
    where
      go : known plan.tasks.count id ≡ true → (r : Result ⊤ Refusal) → bounds_checked earliest latest ≡ r → Led h plan call
      go k (Err why) e = refused_led h plan call why (update_known plan id earliest latest (Err why) k e)
      go k (Ok _) e = ⊎_elim (λ live. live_led k e live) (λ stale. stale_led k e stale) (by_test plan.live)

led : (h : Heard) (plan : Plan) → Agrees h plan → (c : Call) → Led h plan c
led h plan a (load jobs capacity) = load_led h plan jobs capacity
led h plan a (update id earliest latest) = update_led h plan a id earliest latest

-- what is heard keeps agreeing with the plan
step_agrees : (h : Heard) (plan : Plan) → Agrees h plan → (c : Call) → Agrees (last_heard plan h c) (outcome plan c).plan
step_agrees h plan a c =
    ⊎_elim
    (λ refused. rw (refused.0, refused.1) a)
    (λ good. rw good.taken good.agrees)
    (led h plan a c)

calls_agree : (h : Heard) (plan : Plan) → Agrees h plan → (calls : List Call) → Agrees (heard_after plan h calls) (plan_after plan calls)
calls_agree h plan a [] = a
calls_agree h plan a (c ∷ cs) = calls_agree (last_heard plan h c) (outcome plan c).plan (step_agrees h plan a c) cs

-- after every history of calls what is heard agrees with the plan, and the plan is sound
pub history_agrees : (calls : List Call) → Agrees (heard_after fresh_plan nothing calls) (plan_after fresh_plan calls)
history_agrees calls = calls_agree nothing fresh_plan fresh_agrees calls

-- after every history an accepted call is good: the plan agrees with what is heard then, and the answer is right for it
pub accepted_good : (calls : List Call) (c : Call) → is_ok (outcome (plan_after fresh_plan calls) c).answer ≡ true
    → Good (heard_with calls c) (outcome (plan_after fresh_plan calls) c)
accepted_good calls c taken =
    ⊎_elim
    (λ refused. absurd (true≢false (sym taken ∙ refused.0)))
    (λ good. good)
    (led (heard_after fresh_plan nothing calls) (plan_after fresh_plan calls) (history_agrees calls) c)

-- demand 3: after every history, an accepted call is answered as demanded, by the last accepted bounds
pub demand_three : (calls : List Call) (c : Call) → is_ok (outcome (plan_after fresh_plan calls) c).answer ≡ true
    → Answered (heard_with calls c) (outcome (plan_after fresh_plan calls) c)
demand_three calls c taken = (accepted_good calls c taken).answered

-- and the rows that a question gets stay as demanded, whatever is refused in between
pub rows_demanded : (calls : List Call) → IsOk (rows_shown (plan_after fresh_plan calls)) → DemandedAfter calls (shown_rows (rows_shown (plan_after fresh_plan calls)))
rows_demanded calls =
    let a = history_agrees calls in
    shown_demanded (heard_after fresh_plan nothing calls) (plan_after fresh_plan calls)
    (λ live. demanded_signed (heard_after fresh_plan nothing calls) a.kept a.by_id (plan_after fresh_plan calls).tasks a.sound.tasks a.tasks a.numbers _ (a.sound.live live).right)

-- so does what was told of the jobs: each that draws something has an id, and no two have the same
pub ids_told : (calls : List Call) → Identified (heard_after fresh_plan nothing calls)
ids_told calls = (history_agrees calls).by_id.identified
