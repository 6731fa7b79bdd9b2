-- The answer for each job of an accepted load: a job that is not dropped stands once in the order of the kept ones, and its place there is its id.
-- Assumes nothing.
use Rattle.std.specs.Prelude.{Option, Some, is_some, Result, Ok, Err, is_ok, ⊤}
use mathlib.Core.Path.{◌≡◌, refl, sym, ap, ◌∙◌}
use mathlib.Core.Bool.{true, false≢true}
use mathlib.Core.List.{List, map}
use mathlib.Core.Logic.{◌↔◌, ⊎_elim}
use Prim.Native.Nat.{ℕ, ◌<◌}
use native.Mathlib.Omega.{arith}
use borrow.Author.Tests.{lt-ltb, le-leb}
use lib.IntN.{ℤ}
use lib.ListN.{length, length-map}
use Rattle.time_table.specs.Removal.{position}
use Rattle.sweep.specs.declared.Task.{Task}
use Rattle.sweep.specs.declared.Tasks.{Tasks}
use Rattle.sweep.specs.Tasks.{no_task, tasks_of, tasks_with, task_at}
use Rattle.sweep.specs.Created.{keeps, in_order, created, dropped, placed_at}
use Rattle.sweep.proofs.Placed.{get_map, placed_get, job_numbered, numbers_differ, job_dropped}
use Rattle.planner.specs.declared.Refusal.{Refusal}
use Rattle.planner.specs.declared.Jobs.{Jobs}
use Rattle.planner.specs.declared.Plan.{Plan}
use Rattle.planner.specs.declared.Loaded.{Loaded}
use Rattle.planner.specs.Given.{no_job}
use Rattle.planner.specs.Loads.{jobs_of, task_of, load_checked, accepted_load, loaded}
use Rattle.planner.specs.Places.{input_at, place_of, Idle, KnownAs}
use Rattle.planner.proofs.Tests.{by_test}
use Rattle.planner.proofs.Known.{tasks_of_lem}
use Rattle.planner.proofs.IdleJobs.{drops_idle, idle_drops}
use Rattle.planner.proofs.ById.{placed_kept}
use Rattle.planner.proofs.LoadedTasks.{jobs_few, load_by, load_accepted}

-- an accepted load
module _ (plan : Plan) (jobs : Jobs) (capacity : ℤ) (taken : is_ok (loaded plan jobs capacity).answer ≡ true) where
  checked : load_checked jobs capacity ≡ Ok tt
  checked = go (load_checked jobs capacity) refl
    where
      go : (r : Result ⊤ Refusal) → load_checked jobs capacity ≡ r → load_checked jobs capacity ≡ Ok tt
      go (Ok _) e = e
      go (Err why) e = absurd (false≢true (sym (ap (λ (l : Loaded). is_ok l.answer) (load_by plan jobs capacity (Err why) e)) ∙ taken))

  load_is : loaded plan jobs capacity ≡ accepted_load jobs capacity
  load_is = load_by plan jobs capacity (Ok tt) checked

  tasks_are : (loaded plan jobs capacity).plan.tasks ≡ tasks_with (created (map task_of (jobs_of jobs)))
  unfolding accepted_load
  tasks_are = ap (λ (l : Loaded). l.plan.tasks) load_is

  -- a job of the input
  module _ (i : ℕ) (lt : i < length (jobs_of jobs)) where
    abbrev ts : List Task
    ts = map task_of (jobs_of jobs)

    abbrev place : Option ℕ
    place = place_of (loaded plan jobs capacity) i

    place_is : place ≡ placed_at ts i
    unfolding accepted_load
    place_is =
        let few : i < 32 = omega (arith, jobs_few jobs (load_accepted jobs capacity checked).0, length-map (jobs_of jobs) task_of) in
        ap (λ (l : Loaded). place_of l i) load_is ∙ placed_get ts dropped 32 i few

    task_is : task_at ts i ≡ task_of (input_at jobs i)
    task_is = get_map task_of no_job no_task (jobs_of jobs) i lt

    kept_is : is_some place ≡ keeps (task_at ts i)
    kept_is = ap is_some place_is ∙ placed_kept ts i

    -- the answer is "dropped" exactly if the job's usage or duration is 0
    pub place_dropped : (place_of (loaded plan jobs capacity) i ≡ dropped) ↔ Idle (input_at jobs i)
    place_dropped = (
      λ e. drops_idle (input_at jobs i) (sym (kept_is ∙ ap keeps task_is) ∙ ap is_some e),
      λ idle. place_is ∙ job_dropped ts i (ap keeps task_is ∙ idle_drops (input_at jobs i) idle),
    )

    -- a job that is kept
    module _ (k : keeps (task_at ts i) ≡ true) where
      abbrev id : ℕ
      id = position i (in_order ts)

      id_is : place ≡ Some id
      id_is = place_is ∙ (job_numbered ts i k).answer

      is_known : KnownAs id (input_at jobs i) (loaded plan jobs capacity).plan
      is_known =
          let n = job_numbered ts i k in
          record {
            there = record { low = le-leb 0 id (omega arith); high = lt-ltb id _ (omega (arith, n.known, ap (λ (t : Tasks). t.count) tasks_are)) };
            task = ap (λ (t : Tasks). task_at (tasks_of t) id) tasks_are ∙ ap (λ (l : List Task). task_at l id) (tasks_of_lem (created ts)) ∙ n.task ∙ task_is;
          }

    -- else it is an id, and the plan has a task with it, which is the job
    pub place_kept : ¬ Idle (input_at jobs i)
        → (id : ℕ) × ((place_of (loaded plan jobs capacity) i ≡ Some id) × KnownAs id (input_at jobs i) (loaded plan jobs capacity).plan)
    place_kept busy =
        ⊎_elim
        (λ k. (id k, (id_is k, is_known k)))
        (λ gone. absurd (busy (drops_idle (input_at jobs i) (sym (ap keeps task_is) ∙ gone))))
        (by_test (keeps (task_at ts i)))

  -- two different jobs that are not dropped have different ids
  pub places_differ : (i j : ℕ) → i < length (jobs_of jobs) → j < length (jobs_of jobs)
      → (id : ℕ) → place_of (loaded plan jobs capacity) i ≡ Some id → place_of (loaded plan jobs capacity) j ≡ Some id → i ≡ j
  places_differ i j p q id e f =
      let k = sym (kept_is i p) ∙ ap is_some e in
      let l = sym (kept_is j q) ∙ ap is_some f in
      let same : Some (position i (in_order (map task_of (jobs_of jobs)))) ≡ Some (position j (in_order (map task_of (jobs_of jobs)))) = sym (id_is i p k) ∙ e ∙ sym f ∙ id_is j q l in
      numbers_differ (map task_of (jobs_of jobs)) i j k l (cc)
