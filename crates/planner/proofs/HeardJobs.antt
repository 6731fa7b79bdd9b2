-- What is heard of the jobs agrees with the plan's tasks: a load's kept jobs in ticks are the created tasks, and an update changes the same place.
-- Assumes nothing.
use Rattle.std.specs.Prelude.{Ok}
use mathlib.Core.Path.{◌≡◌, refl, ap, ◌∙◌}
use mathlib.Core.List.{List, [], ◌∷◌, map}
use Prim.Native.Nat.{ℕ, zero, suc, ◌<◌}
use native.Mathlib.Omega.{arith}
use lib.IntN.{ℤ}
use lib.ListN.{length, get_or, set, length-map}
use Rattle.sweep.specs.declared.Task.{Task}
use Rattle.sweep.specs.Tasks.{no_task, task_at}
use Rattle.sweep.specs.Created.{in_order, created}
use Rattle.sweep.proofs.JobOrder.{in_order_low}
use Rattle.sweep.proofs.Placed.{get_map}
use Rattle.planner.specs.declared.Job.{Job}
use Rattle.planner.specs.Instants.{tick}
use Rattle.planner.specs.Checks.{jobs_checked, bounds_checked}
use Rattle.planner.specs.Given.{no_job}
use Rattle.planner.specs.Loads.{task_of}
use Rattle.planner.specs.Updates.{bounded}
use Rattle.planner.specs.History.{rebounded}
use Rattle.planner.proofs.Accepted.{Numbers, bounds_accepted, job_accepted}
use Rattle.planner.proofs.InputOrder.{jobs_accepted}
use Rattle.planner.proofs.SignedDraws.{AllNumbers, numbers_at}
use Rattle.planner.proofs.ById.{kept_jobs}

-- some of the jobs, in ticks and in range
module _ (js : List Job) where
  picked_tasks : (order : List ℕ) → ((k : ℕ) → k < length order → get_or order k 0 < length js)
      → map (task_at (map task_of js)) order ≡ map task_of (map (λ (i : ℕ). get_or js i no_job) order)
  picked_tasks [] low = refl
  picked_tasks (i ∷ is) low =
      λ a. get_map task_of no_job no_task js i (low 0 (omega arith)) a ∷ picked_tasks is (λ k lt. low (suc k) (omega arith)) a

  picked_numbers : jobs_checked js ≡ Ok tt → (order : List ℕ) → ((k : ℕ) → k < length order → get_or order k 0 < length js)
      → AllNumbers (map (λ (i : ℕ). get_or js i no_job) order)
  unfolding AllNumbers
  picked_numbers ok [] low = tt
  picked_numbers ok (i ∷ is) low =
      (job_accepted ((jobs_accepted js).0 ok i (low 0 (omega arith))), picked_numbers ok is (λ k lt. low (suc k) (omega arith)))

  order_low : (k : ℕ) → k < length (in_order (map task_of js)) → get_or (in_order (map task_of js)) k 0 < length js
  order_low k lt = omega (arith, in_order_low (map task_of js) k lt, length-map js task_of)

  pub kept_tasks : created (map task_of js) ≡ map task_of (kept_jobs js)
  unfolding created
  kept_tasks = picked_tasks (in_order (map task_of js)) order_low

  pub kept_numbers : jobs_checked js ≡ Ok tt → AllNumbers (kept_jobs js)
  kept_numbers ok = picked_numbers ok (in_order (map task_of js)) order_low

-- one job in the place of another
set_map : (js : List Job) (i : ℕ) (j : Job) → set (map task_of js) i (task_of j) ≡ map task_of (set js i j)
set_map [] i j = refl
set_map (k ∷ js) zero j = refl
set_map (k ∷ js) (suc i) j = ap (λ (l : List Task). task_of k ∷ l) (set_map js i j)

numbers_set : (js : List Job) → AllNumbers js → (i : ℕ) (j : Job) → Numbers j → AllNumbers (set js i j)
unfolding AllNumbers
numbers_set [] n i j m = tt
numbers_set (k ∷ js) n zero j m = (m, n.1)
numbers_set (k ∷ js) n (suc i) j m = (n.0, numbers_set js n.1 i j m)

module _ (js : List Job) (nums : AllNumbers js) (i : ℕ) (lt : i < length js) (earliest latest : ℤ) (ok : bounds_checked earliest latest ≡ Ok tt) where
  abbrev other : Job
  other = rebounded (get_or js i no_job) earliest latest

  pub moved_tasks : set (map task_of js) i (bounded (task_at (map task_of js) i) (tick earliest) (tick latest)) ≡ map task_of (set js i other)
  moved_tasks =
      ap (λ (k : Task). set (map task_of js) i (bounded k (tick earliest) (tick latest))) (get_map task_of no_job no_task js i lt) ∙ set_map js i other

  pub moved_numbers : AllNumbers (set js i other)
  moved_numbers =
      let n = numbers_at js nums i lt in
      numbers_set js nums i other (record { starts = bounds_accepted ok; duration = n.duration; usage = n.usage })
