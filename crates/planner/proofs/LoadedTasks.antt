-- The tasks of accepted jobs are within the limits: each is a kept job, in ticks.
-- Assumes nothing.
use Rattle.std.specs.Prelude.{Result, Ok, ⊤}
use mathlib.Core.Path.{◌≡◌, refl, sym, ap, ◌∙◌}
use mathlib.Core.Bool.{true}
use mathlib.Core.List.{List, map}
use Prim.Native.Nat.{ℕ, ◌≤◌, ◌<◌}
use native.Mathlib.Omega.{arith}
use borrow.Author.Tests.{ltb-true, leb-true}
use lib.Dec.{ltb, leb}
use lib.IntN.{ℤ}
use lib.ListN.{length, get_or, length-map, length-take}
use Rattle.time_table.proofs.Held.{held_as}
use Rattle.time_table.proofs.Bits.{both}
use Rattle.sweep.specs.declared.Task.{Task}
use Rattle.sweep.specs.Tasks.{no_task, tasks_with, HeldTasks, task_at}
use Rattle.sweep.specs.Created.{keeps, in_order, created}
use Rattle.sweep.proofs.JobOrder.{in_order_low, order_few}
use Rattle.sweep.proofs.Placed.{get_map, created_at, created_kept, created_length}
use Rattle.planner.specs.declared.Refusal.{Refusal}
use Rattle.planner.specs.declared.Job.{Job}
use Rattle.planner.specs.declared.Jobs.{Jobs}
use Rattle.planner.specs.declared.Plan.{Plan}
use Rattle.planner.specs.declared.Refusal.TheVariants.{TooManyJobs}
use Rattle.planner.specs.Checks.{unless, ◌then◌, job_checked, jobs_checked, capacity_checked}
use Rattle.planner.specs.Given.{no_job}
use Rattle.planner.specs.Loads.{jobs_of, task_of, load_checked, loaded_by, loaded, Loadable}
use Rattle.planner.specs.Sound.{Limited, SoundTasks}
use Rattle.planner.proofs.Accepted.{job_accepted}
use Rattle.planner.proofs.InputOrder.{unless_accepted, then_accepted, jobs_accepted}
use Rattle.planner.proofs.Known.{tasks_of_lem}

-- a struct of few tasks holds them
pub tasks_held : (l : List Task) → length l ≤ 32 → HeldTasks (tasks_with l)
tasks_held l le = held_as (record { is = refl; counts = refl; fits = le }) (sym (tasks_of_lem l))

-- a kept job that is accepted is within the limits
kept_limited : (j : Job) → job_checked j ≡ Ok tt → keeps (task_of j) ≡ true → Limited (task_of j)
unfolding keeps
kept_limited j ok kept =
    let n = job_accepted ok in
    let some = both (ltb 0 (task_of j).usage) (ltb 0 (task_of j).duration) kept in
    record {
      ordered = n.starts.order;
      bound = n.starts.top;
      long = ltb-true 0 (task_of j).duration some.1;
      duration = n.duration.top;
      draws = ltb-true 0 (task_of j).usage some.0;
      usage = n.usage.top;
    }

module _ (jobs : Jobs) (can : Loadable jobs) where
  pub jobs_few : length (map task_of (jobs_of jobs)) ≤ 32
  jobs_few = rw (length-map, length-take) (omega (arith, can.few))

  task_limited : (id : ℕ) → id < length (created (map task_of (jobs_of jobs))) → Limited (task_at (created (map task_of (jobs_of jobs))) id)
  task_limited id lt =
      let js = map task_of (jobs_of jobs) in
      let k = get_or (in_order js) id 0 in
      let low : k < length js = in_order_low js id (omega (arith, created_length js)) in
      let low' : k < length (jobs_of jobs) = omega (arith, length-map (jobs_of jobs) task_of) in
      let is : task_at (created js) id ≡ task_of (get_or (jobs_of jobs) k no_job) = created_at js id lt ∙ get_map task_of no_job no_task (jobs_of jobs) k low' in
      rw is (kept_limited (get_or (jobs_of jobs) k no_job) ((jobs_accepted (jobs_of jobs)).0 can.checked k low') (rw is at (created_kept js id lt)))

  pub loaded_sound : SoundTasks (tasks_with (created (map task_of (jobs_of jobs))))
  unfolding in_order
  loaded_sound =
      let js = map task_of (jobs_of jobs) in
      let few : length (created js) ≤ 32 = omega (arith, created_length js, order_few js (length js), jobs_few) in
      record { held = tasks_held (created js) few; limited = λ i lt. rw (tasks_of_lem (created js)) (task_limited i lt) }

-- the cases of a load
pub load_by : (plan : Plan) (jobs : Jobs) (capacity : ℤ) (r : Result ⊤ Refusal) → load_checked jobs capacity ≡ r → loaded plan jobs capacity ≡ loaded_by r plan jobs capacity
unfolding loaded
load_by plan jobs capacity r e = ap (λ (x : Result ⊤ Refusal). loaded_by x plan jobs capacity) e

pub load_accepted : (jobs : Jobs) (capacity : ℤ) → load_checked jobs capacity ≡ Ok tt → Loadable jobs × (capacity_checked capacity ≡ Ok tt)
unfolding load_checked
load_accepted jobs capacity e =
    let w = then_accepted (unless TooManyJobs (leb jobs.count 32)) (capacity_checked capacity then jobs_checked (jobs_of jobs)) e in
    let v = then_accepted (capacity_checked capacity) (jobs_checked (jobs_of jobs)) w.1 in
    (record { few = leb-true jobs.count 32 (unless_accepted TooManyJobs (leb jobs.count 32) w.0); checked = v.1 }, v.0)
