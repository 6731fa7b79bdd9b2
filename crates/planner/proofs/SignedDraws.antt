-- What runs and what is drawn at a signed instant is what runs and is drawn at its tick; below the first tick nothing runs.
-- Assumes nothing.
use Rattle.std.specs.Prelude.{Ok}
use mathlib.Core.Path.{◌≡◌, refl, sym}
use mathlib.Core.Bool.{Bool, true, false, cond}
use mathlib.Core.List.{List, [], ◌∷◌, map}
use Prim.Native.Nat.{ℕ, zero, suc, ◌+◌, ◌≤◌, ◌<◌}
use native.Mathlib.Nat.{not-suc-le-zero, le_of_suc-le-suc}
use native.Mathlib.Omega.{arith}
use lib.IntN.{ℤ}
use lib.ListN.{length, get_or}
use lib.Signed.{lt_z}
use Rattle.time_table.specs.Demand.{draw_at}
use Rattle.time_table.proofs.Sums.{has_none}
use Rattle.sweep.specs.declared.Task.{Task}
use Rattle.sweep.specs.Tasks.{usage_of, in_part, runs}
use Rattle.planner.specs.declared.Job.{Job}
use Rattle.planner.specs.Ranges.{bounds}
use Rattle.planner.specs.Instants.{instant}
use Rattle.planner.specs.Loads.{task_of}
use Rattle.planner.specs.Checks.{job_checked}
use Rattle.planner.specs.Running.{must_run}
use Rattle.planner.specs.Given.{no_job}
use Rattle.planner.specs.Demand.{drawn_at}
use Rattle.planner.proofs.Accepted.{Numbers, job_accepted}
use Rattle.planner.proofs.RunInTicks.{run_at, run_low}

-- every job's numbers are in range
unfoldable pub AllNumbers : List Job → Type 0
AllNumbers [] = Unit {0}
AllNumbers (j ∷ js) = Numbers j × AllNumbers js

pub numbers_at : (js : List Job) → AllNumbers js → (i : ℕ) → i < length js → Numbers (get_or js i no_job)
unfolding AllNumbers
numbers_at [] n i lt = absurd (not-suc-le-zero lt)
numbers_at (j ∷ js) n zero lt = n.0
numbers_at (j ∷ js) n (suc i) lt = numbers_at js n.1 i (le_of_suc-le-suc lt)

pub numbers_each : (js : List Job) → ((i : ℕ) → i < length js → Numbers (get_or js i no_job)) → AllNumbers js
unfolding AllNumbers
numbers_each [] each = tt
numbers_each (j ∷ js) each = (each 0 (omega arith), numbers_each js (λ i lt. each (suc i) (omega arith)))

-- the job i must be running at t; no job but these ever must
unfoldable pub running_at : List Job → ℕ → ℤ → Bool
running_at [] i t = false
running_at (j ∷ js) zero t = must_run j t
running_at (j ∷ js) (suc i) t = running_at js i t

pub running_get : (js : List Job) (i : ℕ) (t : ℤ) → i < length js → running_at js i t ≡ must_run (get_or js i no_job) t
unfolding running_at
running_get [] i t lt = absurd (not-suc-le-zero lt)
running_get (j ∷ js) zero t lt = refl
running_get (j ∷ js) (suc i) t lt = running_get js i t (le_of_suc-le-suc lt)

pub running_past : (js : List Job) (i : ℕ) (t : ℤ) → length js ≤ i → running_at js i t ≡ false
unfolding running_at
running_past [] i t le = refl
running_past (j ∷ js) zero t le = absurd (not-suc-le-zero le)
running_past (j ∷ js) (suc i) t le = running_past js i t (le_of_suc-le-suc le)

running_tick : (j : Job) → Numbers j → (s : ℕ) → must_run j (instant s) ≡ in_part (task_of j) s
running_tick j n s = run_at n.starts n.duration s

-- a job that a load accepts must be running exactly in its part in ticks
pub part_signed : (j : Job) → job_checked j ≡ Ok tt → (s : ℕ) → must_run j (instant s) ≡ in_part (task_of j) s
part_signed j ok s = running_tick j (job_accepted ok) s

pub runs_signed : (js : List Job) → AllNumbers js → (i s : ℕ) → running_at js i (instant s) ≡ runs (map task_of js) i s
unfolding AllNumbers running_at
runs_signed [] n i s = sym (has_none 0 0 s (omega arith))
runs_signed (j ∷ js) n zero s = running_tick j n.0 s
runs_signed (j ∷ js) n (suc i) s = runs_signed js n.1 i s

-- a sum over the tasks, with the first task apart
draw_first : (k : Task) (ts : List Task) (n s : ℕ) → draw_at (runs (k ∷ ts)) (usage_of (k ∷ ts)) (suc n) s ≡ cond (in_part k s) k.usage 0 + draw_at (runs ts) (usage_of ts) n s
unfolding draw_at
draw_first k ts zero s = omega arith
draw_first k ts (suc n) s = omega (arith, draw_first k ts n s)

pub draw_signed : (js : List Job) → AllNumbers js → (s : ℕ) → drawn_at js (instant s) ≡ draw_at (runs (map task_of js)) (usage_of (map task_of js)) (length js) s
unfolding AllNumbers drawn_at draw_at
draw_signed [] n s = refl
draw_signed (j ∷ js) n s =
    rw (running_tick j n.0 s, draw_signed js n.1 s) (sym (draw_first (task_of j) (map task_of js) (length js) s))

-- below the first tick
module _ (t : ℤ) (low : lt_z t bounds.lo ≡ true) where
  pub runs_below : (js : List Job) → AllNumbers js → (i : ℕ) → running_at js i t ≡ false
  unfolding AllNumbers running_at
  runs_below [] n i = refl
  runs_below (j ∷ js) n zero = run_low n.0.starts _ t low
  runs_below (j ∷ js) n (suc i) = runs_below js n.1 i

  pub draw_below : (js : List Job) → AllNumbers js → drawn_at js t ≡ 0
  unfolding AllNumbers drawn_at
  draw_below [] n = refl
  draw_below (j ∷ js) n = rw (run_low n.0.starts _ t low, draw_below js n.1)
