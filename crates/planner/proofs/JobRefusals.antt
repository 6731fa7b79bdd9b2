-- Refusals 3 to 6 are given exactly when document 01 says so: each is read off its row of the table, and the other rows have other numbers.
-- Assumes nothing.
use mathlib.Core.Path.{◌≡◌}
use mathlib.Core.Bool.{true}
use mathlib.Core.Logic.Iff
use mathlib.Core.Logic.{◌⊎◌, ◌↔◌}
use Prim.Native.Nat.{ℕ, ◌≤◌}
use native.Mathlib.Omega.{arith}
use lib.IntN.{ℤ}
use lib.Signed.{lt_z}
use Rattle.planner.specs.declared.Job.{Job}
use Rattle.planner.specs.Refusals.{admitted, refused}
use Rattle.planner.specs.Ranges.{InRange, bounds, durations, usages}
use Rattle.planner.specs.Given.{BoundsGiven, bound_out, crossed, JobGiven, bounds_refused, duration_out, usage_out}

-- the numbers of start bounds, and of a job
pub bounds_number : {e l : ℤ} {n : ℕ} → BoundsGiven e l (refused n) → (3 ≤ n) × (n ≤ 4)
bounds_number (bound_out out) = (omega arith, omega arith)
bounds_number (crossed p q o) = (omega arith, omega arith)

pub job_number : {j : Job} {n : ℕ} → JobGiven j (refused n) → (3 ≤ n) × (n ≤ 6)
job_number (bounds_refused g) = ((bounds_number g).0, omega (arith, (bounds_number g).1))
job_number (duration_out g out) = (omega arith, omega arith)
job_number (usage_out g p out) = (omega arith, omega arith)

-- start bounds
module _ (e l : ℤ) where
  pub bounds_3 : BoundsGiven e l (refused 3) ↔ ((¬ InRange bounds e) ⊎ (¬ InRange bounds l))
  bounds_3 = (go, bound_out)
    where
      go : BoundsGiven e l (refused 3) → (¬ InRange bounds e) ⊎ (¬ InRange bounds l)
      go (bound_out out) = out

  pub bounds_4 : BoundsGiven e l (refused 4) ↔ (InRange bounds e × InRange bounds l × (lt_z l e ≡ true))
  bounds_4 = (go, λ f. crossed f.0 f.1 f.2)
    where
      go : BoundsGiven e l (refused 4) → InRange bounds e × InRange bounds l × (lt_z l e ≡ true)
      go (crossed p q o) = (p, q, o)

-- a job: its start bounds first, and then its duration and its usage
module _ (j : Job) where
  job_3_4 : (n : ℕ) → n ≤ 4 → JobGiven j (refused n) ↔ BoundsGiven j.earliest j.latest (refused n)
  job_3_4 n le = (go le, bounds_refused)
    where
      go : {n : ℕ} → n ≤ 4 → JobGiven j (refused n) → BoundsGiven j.earliest j.latest (refused n)
      go le (bounds_refused g) = g
      go le (duration_out g out) = absurd (omega arith)
      go le (usage_out g p out) = absurd (omega arith)

  pub job_3 : JobGiven j (refused 3) ↔ ((¬ InRange bounds j.earliest) ⊎ (¬ InRange bounds j.latest))
  job_3 = Iff.trans (job_3_4 3 (omega arith)) (bounds_3 j.earliest j.latest)

  pub job_4 : JobGiven j (refused 4) ↔ (InRange bounds j.earliest × InRange bounds j.latest × (lt_z j.latest j.earliest ≡ true))
  job_4 = Iff.trans (job_3_4 4 (omega arith)) (bounds_4 j.earliest j.latest)

  pub job_5 : JobGiven j (refused 5) ↔ (BoundsGiven j.earliest j.latest admitted × (¬ InRange durations j.duration))
  job_5 = (go, λ f. duration_out f.0 f.1)
    where
      go : JobGiven j (refused 5) → BoundsGiven j.earliest j.latest admitted × (¬ InRange durations j.duration)
      go (bounds_refused g) = absurd (omega (arith, bounds_number g))
      go (duration_out g out) = (g, out)

  pub job_6 : JobGiven j (refused 6) ↔ (BoundsGiven j.earliest j.latest admitted × InRange durations j.duration × (¬ InRange usages j.usage))
  job_6 = (go, λ f. usage_out f.0 f.1 f.2)
    where
      go : JobGiven j (refused 6) → BoundsGiven j.earliest j.latest admitted × InRange durations j.duration × (¬ InRange usages j.usage)
      go (bounds_refused g) = absurd (omega (arith, bounds_number g))
      go (usage_out g p out) = (g, p, out)
