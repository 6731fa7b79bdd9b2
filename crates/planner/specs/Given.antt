-- Document 01's table: when each answer of a check is given, and with which number a refusal. That the checks give each answer exactly then is proved
-- (proofs/Given.antt).
use Rattle.std.specs.Prelude.{◌≡◌, true, ◌⊎◌, ℕ, ℤ, pos}
use Rattle.std.specs.Int.Signed.{le_z, lt_z}
use Rattle.planner.specs.declared.Job.{Job}
use Rattle.planner.specs.Refusals.{Verdict, admitted, refused}
use Rattle.planner.specs.Ranges.{InRange, bounds, durations, usages, capacities}

pub data CapacityGiven (capacity : ℤ) : Verdict → Type 0 where
  capacity_out : ¬ InRange capacities capacity → CapacityGiven capacity (refused 2)
  capacity_in : InRange capacities capacity → CapacityGiven capacity admitted

pub data BoundsGiven (earliest latest : ℤ) : Verdict → Type 0 where
  bound_out : (¬ InRange bounds earliest) ⊎ (¬ InRange bounds latest) → BoundsGiven earliest latest (refused 3)
  crossed : InRange bounds earliest → InRange bounds latest → lt_z latest earliest ≡ true → BoundsGiven earliest latest (refused 4)
  ordered : InRange bounds earliest → InRange bounds latest → le_z earliest latest ≡ true → BoundsGiven earliest latest admitted

pub data JobGiven (j : Job) : Verdict → Type 0 where
  bounds_refused : {n : ℕ} → BoundsGiven j.earliest j.latest (refused n) → JobGiven j (refused n)
  duration_out : BoundsGiven j.earliest j.latest admitted → ¬ InRange durations j.duration → JobGiven j (refused 5)
  usage_out : BoundsGiven j.earliest j.latest admitted → InRange durations j.duration → ¬ InRange usages j.usage → JobGiven j (refused 6)
  job_in : BoundsGiven j.earliest j.latest admitted → InRange durations j.duration → InRange usages j.usage → JobGiven j admitted

-- what a list of jobs has past its end
abbrev pub no_job : Job
no_job = record { earliest = pos 0; latest = pos 0; duration = pos 0; usage = pos 0 }
