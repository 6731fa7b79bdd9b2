-- The checks of the numbers that a caller hands in, in document 01's order.
use Rattle.std.specs.Prelude.{Bool, cond, ◌&&◌, Result, Ok, Err, ⊤, List, [], ◌∷◌, ℤ}
use Rattle.std.specs.Int.Signed.{le_z}
use Rattle.planner.specs.declared.Job.{Job}
use Rattle.planner.specs.declared.Refusal.{Refusal}
use Rattle.planner.specs.declared.Refusal.TheVariants.{CapacityOutOfRange, BoundOutOfRange, BoundsCrossed, DurationOutOfRange, UsageOutOfRange}
use Rattle.planner.specs.Ranges.{in_range, bounds, durations, usages, capacities}

-- refused unless a test holds
abbrev pub unless : Refusal → Bool → Result ⊤ Refusal
unless why test = cond test (Ok tt) (Err why)

-- one check and then another: the first refusal
infixr 5 ◌then◌
abbrev pub ◌then◌ : Result ⊤ Refusal → Result ⊤ Refusal → Result ⊤ Refusal
(Ok _) then next = next
(Err why) then next = Err why

-- a capacity: 2
unfoldable pub capacity_checked : ℤ → Result ⊤ Refusal
capacity_checked capacity = unless CapacityOutOfRange (in_range capacities capacity)

-- start bounds: 3, 4
unfoldable pub bounds_checked : ℤ → ℤ → Result ⊤ Refusal
bounds_checked earliest latest =
    unless BoundOutOfRange (in_range bounds earliest && in_range bounds latest)
    then unless BoundsCrossed (le_z earliest latest)

-- a job: 3, 4, 5, 6
unfoldable pub job_checked : Job → Result ⊤ Refusal
job_checked j =
    bounds_checked j.earliest j.latest
    then unless DurationOutOfRange (in_range durations j.duration)
    then unless UsageOutOfRange (in_range usages j.usage)

-- jobs: job by job in input order
unfoldable pub jobs_checked : List Job → Result ⊤ Refusal
jobs_checked [] = Ok tt
jobs_checked (j ∷ js) = job_checked j then jobs_checked js
