-- Document 01's ranges at their ends: a load of one job with the last numbers that are allowed, and with the first that are refused. That the definitions say
-- just that is proved (proofs/Edges.antt).
use Rattle.std.specs.Prelude.{List, [], ◌∷◌, ℤ, pos, neg_ℤ}
use Rattle.planner.specs.declared.Job.{Job}
use Rattle.planner.specs.Refusals.{Verdict, admitted, refused, verdict}
use Rattle.planner.specs.Kept.{jobs_with}
use Rattle.planner.specs.Answers.{fresh_plan}
use Rattle.planner.specs.Loads.{loaded}

-- an entry of the table: a job and a capacity, and what is to be heard
pub record Edge : Type 0 where
  pub job : Job
  pub capacity : ℤ
  pub heard : Verdict

-- what is heard
unfoldable pub hears : Edge → Verdict
hears e = verdict (loaded fresh_plan (jobs_with (e.job ∷ [])) e.capacity).answer

-- start bounds, a duration, a usage, a capacity
abbrev edge : ℤ → ℤ → ℤ → ℤ → ℤ → Verdict → Edge
edge earliest latest duration usage capacity heard =
    record { job = record { earliest = earliest; latest = latest; duration = duration; usage = usage }; capacity = capacity; heard = heard }

unfoldable pub edges : List Edge
edges =
    -- start bounds
    edge (neg_ℤ (pos 1000000000)) (pos 1000000000) (pos 0) (pos 0) (pos 0) admitted
    ∷ edge (neg_ℤ (pos 1000000001)) (pos 0) (pos 0) (pos 0) (pos 0) (refused 3)
    ∷ edge (pos 0) (pos 1000000001) (pos 0) (pos 0) (pos 0) (refused 3)
    ∷ edge (pos 1) (pos 0) (pos 0) (pos 0) (pos 0) (refused 4)
    -- duration
    ∷ edge (pos 0) (pos 0) (pos 1000000000) (pos 0) (pos 0) admitted
    ∷ edge (pos 0) (pos 0) (pos 1000000001) (pos 0) (pos 0) (refused 5)
    ∷ edge (pos 0) (pos 0) (neg_ℤ (pos 1)) (pos 0) (pos 0) (refused 5)
    -- usage
    ∷ edge (pos 0) (pos 0) (pos 0) (pos 1000000) (pos 0) admitted
    ∷ edge (pos 0) (pos 0) (pos 0) (pos 1000001) (pos 0) (refused 6)
    ∷ edge (pos 0) (pos 0) (pos 0) (neg_ℤ (pos 1)) (pos 0) (refused 6)
    -- capacity
    ∷ edge (pos 0) (pos 0) (pos 0) (pos 0) (pos 1000000000) admitted
    ∷ edge (pos 0) (pos 0) (pos 0) (pos 0) (pos 1000000001) (refused 2)
    ∷ edge (pos 0) (pos 0) (pos 0) (pos 0) (neg_ℤ (pos 1)) (refused 2)
    ∷ []
