-- First fit as a caller can tell it who only hears the answers: the smallest start within the job's last accepted bounds such that at every instant
-- of the run from there, what must be drawn plus the job's usage is at most the capacity. That first fit answers so after every history is proved
-- (proofs/HeardFit.antt).
use Rattle.std.specs.Prelude.{◌≡◌, true, ◌+◌, ◌≤◌, ℤ}
use Rattle.std.specs.Int.Signed.{le_z}
use Rattle.planner.specs.declared.Job.{Job}
use Rattle.planner.specs.Instants.{amount}
use Rattle.planner.specs.Running.{StartOf, runs_from}
use Rattle.planner.specs.History.{Heard}
use Rattle.planner.specs.Demand.{drawn_at}

-- z is a start within the job's bounds at which the run fits; the job's own mandatory part is among what must be drawn
pub record HeardFits (h : Heard) (j : Job) (z : ℤ) : Type 0 where
  pub start : StartOf j z
  pub fits : (t : ℤ) → runs_from j z t ≡ true → drawn_at h.jobs t + amount j.usage ≤ amount h.capacity

-- z is the smallest such start
pub record HeardFirst (h : Heard) (j : Job) (z : ℤ) : Type 0 where
  pub fit : HeardFits h j z
  pub least : (y : ℤ) → HeardFits h j y → le_z z y ≡ true
