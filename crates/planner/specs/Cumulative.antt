-- The cumulative constraint of the Global Constraint Catalog: starts are chosen, one for each job within its bounds, and at each instant the draws
-- of the running jobs sum to at most the capacity. The jobs are those that were handed in.
use Rattle.std.specs.Prelude.{◌≡◌, cond, List, [], ◌∷◌, ℕ, ◌+◌, ◌≤◌, ℤ}
use Rattle.planner.specs.declared.Job.{Job}
use Rattle.planner.specs.Instants.{amount}
use Rattle.planner.specs.Running.{StartOf, runs_from}
use Rattle.planner.specs.History.{Heard}

-- one start for each job, in their order
pub data Starts : List Job → List ℤ → Type 0 where
  none : Starts [] []
  one : {j : Job} {js : List Job} {s : ℤ} {ss : List ℤ} → StartOf j s → Starts js ss → Starts (j ∷ js) (s ∷ ss)

-- the sum of the draws of the jobs that run at t
unfoldable pub drawn_from : List Job → List ℤ → ℤ → ℕ
drawn_from [] ss t = 0
drawn_from (j ∷ js) [] t = 0
drawn_from (j ∷ js) (s ∷ ss) t = cond (runs_from j s t) (amount j.usage) 0 + drawn_from js ss t

-- the constraint, of these starts
abbrev pub Cumulative : Heard → List ℤ → Type 0
Cumulative h ss = (t : ℤ) → drawn_from h.jobs ss t ≤ amount h.capacity

-- every job has one start only
unfoldable pub AllFixed : List Job → Type 0
AllFixed [] = Unit {0}
AllFixed (j ∷ js) = (j.earliest ≡ j.latest) × AllFixed js
