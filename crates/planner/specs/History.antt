-- Calls from a fresh plan on, refused ones among them, and what the accepted ones among them have said last.
use Rattle.std.specs.Prelude.{◌≡◌, Bool, false, cond, Option, Some, None, is_ok, List, [], ◌∷◌, ℕ, ◌<◌, eqb, ℤ, pos, length, get_or}
use Rattle.sweep.specs.Created.{dropped}
use Rattle.planner.specs.declared.Job.{Job}
use Rattle.planner.specs.declared.Jobs.{Jobs}
use Rattle.planner.specs.declared.Plan.{Plan}
use Rattle.planner.specs.declared.Updated.{Updated}
use Rattle.planner.specs.declared.Loaded.{Loaded}
use Rattle.planner.specs.Instants.{amount}
use Rattle.planner.specs.Given.{no_job}
use Rattle.planner.specs.Answers.{fresh_plan}
use Rattle.planner.specs.Loads.{jobs_of, loaded}
use Rattle.planner.specs.Updates.{updated}

-- a load of jobs with a capacity, or an update of the task with an id to an earliest and a latest start
pub data Call : Type 0 where
  load : Jobs → ℤ → Call
  update : ℤ → ℤ → ℤ → Call

-- what a call leads to
abbrev pub without_places : Loaded → Updated
without_places l = record { answer = l.answer; row = l.row; plan = l.plan }

abbrev pub outcome : Plan → Call → Updated
outcome plan (load jobs capacity) = without_places (loaded plan jobs capacity)
outcome plan (update id earliest latest) = updated plan id earliest latest

-- the plan after some calls
abbrev pub plan_after : Plan → List Call → Plan
plan_after plan [] = plan
plan_after plan (c ∷ cs) = plan_after (outcome plan c).plan cs

-- what a call tells of the jobs: a load, for each input job its id or that it is dropped; an update, nothing
abbrev pub tells : Plan → Call → List (Option ℕ)
tells plan (load jobs capacity) = (loaded plan jobs capacity).placed
tells plan (update id earliest latest) = []

-- what a caller knows who hears the answers and sees no plan: the capacity; the jobs as they were handed in, in input order, with their last
-- accepted bounds; and what was told of each
pub record Heard : Type 0 where
  pub capacity : ℤ
  pub jobs : List Job
  pub told : List (Option ℕ)

abbrev pub nothing : Heard
nothing = record { capacity = pos 0; jobs = []; told = [] }

-- the job at the place p of the input
abbrev pub job_at : Heard → ℕ → Job
job_at h p = get_or h.jobs p no_job

-- it was told the id i
pub record Told (h : Heard) (p i : ℕ) : Type 0 where
  pub inside : p < length h.jobs
  pub id : get_or h.told p dropped ≡ Some i

-- a job with other bounds, and the jobs where the one that was told an id has them
abbrev pub rebounded : Job → ℤ → ℤ → Job
rebounded j earliest latest = record { earliest = earliest; latest = latest; duration = j.duration; usage = j.usage }

-- the id that was told, if one was, is this
abbrev pub is_told : Option ℕ → ℕ → Bool
is_told None id = false
is_told (Some i) id = eqb i id

unfoldable pub rebounding : ℕ → ℤ → ℤ → List (Option ℕ) → List Job → List Job
rebounding id earliest latest [] js = js
rebounding id earliest latest (p ∷ ps) [] = []
rebounding id earliest latest (p ∷ ps) (j ∷ js) =
    cond (is_told p id) (rebounded j earliest latest) j ∷ rebounding id earliest latest ps js

-- an accepted load sets them, an accepted update gives one job other bounds
abbrev pub hear : Heard → Call → List (Option ℕ) → Heard
hear h (load jobs capacity) told = record { capacity = capacity; jobs = jobs_of jobs; told = told }
hear h (update id earliest latest) told =
    record { capacity = h.capacity; jobs = rebounding (amount id) earliest latest h.told h.jobs; told = h.told }

-- a refused call says nothing
abbrev pub last_heard : Plan → Heard → Call → Heard
last_heard plan h c = cond (is_ok (outcome plan c).answer) (hear h c (tells plan c)) h

-- what is known after some calls of a plan
abbrev pub heard_after : Plan → Heard → List Call → Heard
heard_after plan h [] = h
heard_after plan h (c ∷ cs) = heard_after (outcome plan c).plan (last_heard plan h c) cs

-- what is known after some calls of a fresh plan and one more that is accepted
abbrev pub heard_with : List Call → Call → Heard
heard_with calls c = hear (heard_after fresh_plan nothing calls) c (tells (plan_after fresh_plan calls) c)
