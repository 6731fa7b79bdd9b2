-- The table number by number: each row of it is one of the ways in which a call is judged, and the ways to another number are shut out by the number.
-- Assumes nothing.
use Rattle.std.specs.Prelude.{Result, Ok, Err}
use mathlib.Core.Path.{◌≡◌, refl, sym, ap, ◌∙◌}
use mathlib.Core.Bool.{true, false, cond}
use mathlib.Core.List.{List}
use mathlib.Core.Logic.Iff
use mathlib.Core.Logic.{◌⊎◌, ◌↔◌, inl, inr}
use Prim.Native.Nat.{ℕ, ◌≤◌, ◌<◌}
use native.Mathlib.Omega.{arith}
use borrow.Author.Tests.{le-ltb}
use lib.Dec.{eqb}
use lib.IntN.{ℤ}
use lib.ListN.{length}
use lib.Signed.{lt_z}
use Rattle.time_table.specs.Rows.{rows_of}
use Rattle.planner.specs.declared.Job.{Job}
use Rattle.planner.specs.declared.Jobs.{Jobs}
use Rattle.planner.specs.declared.Plan.{Plan}
use Rattle.planner.specs.declared.Refusal.{Refusal}
use Rattle.planner.specs.declared.Refusal.TheVariants.{TooManyJobs, CapacityOutOfRange, BoundOutOfRange, BoundsCrossed, DurationOutOfRange, UsageOutOfRange, UnknownTask, TooManyRows, Stale, ShortSlice, Unreadable}
use Rattle.planner.specs.declared.Answer.{Answer}
use Rattle.planner.specs.declared.Answer.TheVariants.{Fits, Overloaded}
use Rattle.planner.specs.Refusals.{number_of, admitted, refused, verdict}
use Rattle.planner.specs.Ranges.{InRange, bounds, durations, usages, capacities}
use Rattle.planner.specs.Given.{BoundsGiven, bound_out, crossed, JobGiven}
use Rattle.planner.specs.Kept.{keeping}
use Rattle.planner.specs.Loads.{jobs_of, loaded}
use Rattle.planner.specs.Updates.{updated}
use Rattle.planner.specs.Questions.{fit_of, rows_shown}
use Rattle.planner.specs.Refused.{JobTaken, FirstJob, FirstOut, LoadGiven, too_many, bad_capacity, bad_job, load_in, HasTask, NoTask, edits_by, OverAfter, UpdateGiven, not_there, bad_bounds, too_long, update_in, FitGiven, nobody, fit_stale, RowsGiven, rows_stale, rows_in}
use Rattle.planner.proofs.JobRefusals.{bounds_number, job_number, bounds_3, bounds_4, job_3, job_4, job_5, job_6}
use Rattle.planner.proofs.Refused.{load_exactly, update_exactly, fit_exactly, rows_exactly}

-- an accepted call answers "fits" or "overloaded"
taken_is : (a : Result Answer Refusal) → ((a ≡ Ok Fits) ⊎ (a ≡ Ok Overloaded)) ↔ (verdict a ≡ admitted)
taken_is a = (there a, back a)
  where
    there : (a : Result Answer Refusal) → (a ≡ Ok Fits) ⊎ (a ≡ Ok Overloaded) → verdict a ≡ admitted
    there a (inl h) = rw h
    there a (inr h) = rw h

    back : (a : Result Answer Refusal) → verdict a ≡ admitted → (a ≡ Ok Fits) ⊎ (a ≡ Ok Overloaded)
    back (Ok Fits) h = inl refl
    back (Ok Overloaded) h = inr refl
    back (Err why) h = absurd (cc)

-- a number names one refusal
abbrev named : ℕ → Refusal
named n =
    cond (eqb n 1) TooManyJobs (cond (eqb n 2) CapacityOutOfRange (cond (eqb n 3) BoundOutOfRange (cond (eqb n 4) BoundsCrossed (cond (eqb n 5) DurationOutOfRange
    (cond (eqb n 6) UsageOutOfRange (cond (eqb n 7) UnknownTask (cond (eqb n 8) TooManyRows (cond (eqb n 9) Stale (cond (eqb n 10) ShortSlice Unreadable)))))))))

named_number : (why : Refusal) → named (number_of why) ≡ why
named_number TooManyJobs = refl
named_number CapacityOutOfRange = refl
named_number BoundOutOfRange = refl
named_number BoundsCrossed = refl
named_number DurationOutOfRange = refl
named_number UsageOutOfRange = refl
named_number UnknownTask = refl
named_number TooManyRows = refl
named_number Stale = refl
named_number ShortSlice = refl
named_number Unreadable = refl

pub number_names : (a b : Refusal) → number_of a ≡ number_of b → a ≡ b
number_names a b e = sym (named_number a) ∙ ap named e ∙ named_number b

-- the first job that is refused, said otherwise
first_as : {P Q : Job → Type 0} (js : List Job) → ((j : Job) → P j ↔ Q j) → FirstJob P js ↔ FirstJob Q js
first_as js same = (
  λ f. record { place = f.place; inside = f.inside; bad = (same _).0 f.bad; before = f.before },
  λ f. record { place = f.place; inside = f.inside; bad = (same _).1 f.bad; before = f.before },
)

-- a load
module _ (plan : Plan) (jobs : Jobs) (capacity : ℤ) where
  load_given : {n : ℕ} → (verdict (loaded plan jobs capacity).answer ≡ refused n) ↔ LoadGiven jobs capacity (refused n)
  load_given {n} = load_exactly plan jobs capacity (refused n)

  pub load_refused_1 : (verdict (loaded plan jobs capacity).answer ≡ refused 1) ↔ (32 < jobs.count)
  load_refused_1 = Iff.trans load_given (go, too_many)
    where
      go : LoadGiven jobs capacity (refused 1) → 32 < jobs.count
      go (too_many h) = h
      go (bad_job few within f) = absurd (omega (arith, job_number f.bad))

  pub load_refused_2 : (verdict (loaded plan jobs capacity).answer ≡ refused 2) ↔ ((jobs.count ≤ 32) × (¬ InRange capacities capacity))
  load_refused_2 = Iff.trans load_given (go, λ h. bad_capacity h.0 h.1)
    where
      go : LoadGiven jobs capacity (refused 2) → (jobs.count ≤ 32) × (¬ InRange capacities capacity)
      go (bad_capacity few out) = (few, out)
      go (bad_job few within f) = absurd (omega (arith, job_number f.bad))

  -- 3 to 6: the first job that is refused, in the words of the table
  load_refused_as : {Bad : Job → Type 0} (n : ℕ) → 3 ≤ n → ((j : Job) → JobGiven j (refused n) ↔ Bad j)
      → (verdict (loaded plan jobs capacity).answer ≡ refused n) ↔ ((jobs.count ≤ 32) × InRange capacities capacity × FirstJob Bad (jobs_of jobs))
  load_refused_as n from same =
      let first = first_as (jobs_of jobs) same in
      Iff.trans load_given (λ g. let w = go from g in (w.0, w.1, first.0 w.2), λ h. bad_job h.0 h.1 (first.1 h.2))
    where
      go : {n : ℕ} → 3 ≤ n → LoadGiven jobs capacity (refused n) → (jobs.count ≤ 32) × InRange capacities capacity × FirstOut (jobs_of jobs) n
      go from (too_many h) = absurd (omega arith)
      go from (bad_capacity few out) = absurd (omega arith)
      go from (bad_job few within f) = (few, within, f)

  pub load_refused_3 : (verdict (loaded plan jobs capacity).answer ≡ refused 3)
      ↔ ((jobs.count ≤ 32) × InRange capacities capacity × FirstJob (λ (j : Job). (¬ InRange bounds j.earliest) ⊎ (¬ InRange bounds j.latest)) (jobs_of jobs))
  load_refused_3 = load_refused_as 3 (omega arith) job_3

  pub load_refused_4 : (verdict (loaded plan jobs capacity).answer ≡ refused 4)
      ↔ ((jobs.count ≤ 32) × InRange capacities capacity
      × FirstJob (λ (j : Job). InRange bounds j.earliest × InRange bounds j.latest × (lt_z j.latest j.earliest ≡ true)) (jobs_of jobs))
  load_refused_4 = load_refused_as 4 (omega arith) job_4

  pub load_refused_5 : (verdict (loaded plan jobs capacity).answer ≡ refused 5)
      ↔ ((jobs.count ≤ 32) × InRange capacities capacity
      × FirstJob (λ (j : Job). BoundsGiven j.earliest j.latest admitted × (¬ InRange durations j.duration)) (jobs_of jobs))
  load_refused_5 = load_refused_as 5 (omega arith) job_5

  pub load_refused_6 : (verdict (loaded plan jobs capacity).answer ≡ refused 6)
      ↔ ((jobs.count ≤ 32) × InRange capacities capacity
      × FirstJob (λ (j : Job). BoundsGiven j.earliest j.latest admitted × InRange durations j.duration × (¬ InRange usages j.usage)) (jobs_of jobs))
  load_refused_6 = load_refused_as 6 (omega arith) job_6

  pub load_numbers : {n : ℕ} → verdict (loaded plan jobs capacity).answer ≡ refused n → (1 ≤ n) × (n ≤ 6)
  load_numbers h = go (load_given.0 h)
    where
      go : {n : ℕ} → LoadGiven jobs capacity (refused n) → (1 ≤ n) × (n ≤ 6)
      go (too_many h) = (omega arith, omega arith)
      go (bad_capacity few out) = (omega arith, omega arith)
      go (bad_job few within f) = (omega (arith, job_number f.bad), (job_number f.bad).1)

  pub load_accepted_when : (((loaded plan jobs capacity).answer ≡ Ok Fits) ⊎ ((loaded plan jobs capacity).answer ≡ Ok Overloaded))
      ↔ ((jobs.count ≤ 32) × InRange capacities capacity × ((k : ℕ) → k < length (jobs_of jobs) → JobTaken (jobs_of jobs) k))
  load_accepted_when = Iff.trans (taken_is _) (Iff.trans (load_exactly plan jobs capacity admitted) (go, λ h. load_in h.0 h.1 h.2))
    where
      go : LoadGiven jobs capacity admitted → (jobs.count ≤ 32) × InRange capacities capacity × ((k : ℕ) → k < length (jobs_of jobs) → JobTaken (jobs_of jobs) k)
      go (load_in few within all) = (few, within, all)

-- an update
module _ (plan : Plan) (id earliest latest : ℤ) where
  update_given : {n : ℕ} → (verdict (updated plan id earliest latest).answer ≡ refused n) ↔ UpdateGiven plan id earliest latest (refused n)
  update_given {n} = update_exactly plan id earliest latest (refused n)

  pub update_refused_7 : (verdict (updated plan id earliest latest).answer ≡ refused 7) ↔ NoTask plan id
  update_refused_7 = Iff.trans update_given (go, not_there)
    where
      go : UpdateGiven plan id earliest latest (refused 7) → NoTask plan id
      go (not_there n) = n
      go (bad_bounds h g) = absurd (omega (arith, bounds_number g))

  -- 3 and 4: the bounds are refused, in the words of the table
  update_refused_as : {Bad : Type 0} (n : ℕ) → n ≤ 4 → BoundsGiven earliest latest (refused n) ↔ Bad
      → (verdict (updated plan id earliest latest).answer ≡ refused n) ↔ (HasTask plan id × Bad)
  update_refused_as n to same = Iff.trans update_given (λ g. ((go to g).0, same.0 (go to g).1), λ h. bad_bounds h.0 (same.1 h.1))
    where
      go : {n : ℕ} → n ≤ 4 → UpdateGiven plan id earliest latest (refused n) → HasTask plan id × BoundsGiven earliest latest (refused n)
      go to (not_there n) = absurd (omega arith)
      go to (bad_bounds h g) = (h, g)
      go to (too_long h g live w) = absurd (omega arith)

  pub update_refused_3 : (verdict (updated plan id earliest latest).answer ≡ refused 3) ↔ (HasTask plan id × ((¬ InRange bounds earliest) ⊎ (¬ InRange bounds latest)))
  update_refused_3 = update_refused_as 3 (omega arith) (bounds_3 earliest latest)

  pub update_refused_4 : (verdict (updated plan id earliest latest).answer ≡ refused 4)
      ↔ (HasTask plan id × (InRange bounds earliest × InRange bounds latest × (lt_z latest earliest ≡ true)))
  update_refused_4 = update_refused_as 4 (omega arith) (bounds_4 earliest latest)

  pub update_refused_8 : (verdict (updated plan id earliest latest).answer ≡ refused 8)
      ↔ (HasTask plan id × BoundsGiven earliest latest admitted × (plan.live ≡ true) × OverAfter (edits_by plan id earliest latest) (rows_of plan.table))
  update_refused_8 = Iff.trans update_given (go, λ h. too_long h.0 h.1 h.2 h.3)
    where
      go : UpdateGiven plan id earliest latest (refused 8)
          → HasTask plan id × BoundsGiven earliest latest admitted × (plan.live ≡ true) × OverAfter (edits_by plan id earliest latest) (rows_of plan.table)
      go (bad_bounds h g) = absurd (omega (arith, bounds_number g))
      go (too_long h g live w) = (h, g, live, w)

  pub update_numbers : {n : ℕ} → verdict (updated plan id earliest latest).answer ≡ refused n → ((n ≡ 3) ⊎ (n ≡ 4)) ⊎ ((n ≡ 7) ⊎ (n ≡ 8))
  update_numbers h = go (update_given.0 h)
    where
      go : {n : ℕ} → UpdateGiven plan id earliest latest (refused n) → ((n ≡ 3) ⊎ (n ≡ 4)) ⊎ ((n ≡ 7) ⊎ (n ≡ 8))
      go (not_there n) = inr (inl refl)
      go (bad_bounds h (bound_out out)) = inl (inl refl)
      go (bad_bounds h (crossed p q o)) = inl (inr refl)
      go (too_long h g live w) = inr (inr refl)

  pub update_accepted_when : (((updated plan id earliest latest).answer ≡ Ok Fits) ⊎ ((updated plan id earliest latest).answer ≡ Ok Overloaded))
      ↔ (HasTask plan id × BoundsGiven earliest latest admitted × (plan.live ≡ true → ¬ OverAfter (edits_by plan id earliest latest) (rows_of plan.table)))
  update_accepted_when = Iff.trans (taken_is _) (Iff.trans (update_exactly plan id earliest latest admitted) (go, λ h. update_in h.0 h.1 h.2))
    where
      go : UpdateGiven plan id earliest latest admitted
          → HasTask plan id × BoundsGiven earliest latest admitted × (plan.live ≡ true → ¬ OverAfter (edits_by plan id earliest latest) (rows_of plan.table))
      go (update_in h g room) = (h, g, room)

-- the first fit
module _ (plan : Plan) (id : ℤ) where
  pub fit_refused_7 : (verdict (fit_of plan id) ≡ refused 7) ↔ NoTask plan id
  fit_refused_7 = Iff.trans (fit_exactly plan id (refused 7)) (go, nobody)
    where
      go : FitGiven plan id (refused 7) → NoTask plan id
      go (nobody n) = n

  pub fit_refused_9 : (verdict (fit_of plan id) ≡ refused 9) ↔ (HasTask plan id × (plan.live ≡ false))
  fit_refused_9 = Iff.trans (fit_exactly plan id (refused 9)) (go, λ h. fit_stale h.0 h.1)
    where
      go : FitGiven plan id (refused 9) → HasTask plan id × (plan.live ≡ false)
      go (fit_stale h stale) = (h, stale)

  pub fit_numbers_lem : {n : ℕ} → verdict (fit_of plan id) ≡ refused n → (n ≡ 7) ⊎ (n ≡ 9)
  fit_numbers_lem {n} h = go ((fit_exactly plan id (refused n)).0 h)
    where
      go : {n : ℕ} → FitGiven plan id (refused n) → (n ≡ 7) ⊎ (n ≡ 9)
      go (nobody n) = inl refl
      go (fit_stale h stale) = inr refl

-- the rows
module _ (plan : Plan) where
  pub rows_refused_9 : (verdict (rows_shown plan) ≡ refused 9) ↔ (plan.live ≡ false)
  rows_refused_9 = Iff.trans (rows_exactly plan (refused 9)) (go, rows_stale)
    where
      go : RowsGiven plan (refused 9) → plan.live ≡ false
      go (rows_stale stale) = stale

  pub rows_accepted_when : (verdict (rows_shown plan) ≡ admitted) ↔ (plan.live ≡ true)
  rows_accepted_when = Iff.trans (rows_exactly plan admitted) (go, rows_in)
    where
      go : RowsGiven plan admitted → plan.live ≡ true
      go (rows_in live) = live

  pub rows_numbers_lem : {n : ℕ} → verdict (rows_shown plan) ≡ refused n → n ≡ 9
  rows_numbers_lem {n} h = go ((rows_exactly plan (refused n)).0 h)
    where
      go : {n : ℕ} → RowsGiven plan (refused n) → n ≡ 9
      go (rows_stale stale) = refl

-- one job more than there is room for is not lost unnoticed: the load is refused
pub keep_refused : (plan : Plan) (jobs : Jobs) (job : Job) (capacity : ℤ) → 32 ≤ jobs.count → verdict (loaded plan (keeping jobs job) capacity).answer ≡ refused 1
unfolding keeping
keep_refused plan jobs job capacity full = (load_refused_1 plan (keeping jobs job) capacity).1 (rw (le-ltb _ _ full) (omega arith))
