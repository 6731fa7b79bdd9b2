-- The jobs as they were handed in, and the kept ones by id. Each id is told to one job, so a sum over the jobs that have one is a sum over the kept
-- ones; the others draw nothing. A load makes them so, and an update changes both alike.
-- Assumes nothing.
use Rattle.std.specs.Prelude.{Option, Some, None, is_some, Ok}
use mathlib.Core.Path.{◌≡◌, refl, sym, ap, ◌∙◌}
use mathlib.Core.Bool.{Bool, true, false, cond}
use mathlib.Core.List.{List, [], ◌∷◌, map}
use mathlib.Core.Logic.{⊎_elim}
use Prim.Native.Nat.{ℕ, zero, suc, ◌+◌, ◌≤◌, ◌<◌}
use native.Mathlib.Nat.{not-suc-le-zero, le_of_suc-le-suc}
use native.Mathlib.Decide.{ℕ_discrete}
use native.Mathlib.Omega.{arith}
use borrow.Author.Tests.{eq-eqb, ne_eqb}
use lib.Dec.{eqb}
use lib.IntN.{ℤ}
use lib.ListN.{length, get_or, set, length-map, length-set}
use lib.Seq.{get_or-set_same, get_or-set_other}
use Rattle.time_table.specs.Removal.{position}
use Rattle.time_table.proofs.Totals.{position_is}
use Rattle.sweep.specs.declared.Task.{Task}
use Rattle.sweep.specs.Tasks.{no_task, task_at}
use Rattle.sweep.specs.Created.{keeps, in_order, created, dropped, placed_at, placed_below}
use Rattle.sweep.proofs.CoveringTasks.{past_none}
use Rattle.sweep.proofs.JobOrder.{in_order_low}
use Rattle.sweep.proofs.Placed.{position_at, get_map, kept_placed, placed_get, order_occur, order_once, created_length, created_at, created_kept, job_numbered, numbers_differ}
use Rattle.planner.specs.declared.Job.{Job}
use Rattle.planner.specs.Checks.{bounds_checked, jobs_checked}
use Rattle.planner.specs.Given.{no_job}
use Rattle.planner.specs.Loads.{task_of}
use Rattle.planner.specs.Places.{Idle}
use Rattle.planner.specs.History.{Heard, nothing, job_at, Told, rebounded, is_told, rebounding}
use Rattle.planner.specs.Demand.{drawn_at, Identified, SomeJob}
use Rattle.planner.proofs.Tests.{by_test}
use Rattle.planner.proofs.Accepted.{Numbers, bounds_accepted, job_accepted}
use Rattle.planner.proofs.InputOrder.{jobs_accepted}
use Rattle.planner.proofs.SignedDraws.{AllNumbers, numbers_at, numbers_each}
use Rattle.planner.proofs.IndexSums.{sum_below, sum_same, sum_first, sum_total, sum_picked}
use Rattle.planner.proofs.IdleJobs.{drops_idle, draw, idle_draws}

-- what was told of the job at the place p
abbrev told_at : Heard → ℕ → Option ℕ
told_at h p = get_or h.told p dropped

-- what a number gives, where there is one
abbrev of_told : Option ℕ → (ℕ → ℕ) → ℕ
of_told None f = 0
of_told (Some i) f = f i

-- sums over the jobs that were told an id, and over the kept ones
abbrev told_sum : Heard → (ℕ → Job → ℕ) → ℕ
told_sum h f = sum_below (λ (p : ℕ). of_told (told_at h p) (λ (i : ℕ). f i (job_at h p))) (length h.jobs)

abbrev kept_sum : List Job → (ℕ → Job → ℕ) → ℕ
kept_sum js f = sum_below (λ (i : ℕ). f i (get_or js i no_job)) (length js)

pub record ById (h : Heard) (kept : List Job) : Type 0 where
  pub numbers : AllNumbers h.jobs
  pub at : (p i : ℕ) → Told h p i → (i < length kept) × (get_or kept i no_job ≡ job_at h p)
  pub from : (i : ℕ) → i < length kept → SomeJob h i
  pub identified : Identified h
  spare : (p : ℕ) → p < length h.jobs → told_at h p ≡ None → (t : ℤ) → draw t (job_at h p) ≡ 0
  sums : (f : ℕ → Job → ℕ) → told_sum h f ≡ kept_sum kept f

-- what must be drawn is the same of both
drawn_sum : (js : List Job) (t : ℤ) → drawn_at js t ≡ sum_below (λ (p : ℕ). draw t (get_or js p no_job)) (length js)
unfolding drawn_at sum_below
drawn_sum [] t = refl
drawn_sum (j ∷ js) t = ap (λ (m : ℕ). draw t j + m) (drawn_sum js t) ∙ sym (sum_first (λ (p : ℕ). draw t (get_or (j ∷ js) p no_job)) (length js))

or_none : (x : ℕ) (o : Option ℕ) → (o ≡ None → x ≡ 0) → x ≡ of_told o (λ (i : ℕ). x)
or_none x (Some i) none = refl
or_none x None none = none refl

pub drawn_kept : (h : Heard) (kept : List Job) → ById h kept → (t : ℤ) → drawn_at h.jobs t ≡ drawn_at kept t
drawn_kept h kept b t =
    drawn_sum h.jobs t
    ∙ sum_same _ _ (length h.jobs) (λ p lt. or_none (draw t (job_at h p)) (told_at h p) (λ e. b.spare p lt e t))
    ∙ b.sums (λ (i : ℕ) (j : Job). draw t j)
    ∙ sym (drawn_sum kept t)

pub nothing_by_id : ById nothing []
unfolding AllNumbers sum_below
nothing_by_id =
    record {
      numbers = tt;
      at = λ p i told. absurd (not-suc-le-zero told.inside);
      from = λ i lt. absurd (not-suc-le-zero lt);
      identified = record { every = λ p lt busy. absurd (not-suc-le-zero lt); once = λ p q i told other. absurd (not-suc-le-zero told.inside) };
      spare = λ p lt e t. absurd (not-suc-le-zero lt);
      sums = λ f. refl;
    }

-- a job is told that it is kept exactly if it is
pub placed_kept : (ts : List Task) (p : ℕ) → is_some (placed_at ts p) ≡ keeps (task_at ts p)
unfolding placed_at
placed_kept ts p = go (keeps (task_at ts p))
  where
    go : (b : Bool) → is_some (cond b (Some (position p (in_order ts))) dropped) ≡ b
    go true = refl
    go false = refl

-- a load: the jobs that were handed in, and the order of the kept ones
abbrev pub kept_jobs : List Job → List Job
kept_jobs js = map (λ (i : ℕ). get_or js i no_job) (in_order (map task_of js))

module _ (capacity : ℤ) (js : List Job) (few : length js ≤ 32) (ok : jobs_checked js ≡ Ok tt) where
  abbrev ts : List Task
  ts = map task_of js

  abbrev h : Heard
  h = record { capacity = capacity; jobs = js; told = placed_below ts 32 }

  abbrev order : List ℕ
  order = in_order ts

  job : ℕ → Job
  job p = get_or js p no_job

  job_numbers : (p : ℕ) → p < length js → Numbers (get_or js p no_job)
  job_numbers p lt = job_accepted ((jobs_accepted js).0 ok p lt)

  task_is : (p : ℕ) → p < length js → task_at ts p ≡ task_of (get_or js p no_job)
  task_is p lt = get_map task_of no_job no_task js p lt

  told_is : (p : ℕ) → p < length js → told_at h p ≡ placed_at ts p
  told_is p lt = placed_get ts dropped 32 p (omega arith)

  -- a job that was told an id is kept, and the id is its place in the order
  told_kept : (p i : ℕ) → Told h p i → keeps (task_at ts p) ≡ true
  told_kept p i told = sym (placed_kept ts p) ∙ ap is_some (sym (told_is p told.inside) ∙ told.id)

  told_id : (p i : ℕ) → Told h p i → position p order ≡ i
  told_id p i told =
      let same : Some (position p order) ≡ Some i = sym (job_numbered ts p (told_kept p i told)).answer ∙ sym (told_is p told.inside) ∙ told.id in
      cc

  kept_told : (p : ℕ) → p < length js → keeps (task_at ts p) ≡ true → Told h p (position p order)
  kept_told p lt k = record { inside = lt; id = told_is p lt ∙ (job_numbered ts p k).answer }

  kept_at : (i : ℕ) → i < length order → get_or (kept_jobs js) i no_job ≡ get_or js (get_or order i 0) no_job
  kept_at i lt = get_map (λ (p : ℕ). get_or js p no_job) 0 no_job order i lt

  by_place : (p i : ℕ) → Told h p i → (i < length (kept_jobs js)) × (get_or (kept_jobs js) i no_job ≡ job_at h p)
  by_place p i told =
      let below = kept_placed ts p (told_kept p i told) in
      let is = told_id p i told in
      let inside : i < length order = omega arith in
      (rw length-map inside, kept_at i inside ∙ ap (λ (q : ℕ). get_or js q no_job) (ap (λ (k : ℕ). get_or order k 0) (sym is) ∙ position_is p order below))

  order_kept : (i : ℕ) → i < length order → keeps (task_at ts (get_or order i 0)) ≡ true
  order_kept i lt =
      let inside : i < length (created ts) = omega (arith, created_length ts) in
      sym (ap keeps (created_at ts i inside)) ∙ created_kept ts i inside

  by_order : (i : ℕ) → i < length (kept_jobs js) → SomeJob h i
  by_order i lt =
      let inside : i < length order = rw length-map at lt in
      let low : get_or order i 0 < length js = omega (arith, in_order_low ts i inside, length-map js task_of) in
      record { place = get_or order i 0; told = rw (position_at order (order_once ts) i inside) at (kept_told (get_or order i 0) low (order_kept i inside)) }

  each_identified : Identified h
  each_identified =
      record {
        every = λ p lt busy.
            ⊎_elim
            (λ k. record { id = position p order; told = kept_told p lt k })
            (λ gone. absurd (busy (drops_idle (get_or js p no_job) (ap keeps (sym (task_is p lt)) ∙ gone))))
            (by_test (keeps (task_at ts p)));
        once = λ p q i told other.
            numbers_differ ts p q (told_kept p i told) (told_kept q i other) (told_id p i told ∙ sym (told_id q i other));
      }

  dropped_draws : (p : ℕ) → p < length js → told_at h p ≡ None → (t : ℤ) → draw t (job_at h p) ≡ 0
  dropped_draws p lt e t =
      idle_draws (get_or js p no_job) (job_numbers p lt)
      (drops_idle (get_or js p no_job) (ap keeps (sym (task_is p lt)) ∙ sym (placed_kept ts p) ∙ ap is_some (sym (told_is p lt) ∙ e))) t

  module _ (f : ℕ → Job → ℕ) where
    -- a kept job's share, by its place in the input
    share : ℕ → ℕ
    share p = f (position p order) (get_or js p no_job)

    share_told : (p : ℕ) → p < length js
        → of_told (told_at h p) (λ (i : ℕ). f i (job_at h p)) ≡ cond (keeps (task_at ts p)) (f (position p order) (get_or js p no_job)) 0
    unfolding placed_at
    share_told p lt = ap (λ (x : Option ℕ). of_told x (λ (i : ℕ). f i (job_at h p))) (told_is p lt) ∙ go (keeps (task_at ts p))
      where
        go : (b : Bool)
            → of_told (cond b (Some (position p order)) dropped) (λ (i : ℕ). f i (job_at h p))
            ≡ cond b (f (position p order) (get_or js p no_job)) 0
        go true = refl
        go false = refl

    share_kept : (i : ℕ) → i < length order → f (position (get_or order i 0) order) (get_or js (get_or order i 0) no_job) ≡ f i (get_or (kept_jobs js) i no_job)
    share_kept i lt = (λ a. f (position_at order (order_once ts) i lt a) (sym (kept_at i lt) a))

    past_dropped : (p : ℕ) → length js ≤ p → keeps (task_at ts p) ≡ false
    unfolding keeps
    past_dropped p le = ap keeps (past_none ts p (omega (arith, length-map js task_of)))

    load_sums : told_sum h f ≡ kept_sum (kept_jobs js) f
    load_sums =
        sum_same _ _ (length js) share_told
        ∙ sym (sum_picked (λ (p : ℕ). keeps (task_at ts p)) (λ (p : ℕ). f (position p order) (get_or js p no_job)) order (length js) (order_occur ts) past_dropped)
        ∙ sum_total (λ (p : ℕ). f (position p order) (get_or js p no_job)) order
        ∙ sum_same _ _ (length order) share_kept
        ∙ ap (sum_below (λ (i : ℕ). f i (get_or (kept_jobs js) i no_job))) (sym (length-map order (λ (p : ℕ). get_or js p no_job)))

  pub loaded_by_id : ById h (kept_jobs js)
  loaded_by_id =
      record {
        numbers = numbers_each js job_numbers;
        at = by_place;
        from = by_order;
        identified = each_identified;
        spare = dropped_draws;
        sums = load_sums;
      }

-- an update
module _ (id : ℕ) (earliest latest : ℤ) where
  -- what becomes of the job with the id i
  abbrev moved : ℕ → Job → Job
  moved i j = cond (eqb i id) (rebounded j earliest latest) j

  rebounding_length : (ps : List (Option ℕ)) (js : List Job) → length (rebounding id earliest latest ps js) ≡ length js
  unfolding rebounding
  rebounding_length [] js = refl
  rebounding_length (p ∷ ps) [] = refl
  rebounding_length (p ∷ ps) (j ∷ js) = ap suc (rebounding_length ps js)

  rebounding_at : (ps : List (Option ℕ)) (js : List Job) (p : ℕ) → p < length js
      → get_or (rebounding id earliest latest ps js) p no_job
      ≡ cond (is_told (get_or ps p dropped) id) (rebounded (get_or js p no_job) earliest latest) (get_or js p no_job)
  unfolding rebounding
  rebounding_at [] js p lt = refl
  rebounding_at (q ∷ ps) [] p lt = absurd (not-suc-le-zero lt)
  rebounding_at (q ∷ ps) (j ∷ js) zero lt = refl
  rebounding_at (q ∷ ps) (j ∷ js) (suc p) lt = rebounding_at ps js p (le_of_suc-le-suc lt)

  module _ (h : Heard) (kept : List Job) (b : ById h kept) (inside : id < length kept) (ok : bounds_checked earliest latest ≡ Ok tt) where
    abbrev after : Heard
    after = record { capacity = h.capacity; jobs = rebounding id earliest latest h.told h.jobs; told = h.told }

    abbrev kept_after_lem : List Job
    kept_after_lem = set kept id (rebounded (get_or kept id no_job) earliest latest)

    before : {p : ℕ} → p < length after.jobs → p < length h.jobs
    before lt = rw rebounding_length at lt

    told_before : {p i : ℕ} → Told after p i → Told h p i
    told_before told = record { inside = before told.inside; id = told.id }

    told_after : {p i : ℕ} → Told h p i → Told after p i
    told_after told = record { inside = rw rebounding_length told.inside; id = told.id }

    job_after : (p : ℕ) → p < length h.jobs → job_at after p ≡ cond (is_told (told_at h p) id) (rebounded (job_at h p) earliest latest) (job_at h p)
    job_after p lt = rebounding_at h.told h.jobs p lt

    told_job : (p i : ℕ) → Told h p i → job_at after p ≡ moved i (job_at h p)
    told_job p i told =
        job_after p told.inside ∙ ap (λ (x : Option ℕ). cond (is_told x id) (rebounded (job_at h p) earliest latest) (job_at h p)) told.id

    kept_job : (i : ℕ) → i < length kept → get_or kept_after_lem i no_job ≡ moved i (get_or kept i no_job)
    kept_job i lt =
        elim (ℕ_discrete i id) [
          | yes e ↦ rw (e, eq-eqb id id refl) (get_or-set_same kept id _ no_job inside)
          | no ne ↦ rw (ne_eqb i id ne) (get_or-set_other kept id i _ no_job ne)
        ]

    by_place_after : (p i : ℕ) → Told after p i → (i < length kept_after_lem) × (get_or kept_after_lem i no_job ≡ job_at after p)
    by_place_after p i told =
        let w = b.at p i (told_before told) in
        (rw length-set w.0, kept_job i w.0 ∙ ap (moved i) w.1 ∙ sym (told_job p i (told_before told)))

    -- its usage and its duration stay
    still_idle : (p : ℕ) → p < length h.jobs → Idle (job_at h p) → Idle (job_at after p)
    still_idle p lt = go (is_told (told_at h p) id) (job_after p lt)
      where
        go : (x : Bool) → job_at after p ≡ cond x (rebounded (job_at h p) earliest latest) (job_at h p) → Idle (job_at h p) → Idle (job_at after p)
        go true e idle = rw e idle
        go false e idle = rw e idle

    dropped_after : (p : ℕ) → p < length h.jobs → told_at h p ≡ None → job_at after p ≡ job_at h p
    dropped_after p lt e = job_after p lt ∙ ap (λ (x : Option ℕ). cond (is_told x id) (rebounded (job_at h p) earliest latest) (job_at h p)) e

    sums_after : (f : ℕ → Job → ℕ) → told_sum after f ≡ kept_sum kept_after_lem f
    sums_after f =
        ap (sum_below _) (rebounding_length h.told h.jobs)
        ∙ sum_same _ _ (length h.jobs) (λ p lt. go p (told_at h p) (job_after p lt))
        ∙ b.sums (λ (i : ℕ) (j : Job). f i (moved i j))
        ∙ sum_same _ _ (length kept) (λ i lt. ap (f i) (sym (kept_job i lt)))
        ∙ ap (sum_below (λ (i : ℕ). f i (get_or kept_after_lem i no_job))) (sym (length-set kept id _))
      where
        go : (p : ℕ) (o : Option ℕ) → job_at after p ≡ cond (is_told o id) (rebounded (job_at h p) earliest latest) (job_at h p)
            → of_told o (λ (i : ℕ). f i (job_at after p)) ≡ of_told o (λ (i : ℕ). f i (moved i (job_at h p)))
        go p (Some i) e = ap (f i) e
        go p None e = refl

    numbers_after : AllNumbers after.jobs
    numbers_after = numbers_each after.jobs (λ p lt. go p (before lt) (is_told (told_at h p) id) (job_after p (before lt)))
      where
        go : (p : ℕ) → p < length h.jobs → (x : Bool) → job_at after p ≡ cond x (rebounded (job_at h p) earliest latest) (job_at h p) → Numbers (job_at after p)
        go p lt true e = let n = numbers_at h.jobs b.numbers p lt in rw e (record { starts = bounds_accepted ok; duration = n.duration; usage = n.usage })
        go p lt false e = rw e (numbers_at h.jobs b.numbers p lt)

    pub updated_by_id : ById after kept_after_lem
    updated_by_id =
        record {
          numbers = numbers_after;
          at = by_place_after;
          from = λ i lt. let w = b.from i (rw length-set at lt) in record { place = w.place; told = told_after w.told };
          identified =
              record {
                every = λ p lt busy. let w = b.identified.every p (before lt) (λ idle. busy (still_idle p (before lt) idle)) in record { id = w.id; told = told_after w.told };
                once = λ p q i told other. b.identified.once p q i (told_before told) (told_before other);
              };
          spare = λ p lt e t. rw (dropped_after p (before lt) e) (b.spare p (before lt) e t);
          sums = sums_after;
        }
