-- First fit over every history: the table's height at each instant is what the heard jobs must draw there, and a plan's task is its job in ticks.
-- Assumes nothing.
use Rattle.std.specs.Prelude.{Some, None, Ok, IsOk}
use mathlib.Core.Path.{◌≡◌, refl, sym, ap, ◌∙◌}
use mathlib.Core.Bool.{true, ◌&&◌}
use mathlib.Core.Logic.{◌↔◌, ⊎_elim}
use mathlib.Core.List.{List, [], ◌∷◌, map}
use Prim.Native.Nat.{ℕ, ◌<◌}
use native.Mathlib.Omega.{arith}
use borrow.Author.Tests.{le-leb, lt-ltb}
use lib.IntN.{ℤ, pos, ◌+ℤ◌}
use lib.ListN.{length}
use lib.Signed.{le_z, lt_z}
use Rattle.time_table.specs.declared.Row.{Row}
use Rattle.time_table.specs.Rows.{rows_of}
use Rattle.sweep.specs.Tasks.{no_task, tasks_of, task_at, lasts}
use Rattle.time_table.proofs.Bits.{both}
use Rattle.sweep.proofs.Placed.{get_map}
use Rattle.planner.specs.declared.Job.{Job}
use Rattle.planner.specs.declared.Plan.{Plan}
use Rattle.planner.specs.Ranges.{bounds}
use Rattle.planner.specs.Instants.{amount}
use Rattle.planner.specs.Running.{run_length, between}
use Rattle.planner.specs.Given.{no_job}
use Rattle.planner.specs.Records.{record_of}
use Rattle.planner.specs.Loads.{task_of}
use Rattle.planner.specs.Questions.{fit_of, rows_shown}
use Rattle.planner.specs.Refused.{HasTask}
use Rattle.planner.specs.Answers.{fresh_plan}
use Rattle.planner.specs.History.{Call, Heard, nothing, job_at, Told, plan_after, heard_after}
use Rattle.planner.specs.Demand.{drawn_at}
use Rattle.planner.specs.SignedFit.{height_then, FitsAt, FirstAt}
use Rattle.planner.specs.HeardFit.{HeardFits, HeardFirst}
use Rattle.planner.proofs.RunInTicks.{below, placed}
use Rattle.planner.proofs.Accepted.{Numbers}
use Rattle.planner.proofs.SignedDraws.{numbers_at, draw_below}
use Rattle.planner.proofs.ById.{drawn_kept}
use Rattle.planner.proofs.SignedRows.{counts, height_signed}
use Rattle.planner.proofs.HeardPlan.{Agrees, rows_live}
use Rattle.planner.proofs.Histories.{history_agrees}
use Rattle.planner.proofs.FitInstants.{height_then_lem, start_exactly, nowhere_exactly}

-- below the first tick there is no row
height_below : (t : ℤ) → lt_z t bounds.lo ≡ true → (rows : List Row) → height_then (map record_of rows) t ≡ 0
unfolding height_then
height_below t low [] = refl
height_below t low (r ∷ rs) = rw (below t r.start low, height_below t low rs)

module _ (h : Heard) (plan : Plan) (a : Agrees h plan) (live : plan.live ≡ true) where
  -- the table is as high at every instant as the jobs must draw
  height_heard : (t : ℤ) → height_then (map record_of (rows_of plan.table)) t ≡ drawn_at h.jobs t
  height_heard t =
      ⊎_elim
      (λ w. rw w.is (height_then_lem (rows_of plan.table) w.at
      ∙ height_signed h a.kept a.by_id plan.tasks a.sound.tasks a.tasks a.numbers (rows_of plan.table) (a.sound.live live).right w.at))
      (λ low. height_below t low (rows_of plan.table) ∙ sym (drawn_kept h a.kept a.by_id t ∙ draw_below t low a.kept a.numbers))
      (placed t)

  -- a start that fits by the table and one that fits by what is heard, of a job in range
  module _ (j : Job) (n : Numbers j) (z : ℤ) where
    run_heard : (t : ℤ) → lt_z t (z +ℤ run_length j) ≡ lt_z t (z +ℤ pos (lasts (task_of j)))
    run_heard t = ap (λ (d : ℤ). lt_z t (z +ℤ d)) n.duration.is

    to_heard : FitsAt plan (task_of j) z → HeardFits h j z
    unfolding between
    to_heard w =
        record {
          start = record { early = rw n.starts.earliest at w.early; late = rw n.starts.latest at w.late };
          fits = λ t runs.
              let r = both (le_z z t) (lt_z t (z +ℤ run_length j)) runs in
              omega (arith, w.fits t r.0 (sym (run_heard t) ∙ r.1), height_heard t, a.capacity);
        }

    from_heard : HeardFits h j z → FitsAt plan (task_of j) z
    unfolding between
    from_heard w =
        record {
          early = rw n.starts.earliest w.start.early;
          late = rw n.starts.latest w.start.late;
          fits = λ t from to. omega (arith, w.fits t (λ i. from i && (run_heard t ∙ to) i), height_heard t, a.capacity);
        }

  module _ (p i : ℕ) (told : Told h p i) where
    abbrev job : Job
    job = job_at h p

    inside : i < length a.kept
    inside = (a.by_id.at p i told).0

    task_there : HasTask plan (pos i)
    task_there =
        let n = counts h a.kept a.by_id plan.tasks a.sound.tasks a.tasks a.numbers (rows_of plan.table) (a.sound.live live).right in
        record { low = le-leb 0 i (omega arith); high = lt-ltb i plan.tasks.count (omega (arith, inside)) }

    job_numbers : Numbers job
    job_numbers = numbers_at h.jobs a.by_id.numbers p told.inside

    -- the plan's task is the job in ticks
    task_heard : task_at (tasks_of plan.tasks) (amount (pos i)) ≡ task_of job
    unfolding amount
    task_heard = rw a.tasks (get_map task_of no_job no_task a.kept i inside) ∙ ap task_of (a.by_id.at p i told).1

    to_first : (z : ℤ) → FirstAt plan (task_of job) z → HeardFirst h job z
    to_first z w = record { fit = to_heard job job_numbers z w.fit; least = λ y v. w.least y (from_heard job job_numbers y v) }

    from_first : (z : ℤ) → HeardFirst h job z → FirstAt plan (task_of job) z
    from_first z w = record { fit = from_heard job job_numbers z w.fit; least = λ y v. w.least y (to_heard job job_numbers y v) }

    agreeing_start : (z : ℤ) → (fit_of plan (pos i) ≡ Ok (Some z)) ↔ HeardFirst h job z
    agreeing_start z =
        let exactly = rw task_heard at (start_exactly plan (pos i) a.sound live task_there z) in
        (λ e. to_first z (exactly.0 e), λ w. exactly.1 (from_first z w))

    agreeing_nowhere : (fit_of plan (pos i) ≡ Ok None) ↔ ((z : ℤ) → ¬ HeardFits h job z)
    agreeing_nowhere =
        let exactly = rw task_heard at (nowhere_exactly plan (pos i) a.sound live task_there) in
        (λ e z w. exactly.0 e z (from_heard job job_numbers z w), λ none. exactly.1 (λ z w. none z (to_heard job job_numbers z w)))

-- after every history, where the rows are not refused, of the job at the place p of the input, which was told the id i
module _ (calls : List Call) (taken : IsOk (rows_shown (plan_after fresh_plan calls))) (p i : ℕ) (told : Told (heard_after fresh_plan nothing calls) p i) where
  live : (plan_after fresh_plan calls).live ≡ true
  live = rows_live (plan_after fresh_plan calls) taken

  pub heard_start : (z : ℤ) → (fit_of (plan_after fresh_plan calls) (pos i) ≡ Ok (Some z)) ↔ HeardFirst (heard_after fresh_plan nothing calls) (job_at (heard_after fresh_plan nothing calls) p) z
  heard_start z = agreeing_start (heard_after fresh_plan nothing calls) (plan_after fresh_plan calls) (history_agrees calls) live p i told z

  pub heard_nowhere : (fit_of (plan_after fresh_plan calls) (pos i) ≡ Ok None) ↔ ((z : ℤ) → ¬ HeardFits (heard_after fresh_plan nothing calls) (job_at (heard_after fresh_plan nothing calls) p) z)
  heard_nowhere = agreeing_nowhere (heard_after fresh_plan nothing calls) (plan_after fresh_plan calls) (history_agrees calls) live p i told
