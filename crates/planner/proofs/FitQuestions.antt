-- Questions for the first fit: the cases of the answer, and that a sound plan's task may be asked for.
-- Assumes nothing.
use Rattle.std.specs.Prelude.{Some, Ok, Err}
use mathlib.Core.Path.{◌≡◌, sym, ap}
use mathlib.Core.Bool.{Bool, true, false}
use Prim.Native.Nat.{ℕ, ◌<◌}
use native.Mathlib.Omega.{arith}
use lib.IntN.{ℤ}
use lib.ListN.{get_or}
use lib.Seq.{get_or-take}
use Rattle.time_table.specs.Rows.{rows_of}
use Rattle.time_table.specs.Order.{ticks}
use Rattle.fit.specs.FirstFit.{first_fit, Askable}
use Rattle.fit.proofs.FirstFit.{first_fit_is}
use Rattle.sweep.specs.declared.Task.{Task}
use Rattle.sweep.specs.Tasks.{no_task, tasks_of, task_at}
use Rattle.planner.specs.declared.Plan.{Plan}
use Rattle.planner.specs.declared.Refusal.TheVariants.{UnknownTask, Stale}
use Rattle.planner.specs.Ranges.{last_end}
use Rattle.planner.specs.Instants.{amount}
use Rattle.planner.specs.Checks.{unless, ◌then◌}
use Rattle.planner.specs.Sound.{Sound}
use Rattle.planner.specs.Updates.{known}
use Rattle.planner.specs.Questions.{asked_by, start_of, fit_checked, fit_by, fit_of}
use Rattle.planner.proofs.Known.{known_true}

module _ (plan : Plan) (id : ℤ) where
  pub fit_unknown : known plan.tasks.count id ≡ false → fit_of plan id ≡ Err UnknownTask
  unfolding fit_of fit_checked
  fit_unknown e = ap (λ (b : Bool). fit_by (unless UnknownTask b then unless Stale plan.live) plan id) e

  module _ (k : known plan.tasks.count id ≡ true) where
    pub fit_stale : plan.live ≡ false → fit_of plan id ≡ Err Stale
    unfolding fit_of fit_checked
    fit_stale e = λ i. fit_by (unless UnknownTask (k i) then unless Stale (e i)) plan id

    abbrev task : Task
    task = task_at (tasks_of plan.tasks) (amount id)

    pub fit_asked : plan.live ≡ true → fit_of plan id ≡ Ok (start_of (first_fit (asked_by task) plan.capacity (rows_of plan.table)))
    unfolding fit_of fit_checked
    fit_asked e = λ i. fit_by (unless UnknownTask (k i) then unless Stale (e i)) plan id

    -- the code's read of the task
    pub asked_read : get_or plan.tasks.list (amount id) no_task ≡ task
    asked_read = sym (get_or-take plan.tasks.count plan.tasks.list (amount id) no_task (known_true plan.tasks.count id k).1)

    module _ (s : Sound plan) (live : plan.live ≡ true) where
      pub askable : Askable plan.table (asked_by task)
      askable =
          let v = s.live live in
          let l = s.tasks.limited (amount id) (known_true plan.tasks.count id k).1 in
          record { arranged = record { clean = v.clean; ordered = v.right.ordered }; top = omega (arith, l) }

      pub start_low : (t : ℕ) → first_fit (asked_by task) plan.capacity (rows_of plan.table) ≡ Some t → t < last_end
      start_low t e =
          let l = s.tasks.limited (amount id) (known_true plan.tasks.count id k).1 in
          let is = first_fit_is (asked_by task) plan.capacity ticks 0 (rows_of plan.table) (s.live live).right.ordered l.long in
          omega (arith, (is.some t e).fit.late, l.bound)
