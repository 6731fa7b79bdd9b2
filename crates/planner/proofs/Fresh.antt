-- A fresh plan is sound: it has no task, so nothing runs, and its table has no row.
-- Assumes nothing.
use mathlib.Core.Path.{refl}
use mathlib.Core.Bool.{true≢false}
use mathlib.Core.List.{[]}
use native.Mathlib.Nat.{not-suc-le-zero}
use native.Mathlib.Omega.{arith}
use Rattle.time_table.specs.Rows.{table_of}
use Rattle.time_table.specs.Order.{Each, Ordered}
use Rattle.time_table.specs.Meaning.{summed}
use Rattle.time_table.proofs.Sums.{has_none}
use Rattle.sweep.specs.Tasks.{tasks_with}
use Rattle.planner.specs.Sound.{SoundTasks, Live, Sound}
use Rattle.planner.specs.Answers.{fresh_plan}

none_sound : SoundTasks (tasks_with [])
none_sound = record { held = record { is = refl; counts = refl; fits = omega arith }; limited = λ i lt. absurd (not-suc-le-zero lt) }

none_live : Live (tasks_with []) (table_of [])
unfolding Each Ordered summed
none_live =
    record {
      clean = record { is = refl; counts = refl; fits = omega arith };
      right = record { ordered = tt; sound = tt; exact = λ t i. rw (has_none 0 0 t (omega arith)) };
    }

pub fresh_sound : Sound fresh_plan
fresh_sound = record { tasks = none_sound; capacity = omega arith; live = λ e. none_live; stale = λ e. absurd (true≢false e) }
