use mathlib.Core.List.{map}
use lib.ListN.{take}
use Rattle.time_table.specs.Held.{Held}
use Rattle.sweep.specs.Tasks.{no_task}
use Rattle.planner.specs.Loads.{task_of, jobs_of}
use Rattle.planner.proofs.load.tasks_of.Given as goal

abbrev pub invariant-loop-i : goal.invariant-loop-i
invariant-loop-i l = Held 32 no_task l.tasks.list l.i (map task_of (take l.i (jobs_of l.fn.jobs)))
