-- `tasks_of` meets its contract: the first i places have the first i jobs in ticks.
-- Assumes nothing.
use mathlib.Core.Path.{sym}
use native.Mathlib.Omega.{arith}
use lib.Seq.{length-take-le}
use Rattle.time_table.proofs.Held.{held_as, held_push}
use Rattle.time_table.proofs.Mapped.{map_take}
use Rattle.planner.specs.Given.{no_job}
use Rattle.planner.specs.Loads.{task_of, jobs_of}
use Rattle.planner.proofs.InputOrder.{jobs_accepted}
use Rattle.planner.proofs.load.tasks_of.Goals as goal

pub task_of-requires : goal.task_of-requires
task_of-requires c = (jobs_accepted (jobs_of c.args.jobs)).0 c.requires.checked c.loop-i.i c.loop-i-test.true

pub loop-i-preserved : goal.loop-i-preserved
loop-i-preserved c =
    let few = length-take-le c.args.jobs.count c.args.jobs.list (omega (arith, c.requires.few)) in
    held_as (held_push c.loop-i.invariant c.task_of.result (omega (arith, few, c.requires.few)))
    (rw c.task_of.ensures (sym (map_take task_of (jobs_of c.args.jobs) c.loop-i.i no_job c.loop-i-test.true)))
