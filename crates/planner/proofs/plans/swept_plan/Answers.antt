-- `swept_plan` meets its contract: tasks within the limits can be swept, and what the sweep gives is the definition's and sound.
-- Assumes nothing.
use mathlib.Core.Path.{sym}
use Rattle.planner.proofs.Limits.{sound_sweepable}
use Rattle.planner.proofs.AnswerAndPlan.{swept_low, swept_over, swept_fits, swept_live, stale_sound}
use Rattle.planner.proofs.plans.swept_plan.Goals as goal

pub create_time_table_over_interval_from_scratch-requires : goal.create_time_table_over_interval_from_scratch-requires
create_time_table_over_interval_from_scratch-requires c = sound_sweepable c.args.tasks c.requires.0

pub record_of-requires : goal.record_of-requires
record_of-requires c = swept_low c.args.capacity c.args.tasks c.requires.0 c.requires.1 c.in-Err.row (sym c.in-Err.ensures)

pub returns-in-Ok : goal.returns-in-Ok
returns-in-Ok c =
    record {
      value = swept_fits c.args.capacity c.args.tasks c.requires.0 c.requires.1 c.in-Ok.table (sym c.in-Ok.ensures) c.no_record.result c.no_record.ensures;
      sound = swept_live c.args.capacity c.args.tasks c.requires.0 c.requires.1 c.in-Ok.table (sym c.in-Ok.ensures);
    }

pub returns-in-Err : goal.returns-in-Err
returns-in-Err c =
    rw c.empty.ensures (record {
      value = swept_over c.args.capacity c.args.tasks c.requires.0 c.requires.1 c.in-Err.row (sym c.in-Err.ensures) c.record_of.result c.record_of.ensures;
      sound = stale_sound c.args.capacity c.args.tasks c.requires.0 c.requires.1;
    })
