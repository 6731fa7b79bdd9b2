-- `task_of` meets its contract: an accepted job's numbers are in range, so each becomes its tick or amount.
-- Assumes nothing.
use mathlib.Core.Path.{◌≡◌, ap, ◌∙◌}
use native.Mathlib.Omega.{arith}
use lib.IntN.{ℤ}
use mir.Syntax.{w32}
use mir.Val.{SFits, to_z, of_z}
use mir.Facts.{to_z-of_z}
use Rattle.planner.specs.Instants.{tick, amount}
use Rattle.planner.proofs.Accepted.{job_accepted}
use Rattle.planner.proofs.load.task_of.Goals as goal

-- a number, read back from its bits
back : (z : ℤ) → SFits w32 z → to_z w32 (of_z w32 z) ≡ z
back z fits = to_z-of_z fits

pub tick_of-requires : goal.tick_of-requires
tick_of-requires c = rw (back c.args.job.earliest (record { sfits = omega arith })) (job_accepted c.requires).starts.earliest_in

pub tick_of-requires-2 : goal.tick_of-requires-2
tick_of-requires-2 c = rw (back c.args.job.latest (record { sfits = omega arith })) (job_accepted c.requires).starts.latest_in

pub returns : goal.returns
returns c =
    let j = c.args.job in
    λ i. record {
      earliest = (c.tick_of.ensures ∙ ap tick (back j.earliest (record { sfits = omega arith }))) i;
      latest = (c.tick_of-2.ensures ∙ ap tick (back j.latest (record { sfits = omega arith }))) i;
      duration = (c.amount_of.ensures ∙ ap amount (back j.duration (record { sfits = omega arith }))) i;
      usage = (c.amount_of-2.ensures ∙ ap amount (back j.usage (record { sfits = omega arith }))) i;
    }
