-- The invariant of `pass_planner_run`: what the run writes is what is written so far, and then the answers to the rest of the script.
use mathlib.Core.Path.{◌≡◌}
use lib.ListN.{length}
use Rattle.planner.specs.Sound.{Sound}
use Rattle.script.specs.Pages.{puts}
use Rattle.script.specs.Written.{page}
use Rattle.script.specs.Runs.{answers_of, run}
use Rattle.script.proofs.pass_planner_run.Given as goal

abbrev pub invariant-loop-rest : goal.invariant-loop-rest
invariant-loop-rest l =
    record {
      slice : l.out.out.ghost_name ≡ l.initial.out.out.ghost_name;
      sound : Sound l.state.plan;
      answered : puts (page l.initial.out) (run l.script) ≡ puts (page l.out) (answers_of l.state.plan l.jobs 0 l.rest);
    }

abbrev pub decreases-loop-rest : goal.decreases-loop-rest
decreases-loop-rest l = length l.rest
