use mathlib.Core.Path.{◌≡◌}
use lib.ListN.{take, drop}
use Rattle.planner.specs.Checks.{jobs_checked}
use Rattle.planner.proofs.border.check_jobs.Given as goal

abbrev pub invariant-loop-job : goal.invariant-loop-job
invariant-loop-job l =
    jobs_checked (take l.fn.jobs.count l.fn.jobs.list) ≡ jobs_checked (drop l.job-index l.job-items)
