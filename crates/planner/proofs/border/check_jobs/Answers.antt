-- `check_jobs` meets its contract: the jobs passed were accepted, so the answer is that of the jobs from the next one on.
-- Assumes nothing.
use mathlib.Core.Path.{sym, ◌∙◌}
use Rattle.std.proofs.lemmas.Result.{err_from_is_err_and}
use Rattle.planner.specs.Loads.{jobs_of}
use Rattle.planner.proofs.InputOrder.{jobs_from, jobs_end}
use Rattle.planner.proofs.border.check_jobs.Goals as goal

pub returns-in_err-check_job : goal.returns-in_err-check_job
returns-in_err-check_job c =
    let e = err_from_is_err_and c.from_residual.result c.from_residual.ensures.1 in
    rw (c.loop-job.invariant, jobs_from (jobs_of c.args.jobs) c.loop-job.job-index c.loop-job-test.true, ← c.check_job.ensures, c.in_err-check_job.was)
    (cc (e.1, e.2))

pub loop-job-preserved : goal.loop-job-preserved
loop-job-preserved c =
    rw (c.loop-job.invariant, jobs_from (jobs_of c.args.jobs) c.loop-job.job-index c.loop-job-test.true, ← c.check_job.ensures, c.in_ok-check_job.was)

pub returns : goal.returns
returns c = sym (c.loop-job.invariant ∙ jobs_end (jobs_of c.args.jobs) c.loop-job.job-index c.loop-job-test.false)
