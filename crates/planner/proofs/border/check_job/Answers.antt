-- `check_job` meets its contract: its checks are the definition's, in the same order.
-- Assumes nothing.
use mathlib.Core.Path.{◌∙◌}
use native.Mathlib.Omega.{arith}
use Rattle.std.proofs.lemmas.Result.{err_from_is_err_and}
use Rattle.planner.specs.Checks.{job_checked}
use Rattle.planner.proofs.Signed.{range_read, bounds_read}
use Rattle.planner.proofs.border.check_job.Goals as goal

pub returns-in_err-check_bounds : goal.returns-in_err-check_bounds
unfolding job_checked
returns-in_err-check_bounds c =
    let e = err_from_is_err_and c.from_residual.result c.from_residual.ensures.1 in
    rw
    (bounds_read c.args.job.earliest c.args.job.latest (record { sfits = omega arith }) (record { sfits = omega arith }) c.check_bounds.ensures ∙ c.in_err-check_bounds.was)
    (cc (e.1, e.2))

pub returns-then-not-in_range : goal.returns-then-not-in_range
unfolding job_checked
returns-then-not-in_range c =
    rw (
      bounds_read c.args.job.earliest c.args.job.latest (record { sfits = omega arith }) (record { sfits = omega arith }) c.check_bounds.ensures ∙ c.in_ok-check_bounds.was,
      range_read _ {z = c.args.job.duration} (record { sfits = omega arith }) c.in_range.ensures c.if-not-in_range.true,
    )

-- where the usage is left to test, the answer is its test's
pub returns-then-not-in_range-2 : goal.returns-then-not-in_range-2
unfolding job_checked
returns-then-not-in_range-2 c =
    rw (
      bounds_read c.args.job.earliest c.args.job.latest (record { sfits = omega arith }) (record { sfits = omega arith }) c.check_bounds.ensures ∙ c.in_ok-check_bounds.was,
      range_read _ {z = c.args.job.duration} (record { sfits = omega arith }) c.in_range.ensures c.if-not-in_range.false,
      range_read _ {z = c.args.job.usage} (record { sfits = omega arith }) c.in_range-2.ensures c.if-not-in_range-2.true,
    )

pub returns : goal.returns
unfolding job_checked
returns c =
    rw (
      bounds_read c.args.job.earliest c.args.job.latest (record { sfits = omega arith }) (record { sfits = omega arith }) c.check_bounds.ensures ∙ c.in_ok-check_bounds.was,
      range_read _ {z = c.args.job.duration} (record { sfits = omega arith }) c.in_range.ensures c.if-not-in_range.false,
      range_read _ {z = c.args.job.usage} (record { sfits = omega arith }) c.in_range-2.ensures c.if-not-in_range-2.false,
    )
