-- `Session::new` meets its contract: a fresh plan, and no jobs.
-- Assumes nothing.
use Rattle.command.proofs.CommandOutcomes.{no_jobs_held}
use Rattle.command.proofs.Session.new.Goals as goal

pub returns : goal.returns
returns c =
    record {
      value = (λ i. record { plan = c.fresh-plan.ensures.value i; jobs = c.empty-jobs.ensures i });
      ready = record { plan = c.fresh-plan.ensures.sound; jobs = rw c.empty-jobs.ensures no_jobs_held };
    }
