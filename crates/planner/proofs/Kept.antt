-- A job that is kept where there is room stands behind the others, so the jobs of a load are those that were kept, one by one.
-- Assumes nothing.
use mathlib.Core.Path.{◌≡◌, refl, ap, ◌∙◌}
use mathlib.Core.List.{[], ◌∷◌, ◌++◌}
use Prim.Native.Nat.{ℕ, ◌+◌, ◌<◌}
use native.Mathlib.Omega.{arith}
use native.Mathlib.Numerals.{add-one}
use borrow.Author.Tests.{lt-ltb}
use lib.ListN.{length, take, set, length-set}
use lib.Seq.{take-suc, take-set-le, get_or-set_same}
use Rattle.planner.specs.declared.Job.{Job}
use Rattle.planner.specs.declared.Jobs.{Jobs}
use Rattle.planner.specs.Given.{no_job}
use Rattle.planner.specs.Kept.{jobs_with, keeping}
use Rattle.planner.specs.Loads.{jobs_of}

pub keeping_more : (jobs : Jobs) (job : Job) → jobs.count < 32 → keeping jobs job ≡ record { list = set jobs.list jobs.count job; count = jobs.count + 1 }
unfolding keeping
keeping_more jobs job room = rw (lt-ltb _ _ room)

-- no job, and one more
pub none_kept : jobs_of (jobs_with []) ≡ []
none_kept = refl

pub one_more_kept : (jobs : Jobs) (job : Job) → length jobs.list ≡ 32 → jobs.count < 32 → jobs_of (keeping jobs job) ≡ jobs_of jobs ++ job ∷ []
one_more_kept jobs job places room =
    let n = jobs.count in
    let inside : n < length jobs.list = omega arith in
    let longer : n < length (set jobs.list n job) = rw length-set inside in
    ap jobs_of (keeping_more jobs job room)
    ∙ ap (λ (m : ℕ). take m (set jobs.list n job)) (add-one n)
    ∙ take-suc (set jobs.list n job) n no_job longer
    ∙ (λ i. take-set-le n jobs.list n job (omega arith) i ++ get_or-set_same jobs.list n job no_job inside i ∷ [])
