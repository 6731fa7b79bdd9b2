-- `check_load` meets its contract: its checks are the definition's, in the same order.
-- Assumes nothing.
use Rattle.std.specs.Prelude.{Result, ⊤}
use mathlib.Core.Path.{◌≡◌, sym, ap, ◌∙◌}
use borrow.Author.Tests.{le-leb, lt-leb}
use lib.IntN.{ℤ}
use mir.Syntax.{w32}
use mir.Val.{SFits, to_z, of_z}
use mir.Facts.{to_z-of_z}
use Rattle.std.proofs.lemmas.Result.{err_from_is_err_and}
use Rattle.planner.specs.declared.Refusal.{Refusal}
use Rattle.planner.specs.Checks.{capacity_checked}
use Rattle.planner.specs.Loads.{load_checked}
use Rattle.planner.proofs.load.check_load.Goals as goal

found : (capacity : ℤ) {said : Result ⊤ Refusal} → SFits w32 capacity → said ≡ capacity_checked (to_z w32 (of_z w32 capacity)) → capacity_checked capacity ≡ said
found capacity fits told = ap capacity_checked (sym (to_z-of_z fits)) ∙ sym told

pub returns-then-jobs-gt-JOBS : goal.returns-then-jobs-gt-JOBS
unfolding load_checked
returns-then-jobs-gt-JOBS c = rw (lt-leb _ _ c.if-jobs-gt-JOBS.true)

pub returns-in_err-check_capacity : goal.returns-in_err-check_capacity
unfolding load_checked
returns-in_err-check_capacity c =
    let e = err_from_is_err_and c.from_residual.result c.from_residual.ensures.1 in
    rw (le-leb _ _ c.if-jobs-gt-JOBS.false, found c.args.capacity c.ranges.capacity c.check_capacity.ensures ∙ c.in_err-check_capacity.was) (cc (e.1, e.2))

pub returns : goal.returns
unfolding load_checked
returns c =
    rw (le-leb _ _ c.if-jobs-gt-JOBS.false, found c.args.capacity c.ranges.capacity c.check_capacity.ensures ∙ c.in_ok-check_capacity.was) c.check_jobs.ensures
