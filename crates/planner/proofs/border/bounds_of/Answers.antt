-- `bounds_of` meets its contract: accepted bounds are in range and in order.
-- Assumes nothing.
use Rattle.std.specs.Prelude.{Ok}
use mathlib.Core.Path.{◌≡◌, ap, ◌∙◌}
use native.Mathlib.Omega.{arith}
use mir.Facts.{to_z-of_z}
use Rattle.std.proofs.lemmas.Result.{err_from_is_err_and}
use Rattle.planner.specs.Instants.{tick}
use Rattle.planner.specs.Checks.{bounds_checked}
use Rattle.planner.proofs.Signed.{bounds_read}
use Rattle.planner.proofs.Accepted.{Bounds, bounds_accepted}
use Rattle.planner.proofs.border.bounds_of.Goals as goal
use Rattle.planner.proofs.border.bounds_of.Goals.{In_ok-check_bounds}

taken : (c : In_ok-check_bounds) → bounds_checked c.args.earliest c.args.latest ≡ Ok tt
taken c = bounds_read c.args.earliest c.args.latest c.ranges.earliest c.ranges.latest c.check_bounds.ensures ∙ c.in_ok-check_bounds.was

within : (c : In_ok-check_bounds) → Bounds c.args.earliest c.args.latest
within c = bounds_accepted (taken c)

pub tick_of-requires : goal.tick_of-requires
tick_of-requires c = rw (to_z-of_z c.ranges.earliest) (within c).earliest_in

pub tick_of-requires-2 : goal.tick_of-requires-2
tick_of-requires-2 c = rw (to_z-of_z c.ranges.latest) (within c.before).latest_in

pub invariant_of-result : goal.invariant_of-result
invariant_of-result c =
    let b = within c.before.before in
    let e = c.tick_of.ensures ∙ ap tick (to_z-of_z c.ranges.earliest) in
    let l = c.tick_of-2.ensures ∙ ap tick (to_z-of_z c.ranges.latest) in
    record { ordered = omega (arith, b.order); low = omega (arith, b.top) }

pub returns : goal.returns
returns c = (taken c.before.before.before, c.tick_of.ensures ∙ ap tick (to_z-of_z c.ranges.earliest), c.tick_of-2.ensures ∙ ap tick (to_z-of_z c.ranges.latest))

pub returns-in_err-check_bounds : goal.returns-in_err-check_bounds
returns-in_err-check_bounds c =
    let e = err_from_is_err_and c.from_residual.result c.from_residual.ensures.1 in
    rw (e.1, e.2) (bounds_read c.args.earliest c.args.latest c.ranges.earliest c.ranges.latest c.check_bounds.ensures ∙ c.in_err-check_bounds.was)
