-- `fill` meets its contract: each turn takes one field more, and puts its number behind those that it has.
-- Assumes nothing.
use Rattle.std.proofs.Common.{rules, of_calls, ◌≡◌, ◌∙◌, arith, take, length, ◌<◌}
use Rattle.std.proofs.lemmas.Fn.{always_returns_same}
use Rattle.std.proofs.lemmas.Bool.Decides.{nat_tests}
use Rattle.std.proofs.lemmas.Grind.{common_steps}
use Rattle.std.proofs.lemmas.List.{take_more_set}
use mir.Syntax.{w32}
use mir.Val.{SFits}
use mir.Facts.{to_z-of_z}
use Rattle.command.proofs.LineFields.{left_first, left_over, next_field}
use Rattle.command.proofs.FieldNumbers.{behind_space, behind_letters, counted_all, counted_few, counted_many, values_next, values_misread}
use Rattle.command.proofs.parse.fill.Goals as goal

pub returns-then-not-is_empty : goal.returns-then-not-is_empty
returns-then-not-is_empty c =
    let first = next_field _ c.split-fields.result c.next.new.self c.in_ok-next.field-0 c.in_ok-next.ensures.steps (always_returns_same _ _ _ (λ a r f k. search (rules, of_calls))) in
    rw (left_first c.split-fields.ensures.rest c.split-fields.ensures.done, first, behind_letters c.in_ok-next.field-0.now _ (grind (arith, nat_tests)))

pub loop-number-init : goal.loop-number-init
loop-number-init c =
    let first = next_field _ c.split-fields.result c.next.new.self c.in_ok-next.field-0 c.in_ok-next.ensures.steps (always_returns_same _ _ _ (λ a r f k. search (rules, of_calls))) in
    rw (left_first c.split-fields.ensures.rest c.split-fields.ensures.done, first) (behind_space c.in_ok-next.field-0.now _ (grind (arith, nat_tests)))

pub returns-in_err-next-2 : goal.returns-in_err-next-2
returns-in_err-next-2 c =
    rw (c.from_residual-in_err-next-2.ensures, c.loop-number.invariant, left_over _ _ c.in_err-next-2.ensures.steps.0)
    (counted_few (take c.loop-number.number-index c.loop-number.numbers) _ (grind (arith, common_steps)))

pub returns-in_err-number : goal.returns-in_err-number
returns-in_err-number c =
    let next = next_field _ c.loop-number.fields c.next-in-loop-number.new.self c.in_ok-next-2.field-0 c.in_ok-next-2.ensures.steps (always_returns_same _ _ _ (λ a r f k. search (rules, of_calls))) in
    rw (c.from_residual-in_err-number.ensures, c.loop-number.invariant, next, values_misread _ _ _ c.in_err-number.ensures)

pub loop-number-preserved : goal.loop-number-preserved
loop-number-preserved c =
    let next = next_field _ c.loop-number.fields c.next-in-loop-number.new.self c.in_ok-next-2.field-0 c.in_ok-next-2.ensures.steps (always_returns_same _ _ _ (λ a r f k. search (rules, of_calls))) in
    let fits : SFits w32 c.in_ok-number.field-0 = search rules in
    let inside : c.loop-number.number-index < length c.loop-number.numbers = omega arith in
    rw (to_z-of_z fits, take_more_set) (c.loop-number.invariant ∙ rw next (values_next _ _ _ _ c.in_ok-number.ensures))

pub returns-in-Some : goal.returns-in-Some
returns-in-Some c =
    let next = next_field _ c.loop-number.fields c.next-2.new.self c.in-Some.field-0 c.in-Some.ensures.steps (always_returns_same _ _ _ (λ a r f k. search (rules, of_calls))) in
    rw (c.loop-number.invariant, next) (counted_many (take c.loop-number.number-index c.loop-number.numbers) _ _ _ (grind (arith, common_steps)))

pub returns-in-None : goal.returns-in-None
returns-in-None c =
    let all : take c.loop-number.number-index c.loop-number.numbers ≡ c.loop-number.numbers = grind (arith, common_steps) in
    rw (c.loop-number.invariant, left_over _ _ c.in-None.ensures.steps.0, all) (counted_all c.loop-number.numbers _ (omega arith))
