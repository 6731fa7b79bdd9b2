-- `magnitude_of` meets its contract: each byte is one step of the definition, and so few digits stay below 10 to the 19th.
-- Assumes nothing.
use Rattle.std.proofs.Common.{sym, ◌∙◌, arith}
use Rattle.std.proofs.lemmas.Grind.{common_steps}
use Rattle.command.specs.Numbers.{is_digit}
use Rattle.command.proofs.number.Digits.{digit_next, digit_end}
use Rattle.command.proofs.number.magnitude_of.Goals as goal

pub returns-then-not-is_ascii_digit : goal.returns-then-not-is_ascii_digit
unfolding is_digit
returns-then-not-is_ascii_digit c =
    sym (c.loop-digit.invariant.same ∙ digit_next c.args.digits.now c.loop-digit.digit-index c.loop-digit.value c.loop-digit-test.true (c.if-not-is_ascii_digit.ensures.value))

pub loop-digit-preserved : goal.loop-digit-preserved
unfolding is_digit
loop-digit-preserved c =
    record {
      small = grind (arith, common_steps);
      same =
          rw c.from.ensures (c.loop-digit.invariant.same ∙ digit_next c.args.digits.now c.loop-digit.digit-index c.loop-digit.value c.loop-digit-test.true c.if-not-is_ascii_digit.ensures.value);
    }

pub returns : goal.returns
returns c = sym (c.loop-digit.invariant.same ∙ digit_end c.args.digits.now c.loop-digit.digit-index c.loop-digit.value c.loop-digit-test.false)
