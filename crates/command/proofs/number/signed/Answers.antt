-- `signed` meets its contract: with 1 to 10 bytes, what the digits say is ranged.
-- Assumes nothing.
use Rattle.std.proofs.Common.{◌≡◌, ◌≤◌, ℕ, Bool, List, length, sym, ap, ◌∙◌, arith}
use Rattle.std.proofs.lemmas.Bool.Decides.{nat_tests}
use Rattle.command.specs.Numbers.{magnitude_from, ranged, most_digits, signed_of}
use Rattle.command.proofs.number.signed.Goals as goal

few_digits : (minus : Bool) (ds : List ℕ) → 1 ≤ length ds → length ds ≤ most_digits → signed_of minus ds ≡ ranged minus (magnitude_from 0 ds)
unfolding signed_of
few_digits minus ds some few = grind (arith, nat_tests)

pub returns-then-is_empty : goal.returns-then-is_empty
unfolding signed_of
returns-then-is_empty c = grind (arith, nat_tests)

pub returns-in_err-magnitude_of : goal.returns-in_err-magnitude_of
returns-in_err-magnitude_of c =
    c.from_residual.ensures
    ∙ sym (few_digits c.args.minus c.args.digits.now (grind (arith, nat_tests)) c.if-digits-gt-DIGITS.false ∙ ap (ranged c.args.minus) (sym c.magnitude_of.ensures ∙ c.in_err-magnitude_of.was))

pub returns : goal.returns
returns c =
    c.ranged.ensures
    ∙ sym (few_digits c.args.minus c.args.digits.now (grind (arith, nat_tests)) c.if-digits-gt-DIGITS.false ∙ ap (ranged c.args.minus) (sym c.magnitude_of.ensures ∙ c.in_ok-magnitude_of.was))
