-- `number_of` meets its contract: a minus stands before the digits.
-- Assumes nothing.
use Rattle.std.proofs.Common.{◌≡◌, ℕ, true, false, cond, List, [], ◌∷◌, drop, take, sym, refl, ◌∙◌, nat_eq}
use lib.Pointwise.{pointwise}
use Rattle.std.proofs.Math.Bool.{and-true}
use Rattle.command.specs.Numbers.{signed_of, number_of}
use Rattle.command.proofs.number.number_of.Goals as goal

by_sign : (bs : List ℕ) → number_of bs ≡ cond (pointwise nat_eq (take 1 bs) (45 ∷ [])) (signed_of true (drop 1 bs)) (signed_of false bs)
unfolding number_of signed_of
by_sign [] = refl
by_sign (b ∷ bs) = simp and-true

pub returns-in-Some : goal.returns-in-Some
returns-in-Some c = c.signed.ensures ∙ sym (rw (by_sign c.args.field.now, c.in-Some.ensures.cases.0, c.in-Some.ensures.cases.1))

pub returns-in-None : goal.returns-in-None
returns-in-None c = c.signed-in-None.ensures ∙ sym (rw (by_sign c.args.field.now, c.in-None.ensures.cases))
