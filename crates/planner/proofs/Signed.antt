-- A signed number in the machine: its bits, read back, are the number, so what is said of what is read is said of the number.
-- Assumes nothing.
use Rattle.std.specs.Prelude.{Result, ⊤}
use mathlib.Core.Path.{◌≡◌, sym, ap, ◌∙◌}
use mathlib.Core.Bool.{Bool, not, not-not}
use lib.IntN.{ℤ}
use lib.Signed.{le_z, lt_z}
use mir.Syntax.{w32}
use mir.Val.{SFits, to_z, of_z}
use mir.Facts.{to_z-of_z}
use Rattle.planner.specs.declared.Refusal.{Refusal}
use Rattle.planner.specs.Ranges.{Range, in_range}
use Rattle.planner.specs.Checks.{bounds_checked}
use Rattle.planner.proofs.Tests.{lt_z_not}

-- the answer of a range test
pub range_read : (r : Range) {z : ℤ} {answer test : Bool} → SFits w32 z → answer ≡ in_range r (to_z w32 (of_z w32 z)) → answer ≡ test → in_range r z ≡ test
range_read r fits said found = ap (in_range r) (sym (to_z-of_z fits)) ∙ sym said ∙ found

-- a test of two numbers, and its contrary
pub less_read : (a b : ℤ) {test : Bool} → SFits w32 a → SFits w32 b → lt_z (to_z w32 (of_z w32 a)) (to_z w32 (of_z w32 b)) ≡ test → le_z b a ≡ not test
less_read a b p q found =
    sym (not-not (le_z b a))
    ∙ ap not (sym (lt_z_not a b) ∙ (λ i. lt_z (sym (to_z-of_z p) i) (sym (to_z-of_z q) i)) ∙ found)

-- the answer of the check of two start bounds
pub bounds_read : (e l : ℤ) {answer : Result ⊤ Refusal} → SFits w32 e → SFits w32 l → answer ≡ bounds_checked (to_z w32 (of_z w32 e)) (to_z w32 (of_z w32 l)) → bounds_checked e l ≡ answer
bounds_read e l p q said = (λ i. bounds_checked (sym (to_z-of_z p) i) (sym (to_z-of_z q) i)) ∙ sym said
