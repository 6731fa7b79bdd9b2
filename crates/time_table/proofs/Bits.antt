-- Truth values, case by case: what a joined test says of its parts, and what the count of one says of it.
-- Assumes nothing.
use mathlib.Core.Path.{◌≡◌, refl, sym, ◌∙◌}
use mathlib.Core.Bool.{Bool, true, false, cond, ◌&&◌, ◌||◌, true≢false, false≢true}
use mathlib.Core.Logic.{◌⊎◌, inl, inr, ⊎_elim}
use Prim.Native.Nat.{ℕ, ◌≤◌, ◌<◌}
use native.Mathlib.Nat.{not-suc-le-zero}
use native.Mathlib.Omega.{arith}
use borrow.Author.Tests.{le-leb, lt-leb}
use lib.Dec.{leb}
use mathlib.Core.List.{[], ◌∷◌}
use Rattle.std.specs.Prelude.{None, Some, option_to_list}
use Rattle.time_table.specs.Meaning.{bit}
use Rattle.time_table.proofs.Sums.{lt_or_le}

pub both : (a b : Bool) → (a && b) ≡ true → (a ≡ true) × (b ≡ true)
both true b e = (refl, e)
both false b e = absurd (false≢true e)

pub either : (a b : Bool) → (a || b) ≡ true → (a ≡ true) ⊎ (b ≡ true)
either true b e = inl refl
either false b e = inr e

pub neither : (a b : Bool) → (a || b) ≡ false → (a ≡ false) × (b ≡ false)
neither true b e = absurd (true≢false e)
neither false b e = (refl, e)

pub bit_le : (b : Bool) → bit b ≤ 1
bit_le true = omega arith
bit_le false = omega arith

pub bit_true : (b : Bool) → 0 < bit b → b ≡ true
bit_true true lt = refl
bit_true false lt = absurd (not-suc-le-zero lt)

pub bit_false : (b : Bool) → bit b < 1 → b ≡ false
bit_false true e = absurd (omega (arith, e))
bit_false false e = refl

pub cond_same : {A : Type 0} (b : Bool) (x : A) → cond b x x ≡ x
cond_same true x = refl
cond_same false x = refl

pub some_if : {A : Type 0} (b : Bool) (x : A) → option_to_list (cond b (Some x) None) ≡ cond b (x ∷ []) []
some_if true x = refl
some_if false x = refl

-- two tests of numbers that hold together
pub same_test : (a b c d : ℕ) → (a ≤ b → c ≤ d) → (b < a → d < c) → leb a b ≡ leb c d
same_test a b c d le lt =
    ⊎_elim (λ h. lt-leb a b h ∙ sym (lt-leb c d (lt h))) (λ h. le-leb a b h ∙ sym (le-leb c d (le h))) (lt_or_le b a)
