-- Tests of numbers, plain and signed: a test and its contrary, two tests that hold together.
-- Assumes nothing.
use mathlib.Core.Path.{◌≡◌, refl, sym, ap, ◌∙◌}
use mathlib.Core.Bool.{Bool, true, false, cond, not}
use mathlib.Core.Logic.{◌⊎◌, inl, inr, ⊎_elim}
use Prim.Native.Nat.{ℕ}
use native.Mathlib.Omega.{arith}
use borrow.Author.Tests.{ltb-true, lt-ltb, le-ltb, le-leb, lt-leb}
use lib.Dec.{leb, ltb}
use lib.IntN.{ℤ, pos, negsuc}
use lib.Signed.{le_z, lt_z}
use Rattle.std.specs.Ordering.{is_le, int_cmp}
use Rattle.std.proofs.Common.{Less, Greater, Equal}
use Rattle.time_table.proofs.Sums.{lt_or_le}

pub by_test : (b : Bool) → (b ≡ true) ⊎ (b ≡ false)
by_test true = inl refl
by_test false = inr refl

pub ltb_not : (a b : ℕ) → ltb a b ≡ not (leb b a)
ltb_not a b = ⊎_elim (λ h. rw (lt-ltb a b h, lt-leb b a h)) (λ h. rw (le-ltb a b h, le-leb b a h)) (lt_or_le a b)

pub lt_z_not : (a b : ℤ) → lt_z a b ≡ not (le_z b a)
lt_z_not (pos a) (pos b) = ltb_not a b
lt_z_not (pos a) (negsuc b) = refl
lt_z_not (negsuc a) (pos b) = refl
lt_z_not (negsuc a) (negsuc b) = ltb_not b a

lt_le : (a b : ℤ) → lt_z a b ≡ true → le_z a b ≡ true
lt_le (pos a) (pos b) h = le-leb a b (omega (arith, ltb-true a b h))
lt_le (pos a) (negsuc b) h = h
lt_le (negsuc a) (pos b) h = refl
lt_le (negsuc a) (negsuc b) h = le-leb b a (omega (arith, ltb-true b a h))

-- the library's order of signed numbers
pub cmp_le : (a b : ℤ) → is_le (int_cmp a b) ≡ le_z a b
cmp_le a b =
    ⊎_elim
    (λ h. ap (λ (x : Bool). is_le (cond x Less (cond (lt_z b a) Greater Equal))) h ∙ sym (lt_le a b h))
    (λ h. (λ i. is_le (cond (h i) Less (cond (lt_z_not b a i) Greater Equal))) ∙ go (le_z a b))
    (by_test (lt_z a b))
  where
    go : (x : Bool) → is_le (cond (not x) Greater Equal) ≡ x
    go true = refl
    go false = refl
