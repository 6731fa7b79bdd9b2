-- The numbers of some fields are the first field's and then the others', and are as many as are asked for only if the fields are.
-- Assumes nothing.
use Rattle.std.proofs.Common.{◌≡◌, ℕ, ◌<◌, List, [], ◌∷◌, ◌++◌, length, refl, Option, Some, None, arith}
use Rattle.std.proofs.lemmas.Bool.Decides.{nat_tests}
use Rattle.std.proofs.lemmas.Grind.{common_steps}
use lib.IntN.{ℤ}
use Rattle.command.specs.Numbers.{number_of}
use Rattle.command.specs.Grammar.{before, first_of, values_of, counted, values_behind}

pub before_nothing : (v : Option (List ℤ)) → v ≡ before [] v
before_nothing (Some m) = refl
before_nothing None = refl

pub before_one : (l : List ℤ) (z : ℤ) (v : Option (List ℤ)) → before l (before (z ∷ []) v) ≡ before (l ++ z ∷ []) v
before_one l z (Some m) = grind (arith, common_steps)
before_one l z None = refl

-- behind a letter: nothing before the first space, or something
pub behind_space : (x : List ℕ) (fs : List (List ℕ)) → length x ≡ 0 → values_behind (x ∷ fs) ≡ before [] (values_of fs)
behind_space [] fs e = before_nothing (values_of fs)
behind_space (b ∷ bs) fs e = absurd (omega arith)

pub behind_letters : (x : List ℕ) (fs : List (List ℕ)) → ¬ (length x ≡ 0) → values_behind (x ∷ fs) ≡ None
behind_letters [] fs some = absurd (some refl)
behind_letters (b ∷ bs) fs some = refl

-- as many numbers as are asked for, too few, and too many
pub counted_all : (l : List ℤ) (n : ℕ) → length l ≡ n → counted n (before l (values_of [])) ≡ Some l
unfolding values_of
counted_all l n e = grind (arith, nat_tests, common_steps)

pub counted_few : (l : List ℤ) (n : ℕ) → length l < n → counted n (before l (values_of [])) ≡ None
unfolding values_of
counted_few l n few = grind (arith, nat_tests, common_steps)

pub counted_many : (l : List ℤ) (n : ℕ) (f : List ℕ) (fs : List (List ℕ)) → length l ≡ n → counted n (before l (values_of (f ∷ fs))) ≡ None
unfolding values_of
counted_many l n f fs e = go (number_of f) (values_of fs)
  where
    go : (z : Option ℤ) (v : Option (List ℤ)) → counted n (before l (first_of z v)) ≡ None
    go (Some z) (Some m) = grind (arith, nat_tests, common_steps)
    go (Some z) None = refl
    go None v = refl

-- the next field is a number, or none
pub values_next : (l : List ℤ) (f : List ℕ) (fs : List (List ℕ)) (z : ℤ) → Some z ≡ number_of f → before l (values_of (f ∷ fs)) ≡ before (l ++ z ∷ []) (values_of fs)
unfolding values_of
values_next l f fs z e = rw (← e) (before_one l z (values_of fs))

pub values_misread : (l : List ℤ) (f : List ℕ) (fs : List (List ℕ)) → None ≡ number_of f → before l (values_of (f ∷ fs)) ≡ None
unfolding values_of
values_misread l f fs e = rw (← e)
