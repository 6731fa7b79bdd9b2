-- A sum over a list's members, number by number: the share of the numbers below n grows with n by the share of n alone.
-- Assumes nothing.
use mathlib.Core.Path.{◌≡◌, refl}
use mathlib.Core.Bool.{cond}
use mathlib.Core.Logic.{⊎_elim}
use mathlib.Core.List.{List, [], ◌∷◌}
use Prim.Native.Nat.{ℕ, suc, ◌+◌, ◌≤◌}
use native.Mathlib.Decide.{ℕ_discrete}
use native.Mathlib.Omega.{arith}
use borrow.Author.Tests.{lt-ltb, le-ltb, eq-eqb, ne_eqb}
use lib.Dec.{ltb, eqb}
use Rattle.time_table.specs.Meaning.{one, total, occurs}
use Rattle.time_table.proofs.Sums.{lt_or_le}

-- the share of the numbers below n, and that of n alone
abbrev pub below : (ℕ → ℕ) → ℕ → ℕ → ℕ
below u n x = cond (ltb x n) (u x) 0

abbrev pub only : ℕ → ℕ → ℕ → ℕ
only n w x = cond (eqb x n) w 0

total_add : (u v w : ℕ → ℕ) → ((x : ℕ) → w x ≡ u x + v x) → (xs : List ℕ) → total w xs ≡ total u xs + total v xs
unfolding total
total_add u v w e [] = refl
total_add u v w e (x ∷ xs) = omega (arith, e x, total_add u v w e xs)

below_suc : (u : ℕ → ℕ) (n x : ℕ) → below u (suc n) x ≡ below u n x + only n (u n) x
below_suc u n x =
    ⊎_elim
    (λ lt. rw (lt-ltb x (suc n) (omega arith), lt-ltb x n lt, ne_eqb x n (omega arith)) (omega arith))
    (λ ge. elim (ℕ_discrete x n) [
      | yes e ↦ rw (lt-ltb x (suc n) (omega arith), le-ltb x n ge, eq-eqb x n e, e) (omega arith)
      | no ne ↦ rw (le-ltb x (suc n) (omega arith), le-ltb x n ge, ne_eqb x n ne)
    ])
    (lt_or_le x n)

module _ (u : ℕ → ℕ) where
  pub below_none : (xs : List ℕ) → total (below u 0) xs ≡ 0
  unfolding total
  below_none [] = refl
  below_none (x ∷ xs) = rw (le-ltb x 0 (omega arith)) (omega (arith, below_none xs))

  pub below_more : (n : ℕ) (xs : List ℕ) → total (below u (suc n)) xs ≡ total (below u n) xs + total (only n (u n)) xs
  below_more n xs = total_add (below u n) (only n (u n)) (below u (suc n)) (below_suc u n) xs

  -- where no number from n on occurs, that is all
  pub below_all : (n : ℕ) (xs : List ℕ) → ((i : ℕ) → n ≤ i → occurs i xs ≡ 0) → total (below u n) xs ≡ total u xs
  unfolding total
  below_all n [] low = refl
  below_all n (x ∷ xs) low =
      ⊎_elim
      (λ lt. rw (lt-ltb x n lt) (omega (arith, below_all n xs (λ i le. omega (arith, low i le)))))
      (λ ge.
      let here : one x x ≡ 1 = rw (eq-eqb x x refl) in
      omega (arith, low x ge))
      (lt_or_le x n)
