-- Sums over the numbers below a bound: equal shares give equal sums, and a sum over a list is one over its places.
-- Assumes nothing.
use mathlib.Core.Path.{◌≡◌, refl, sym, ap, ◌∙◌}
use mathlib.Core.Bool.{Bool, false, cond}
use mathlib.Core.List.{List, [], ◌∷◌}
use Prim.Native.Nat.{ℕ, zero, suc, ◌+◌, ◌≤◌, ◌<◌}
use native.Mathlib.Omega.{arith}
use lib.ListN.{length, get_or}
use Rattle.time_table.specs.Meaning.{bit, total, occurs}
use Rattle.time_table.specs.Demand.{draw_at}
use Rattle.time_table.proofs.Draws.{total_drawn}

unfoldable pub sum_below : (ℕ → ℕ) → ℕ → ℕ
sum_below u zero = 0
sum_below u (suc n) = sum_below u n + u n

pub sum_same : (u v : ℕ → ℕ) (n : ℕ) → ((i : ℕ) → i < n → u i ≡ v i) → sum_below u n ≡ sum_below v n
unfolding sum_below
sum_same u v zero same = refl
sum_same u v (suc n) same = omega (arith, sum_same u v n (λ i lt. same i (omega arith)), same n (omega arith))

-- with the first share apart
pub sum_first : (u : ℕ → ℕ) (n : ℕ) → sum_below u (suc n) ≡ u 0 + sum_below (λ (i : ℕ). u (suc i)) n
unfolding sum_below
sum_first u zero = omega arith
sum_first u (suc n) = omega (arith, sum_first u n)

-- of a list's members
pub sum_total : (u : ℕ → ℕ) (xs : List ℕ) → total u xs ≡ sum_below (λ (k : ℕ). u (get_or xs k 0)) (length xs)
unfolding total sum_below
sum_total u [] = refl
sum_total u (x ∷ xs) = ap (λ (m : ℕ). u x + m) (sum_total u xs) ∙ sym (sum_first (λ (k : ℕ). u (get_or (x ∷ xs) k 0)) (length xs))

-- of the numbers that are picked, which a list has once each
module _ (pick : ℕ → Bool) (u : ℕ → ℕ) where
  sum_drawn : (n : ℕ) → draw_at (λ (i t : ℕ). pick i) u n 0 ≡ sum_below (λ (i : ℕ). cond (pick i) (u i) 0) n
  unfolding draw_at sum_below
  sum_drawn zero = refl
  sum_drawn (suc n) = ap (λ (m : ℕ). m + cond (pick n) (u n) 0) (sum_drawn n)

  pub sum_picked : (xs : List ℕ) (n : ℕ) → ((i : ℕ) → occurs i xs ≡ bit (pick i)) → ((i : ℕ) → n ≤ i → pick i ≡ false) → total u xs ≡ sum_below (λ (i : ℕ). cond (pick i) (u i) 0) n
  sum_picked xs n once few = total_drawn (λ (i t : ℕ). pick i) u 0 xs once n few ∙ sum_drawn n
