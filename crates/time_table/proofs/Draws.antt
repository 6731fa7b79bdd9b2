-- A sum over a list that has each of some numbers once is the sum over those numbers, taken in their order.
-- Assumes nothing.
use mathlib.Core.Path.{◌≡◌, sym, ap, ◌∙◌}
use mathlib.Core.Bool.{Bool, true, false, cond}
use mathlib.Core.List.{List, [], ◌∷◌}
use Prim.Native.Nat.{ℕ, zero, suc, ◌+◌, ◌*◌, ◌≤◌}
use native.Mathlib.Nat.{zero-mul, one-mul, add-mul}
use native.Mathlib.Omega.{arith}
use lib.Dec.{eqb}
use Rattle.time_table.specs.Meaning.{bit, total, occurs}
use Rattle.time_table.specs.Demand.{draw_at}
use Rattle.time_table.proofs.Shares.{below, only, below_none, below_more, below_all}

total_only : (n w : ℕ) (xs : List ℕ) → total (only n w) xs ≡ occurs n xs * w
unfolding total
total_only n w [] = sym (zero-mul w)
total_only n w (x ∷ xs) = go (total_only n w xs) (eqb x n)
  where
    go : total (only n w) xs ≡ occurs n xs * w → (b : Bool) → cond b w 0 + total (only n w) xs ≡ (bit b + occurs n xs) * w
    go later true = rw (add-mul, one-mul) (ap (λ (m : ℕ). w + m) later)
    go later false = rw (add-mul, zero-mul) (ap (λ (m : ℕ). 0 + m) later)

module _ (runs : ℕ → ℕ → Bool) (usage : ℕ → ℕ) (t : ℕ) (xs : List ℕ) (once : (i : ℕ) → occurs i xs ≡ bit (runs i t)) where
  total_below : (n : ℕ) → total (below usage n) xs ≡ draw_at runs usage n t
  unfolding draw_at
  total_below zero = below_none usage xs
  total_below (suc n) =
      let here : total (only n (usage n)) xs ≡ cond (runs n t) (usage n) 0 = total_only n (usage n) xs ∙ rw (once n) (either (runs n t)) in
      omega (arith, below_more usage n xs, total_below n, here)
    where
      either : (b : Bool) → bit b * usage n ≡ cond b (usage n) 0
      either true = one-mul (usage n)
      either false = zero-mul (usage n)

  -- where no other number occurs
  pub total_drawn : (n : ℕ) → ((i : ℕ) → n ≤ i → runs i t ≡ false) → total usage xs ≡ draw_at runs usage n t
  total_drawn n few = sym (below_all usage n xs (λ i le. once i ∙ rw (few i le))) ∙ total_below n
