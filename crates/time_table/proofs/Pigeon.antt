-- A list of numbers below n that has each at most once, and one of them not at all, is shorter than n.
-- Assumes nothing.
use mathlib.Core.Path.{◌≡◌}
use mathlib.Core.Bool.{Bool, true, false, cond}
use mathlib.Core.List.{List, [], ◌∷◌}
use Prim.Native.Nat.{ℕ, zero, suc, ◌+◌, ◌≤◌, ◌<◌}
use native.Mathlib.Nat.{not-suc-le-zero}
use native.Mathlib.Decide.{ℕ_discrete}
use native.Mathlib.Omega.{arith}
use lib.Dec.{eqb}
use lib.ListN.{length}
use Rattle.time_table.specs.Removal.{position}
use Rattle.time_table.specs.Meaning.{bit, total, occurs}
use Rattle.time_table.proofs.Shares.{below, below_none, below_more, below_all}
use Rattle.time_table.proofs.Totals.{total_ones}

-- an id that occurs has a place
pub occurs_position : (i : ℕ) (xs : List ℕ) → 0 < occurs i xs → position i xs < length xs
unfolding total
occurs_position i [] lt = absurd (not-suc-le-zero lt)
occurs_position i (x ∷ xs) lt = go (occurs_position i xs) (eqb x i) lt
  where
    go : (0 < occurs i xs → position i xs < length xs) → (b : Bool) → 0 < bit b + occurs i xs → cond b 0 (suc (position i xs)) < suc (length xs)
    go later true l = omega arith
    go later false l = omega (arith, later (omega arith))

-- each member counts 1
abbrev each : ℕ → ℕ
each x = 1

module _ (xs : List ℕ) (once : (i : ℕ) → occurs i xs ≤ 1) where
  few : (n : ℕ) → total (below each n) xs ≤ n
  few zero = omega (arith, below_none each xs)
  few (suc n) = omega (arith, below_more each n xs, few n, once n)

  fewer_below : (id : ℕ) → occurs id xs ≡ 0 → (n : ℕ) → id < n → total (below each n) xs < n
  fewer_below id none zero lt = absurd (not-suc-le-zero lt)
  fewer_below id none (suc n) lt =
      elim (ℕ_discrete id n) [
        | yes e ↦ omega (arith, below_more each n xs, few n, rw e at none)
        | no ne ↦ omega (arith, below_more each n xs, fewer_below id none n (omega arith), once n)
      ]

  pub fewer : (id n : ℕ) → occurs id xs ≡ 0 → id < n → ((i : ℕ) → n ≤ i → occurs i xs ≡ 0) → length xs < n
  fewer id n none lt low = rw (← (total_ones xs), ← (below_all each n xs low)) (fewer_below id none n lt)
