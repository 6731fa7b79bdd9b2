-- The test of an id holds exactly for the ids that a task has: from 0 up to but without the number of tasks.
-- Assumes nothing.
use mathlib.Core.Path.{◌≡◌, refl, sym, ap, ◌∙◌}
use mathlib.Core.Bool.{Bool, true, false, cond, true≢false}
use mathlib.Core.Logic.{◌↔◌, inl, inr, ⊎_elim}
use Prim.Native.Nat.{ℕ, ◌≤◌, ◌<◌, ◌^◌}
use native.Mathlib.Omega.{arith}
use borrow.Author.Tests.{ltb-true, ltb-false, leb-true, le-leb, le-ltb, lt-ltb}
use lib.Dec.{ltb}
use lib.IntN.{ℤ, pos, negsuc, nat_abs}
use Rattle.planner.specs.declared.Plan.{Plan}
use Rattle.planner.specs.Instants.{amount}
use Rattle.planner.specs.Updates.{known, known_place}
use Rattle.time_table.proofs.Sums.{lt_or_le}
use Rattle.std.specs.Int.{FitsUnsignedBits}
use Rattle.std.specs.Prelude.{Some, None}
use Rattle.planner.specs.Refused.{HasTask, NoTask}

known_from_0 : (count n : ℕ) → known count (pos n) ≡ ltb n count
unfolding known amount
known_from_0 count n = rw (le-leb 0 n (omega arith))

known_negative : (count n : ℕ) → known count (negsuc n) ≡ false
unfolding known
known_negative count n = refl

-- the place of an id: of one that is not negative, itself, if it is below the count
pub place_found : (count : ℕ) (id : ℤ) (n : ℕ) → FitsUnsignedBits 64 id × (n ≡ nat_abs id) → n < count → known_place count id ≡ Some n
unfolding amount
place_found count (pos m) n w lt = rw (known_from_0 count m, lt-ltb m count (omega (arith, w.1))) (ap Some (sym w.1))
place_found count (negsuc m) n w lt = absurd w.0

pub place_past : (count : ℕ) (id : ℤ) (n : ℕ) → FitsUnsignedBits 64 id × (n ≡ nat_abs id) → count ≤ n → known_place count id ≡ None
place_past count (pos m) n w le = rw (known_from_0 count m, le-ltb m count (omega (arith, w.1)))
place_past count (negsuc m) n w le = absurd w.0

pub place_negative : (count : ℕ) (id : ℤ) → count < 2 ^ 64 → ¬ FitsUnsignedBits 64 id → known_place count id ≡ None
place_negative count (pos m) small none =
    ⊎_elim (λ lt. absurd (none lt)) (λ le. rw (known_from_0 count m, le-ltb m count (omega arith))) (lt_or_le m (2 ^ 64))
place_negative count (negsuc m) small none = rw (known_negative count m)

pub place_known : (count : ℕ) (id : ℤ) (n : ℕ) → known_place count id ≡ Some n → (known count id ≡ true) × (n ≡ amount id)
place_known count id n is = go (known count id) refl is
  where
    go : (b : Bool) → known count id ≡ b → cond b (Some (amount id)) None ≡ Some n → (known count id ≡ true) × (n ≡ amount id)
    go true k e = (k, cc)
    go false k e = absurd (cc)

pub place_unknown : (count : ℕ) (id : ℤ) → known_place count id ≡ None → known count id ≡ false
place_unknown count id is = go (known count id) refl is
  where
    go : (b : Bool) → known count id ≡ b → cond b (Some (amount id)) None ≡ None → known count id ≡ false
    go true k e = absurd (cc)
    go false k e = k

module _ (plan : Plan) where
  there : (id : ℤ) → known plan.tasks.count id ≡ true → HasTask plan id
  there (pos n) h = record { low = le-leb 0 n (omega arith); high = sym (known_from_0 plan.tasks.count n) ∙ h }
  there (negsuc n) h = absurd (true≢false (sym h ∙ known_negative plan.tasks.count n))

  there_known : (id : ℤ) → HasTask plan id → known plan.tasks.count id ≡ true
  there_known (pos n) h = known_from_0 plan.tasks.count n ∙ h.high
  there_known (negsuc n) h = absurd (true≢false (sym h.low))

  absent : (id : ℤ) → known plan.tasks.count id ≡ false → NoTask plan id
  absent (pos n) h = inr (le-leb plan.tasks.count n (ltb-false n plan.tasks.count (sym (known_from_0 plan.tasks.count n) ∙ h)))
  absent (negsuc n) h = inl refl

  absent_unknown : (id : ℤ) → NoTask plan id → known plan.tasks.count id ≡ false
  absent_unknown (pos n) (inl h) = absurd (omega (arith, ltb-true n 0 h))
  absent_unknown (pos n) (inr h) = known_from_0 plan.tasks.count n ∙ le-ltb n plan.tasks.count (leb-true plan.tasks.count n h)
  absent_unknown (negsuc n) h = known_negative plan.tasks.count n

  pub has_task : (id : ℤ) → (known plan.tasks.count id ≡ true) ↔ HasTask plan id
  has_task id = (there id, there_known id)

  pub no_task_lem : (id : ℤ) → (known plan.tasks.count id ≡ false) ↔ NoTask plan id
  no_task_lem id = (absent id, absent_unknown id)
