-- Ticks and instants answer to each other: an instant is its tick less a constant, so orders and sums carry across.
-- Assumes nothing.
use mathlib.Core.Path.{◌≡◌, refl, sym, ap, ◌∙◌}
use mathlib.Core.Bool.{true, not}
use mathlib.Core.Logic.{⊎_elim}
use Prim.Native.Nat.{ℕ, suc, ◌+◌, ◌-◌, ◌≤◌, ◌<◌}
use native.Mathlib.Omega.{arith}
use borrow.Author.Tests.{leb-true, lt-ltb, le-ltb, le-leb, lt-leb}
use lib.Dec.{leb, ltb}
use lib.IntN.{ℤ, pos, negsuc, neg_ℤ, ◌+ℤ◌, ◌-ℤ◌, +ℤ_assoc, +ℤ_comm, +ℤ-neg_ℤ_cancel}
use lib.Signed.{le_z, lt_z, mag}
use Rattle.time_table.proofs.Sums.{lt_or_le}
use Rattle.time_table.proofs.Bits.{same_test}
use Rattle.planner.specs.Ranges.{bounds, max_bound, max_duration, last_end}
use Rattle.planner.specs.Instants.{instant, tick}
use Rattle.planner.proofs.Tests.{ltb_not, lt_z_not}

pub tick_sum : (z : ℤ) → le_z bounds.lo z ≡ true → z +ℤ pos max_bound ≡ pos (tick z)
unfolding tick
tick_sum (pos n) low = refl
tick_sum (negsuc n) low =
    let near : n ≤ 999999999 = leb-true n 999999999 low in
    simp (le-ltb max_bound (suc n) (omega arith))

pub instant_tick : (z : ℤ) → le_z bounds.lo z ≡ true → instant (tick z) ≡ z
unfolding instant
instant_tick z low = ap (λ (x : ℤ). x -ℤ pos max_bound) (sym (tick_sum z low)) ∙ +ℤ-neg_ℤ_cancel z (pos max_bound)

-- sums
pub instant_sum : (t d : ℕ) → instant (t + d) ≡ instant t +ℤ pos d
unfolding instant
instant_sum t d =
    +ℤ_assoc (pos t) (pos d) (neg_ℤ (pos max_bound))
    ∙ ap (λ (x : ℤ). pos t +ℤ x) (+ℤ_comm (pos d) (neg_ℤ (pos max_bound)))
    ∙ sym (+ℤ_assoc (pos t) (neg_ℤ (pos max_bound)) (pos d))

-- an instant by its sign
pub instant_low : (t : ℕ) → t < max_bound → instant t ≡ negsuc (max_bound - suc t)
unfolding instant
instant_low t h = simp (lt-ltb t max_bound h)

pub instant_high : (t : ℕ) → max_bound ≤ t → instant t ≡ pos (t - max_bound)
unfolding instant
instant_high t h = simp (le-ltb t max_bound h)

-- orders
pub instant_order : (a b : ℕ) → le_z (instant a) (instant b) ≡ leb a b
instant_order a b =
    ⊎_elim
    (λ p. ⊎_elim
    (λ q. rw (instant_low a p, instant_low b q) (same_test (max_bound - suc b) (max_bound - suc a) a b (λ h. omega arith) (λ h. omega arith)))
    (λ q. rw (instant_low a p, instant_high b q) (sym (le-leb a b (omega arith))))
    (lt_or_le b max_bound))
    (λ p. ⊎_elim
    (λ q. rw (instant_high a p, instant_low b q) (sym (lt-leb a b (omega arith))))
    (λ q. rw (instant_high a p, instant_high b q) (same_test (a - max_bound) (b - max_bound) a b (λ h. omega arith) (λ h. omega arith)))
    (lt_or_le b max_bound))
    (lt_or_le a max_bound)

pub le_instant : (a b : ℕ) → a ≤ b → le_z (instant a) (instant b) ≡ true
le_instant a b h = instant_order a b ∙ le-leb a b h

pub instant_le : (a b : ℕ) → le_z (instant a) (instant b) ≡ true → a ≤ b
instant_le a b h = leb-true a b (sym (instant_order a b) ∙ h)

pub instant_strict : (a b : ℕ) → lt_z (instant a) (instant b) ≡ ltb a b
instant_strict a b = lt_z_not (instant a) (instant b) ∙ ap not (instant_order b a) ∙ sym (ltb_not a b)

pub tick_order : (a b : ℤ) → le_z bounds.lo a ≡ true → le_z bounds.lo b ≡ true → leb (tick a) (tick b) ≡ le_z a b
tick_order a b p q = sym (instant_order (tick a) (tick b)) ∙ (λ i. le_z (instant_tick a p i) (instant_tick b q i))

-- the instants that a plan can touch are small
pub instant_small : (t : ℕ) → t < last_end → mag (instant t) < max_bound + max_duration
instant_small t h =
    ⊎_elim (λ p. rw (instant_low t p) (omega arith)) (λ p. rw (instant_high t p) (omega arith)) (lt_or_le t max_bound)
