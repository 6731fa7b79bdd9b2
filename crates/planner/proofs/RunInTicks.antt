-- A task must run at an instant exactly where its mandatory part in ticks has the instant's tick; below the first tick nothing runs.
-- Assumes nothing.
use mathlib.Core.Path.{◌≡◌, sym, ap, ◌∙◌}
use mathlib.Core.Bool.{true, false, not, true≢false}
use mathlib.Core.Logic.{◌⊎◌, inl, inr, ⊎_elim}
use Prim.Native.Nat.{ℕ, suc, ◌+◌, ◌-◌, ◌<◌}
use native.Mathlib.Omega.{arith}
use borrow.Author.Tests.{ltb-true, lt-leb}
use lib.IntN.{ℤ, pos, negsuc, ◌+ℤ◌}
use lib.Signed.{le_z, lt_z}
use Rattle.time_table.specs.Meaning.{has}
use Rattle.time_table.proofs.Sums.{lt_or_le}
use Rattle.planner.specs.Ranges.{bounds, max_bound}
use Rattle.planner.specs.Instants.{instant, tick, amount}
use Rattle.planner.specs.Running.{between}
use Rattle.planner.proofs.Tests.{by_test, lt_z_not}
use Rattle.planner.proofs.Ticks.{instant_tick, instant_sum, instant_low, instant_high, instant_order, instant_strict}
use Rattle.planner.proofs.Accepted.{Bounds, Amount}

pub run_instant : (a b d s : ℕ) → between (instant b) (instant a +ℤ pos d) (instant s) ≡ has b (a + d) s
unfolding between has
run_instant a b d s = rw (← instant_sum a d, instant_order b s, instant_strict s (a + d))

-- an instant below the first tick is below each tick's instant
pub below : (t : ℤ) (s : ℕ) → lt_z t bounds.lo ≡ true → le_z (instant s) t ≡ false
below (pos n) s h = absurd (true≢false (sym h))
below (negsuc n) s h =
    let far : 999999999 < n = ltb-true 999999999 n h in
    ⊎_elim
    (λ lt. rw (instant_low s lt) (lt-leb n (max_bound - suc s) (omega arith)))
    (λ ge. rw (instant_high s ge))
    (lt_or_le s max_bound)

module _ {e l : ℤ} (b : Bounds e l) where
  pub run_at : {d : ℤ} {most : ℕ} → Amount most d → (s : ℕ) → between l (e +ℤ d) (instant s) ≡ has (tick l) (tick e + amount d) s
  run_at {d} a s =
      (λ i. between (sym b.latest i) (sym b.earliest i +ℤ a.is i) (instant s))
      ∙ run_instant (tick e) (tick l) (amount d) s

  pub run_low : (until t : ℤ) → lt_z t bounds.lo ≡ true → between l until t ≡ false
  unfolding between
  run_low until t h = rw (← b.latest, below t (tick l) h)

-- every integer is the instant of a tick or below them all
pub record AtTick (t : ℤ) : Type 0 where
  pub at : ℕ
  pub is : t ≡ instant at

pub placed : (t : ℤ) → AtTick t ⊎ (lt_z t bounds.lo ≡ true)
placed t =
    ⊎_elim
    (λ h. inl (record { at = tick t; is = sym (instant_tick t h) }))
    (λ h. inr (lt_z_not t bounds.lo ∙ ap not h))
    (by_test (le_z bounds.lo t))

-- what is not before the instant of a tick is the instant of a tick
pub at_tick : (s : ℕ) (t : ℤ) → le_z (instant s) t ≡ true → AtTick t
at_tick s t h = ⊎_elim (λ at. at) (λ low. absurd (true≢false (sym h ∙ below t s low))) (placed t)
