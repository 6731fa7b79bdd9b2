-- What an accepted check says of the numbers in ticks and amounts: they are in range, so each comes back from its tick or amount.
-- Assumes nothing.
use Rattle.std.specs.Prelude.{Ok}
use mathlib.Core.Path.{◌≡◌, refl, sym, ap, ◌∙◌, subst}
use mathlib.Core.Bool.{true}
use Prim.Native.Nat.{ℕ, ◌≤◌}
use borrow.Author.Tests.{leb-true}
use lib.Dec.{T}
use lib.IntN.{ℤ, pos, nat_abs}
use lib.Signed.{le_z, non_neg, le_z_yes, yes_non_neg, pos-nat_abs}
use Rattle.planner.specs.declared.Job.{Job}
use Rattle.planner.specs.Refusals.{admitted, verdict}
use Rattle.planner.specs.Ranges.{InRange, bounds, max_bound, max_duration, max_usage, max_capacity, last_start}
use Rattle.planner.specs.Instants.{instant, tick, amount}
use Rattle.planner.specs.Checks.{capacity_checked, bounds_checked, job_checked}
use Rattle.planner.specs.Given.{CapacityGiven, capacity_in, BoundsGiven, ordered, JobGiven, job_in}
use Rattle.planner.proofs.Ticks.{instant_tick, tick_order}
use Rattle.planner.proofs.Given.{capacity_exactly, bounds_exactly, job_exactly}

-- start bounds in range, and their ticks
pub record Bounds (e l : ℤ) : Type 0 where
  pub earliest_in : InRange bounds e
  pub latest_in : InRange bounds l
  pub order : tick e ≤ tick l
  pub top : tick l ≤ last_start
  pub earliest : instant (tick e) ≡ e
  pub latest : instant (tick l) ≡ l

-- a number from 0 to `most`
pub record Amount (most : ℕ) (z : ℤ) : Type 0 where
  pub low : le_z (pos 0) z ≡ true
  pub top : amount z ≤ most
  pub is : z ≡ pos (amount z)

-- a job's numbers
pub record Numbers (j : Job) : Type 0 where
  pub starts : Bounds j.earliest j.latest
  pub duration : Amount max_duration j.duration
  pub usage : Amount max_usage j.usage

pub not_negative : (z : ℤ) → le_z (pos 0) z ≡ true → T (non_neg z)
not_negative z h = yes_non_neg {z = z} (le_z_yes (subst T (sym h) tt))

amount_in : (most : ℕ) {z : ℤ} → InRange (record { lo = pos 0; hi = pos most }) z → Amount most z
unfolding amount
amount_in most {z} within =
    let is : z ≡ pos (nat_abs z) = sym (pos-nat_abs z (not_negative z within.low)) in
    record { low = within.low; top = leb-true (nat_abs z) most (subst (λ (x : ℤ). le_z x (pos most) ≡ true) is within.high); is = is }

pub tick_top : {z : ℤ} → InRange bounds z → tick z ≤ last_start
unfolding tick
tick_top {z} within = leb-true (tick z) last_start (tick_order z (pos max_bound) within.low refl ∙ within.high)

bounds_in : {e l : ℤ} → BoundsGiven e l admitted → Bounds e l
bounds_in {e} {l} (ordered p q o) =
    record {
      earliest_in = p;
      latest_in = q;
      order = leb-true (tick e) (tick l) (tick_order e l p.low q.low ∙ o);
      top = tick_top q;
      earliest = instant_tick e p.low;
      latest = instant_tick l q.low;
    }

numbers_in : {j : Job} → JobGiven j admitted → Numbers j
numbers_in (job_in g p q) = record { starts = bounds_in g; duration = amount_in max_duration p; usage = amount_in max_usage q }

capacity_in_range : {c : ℤ} → CapacityGiven c admitted → Amount max_capacity c
capacity_in_range (capacity_in p) = amount_in max_capacity p

pub bounds_accepted : {e l : ℤ} → bounds_checked e l ≡ Ok tt → Bounds e l
bounds_accepted {e} {l} h = bounds_in ((bounds_exactly e l admitted).0 (ap verdict h))

pub job_accepted : {j : Job} → job_checked j ≡ Ok tt → Numbers j
job_accepted {j} h = numbers_in ((job_exactly j admitted).0 (ap verdict h))

pub capacity_accepted : {c : ℤ} → capacity_checked c ≡ Ok tt → Amount max_capacity c
capacity_accepted {c} h = capacity_in_range ((capacity_exactly c admitted).0 (ap verdict h))
