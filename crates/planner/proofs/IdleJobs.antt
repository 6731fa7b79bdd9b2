-- The jobs that are not kept are those with usage 0 or duration 0, and such a job draws nothing at any instant.
-- Assumes nothing.
use mathlib.Core.Path.{◌≡◌, refl, ap, ◌∙◌}
use mathlib.Core.Bool.{Bool, true, false, cond, ◌&&◌, and-false}
use mathlib.Core.Logic.{inl, inr, ⊎_elim}
use Prim.Native.Nat.{ℕ, ◌+◌, ◌≤◌}
use native.Mathlib.Omega.{arith}
use borrow.Author.Tests.{ltb-false}
use lib.Dec.{ltb}
use lib.IntN.{ℤ, pos, negsuc}
use Rattle.time_table.proofs.Sums.{has_none}
use Rattle.sweep.specs.Created.{keeps}
use Rattle.planner.specs.declared.Job.{Job}
use Rattle.planner.specs.Instants.{tick, amount}
use Rattle.planner.specs.Running.{must_run}
use Rattle.planner.specs.Loads.{task_of}
use Rattle.planner.specs.Places.{Idle}
use Rattle.planner.proofs.RunInTicks.{run_at, run_low, placed}
use Rattle.planner.proofs.Accepted.{Numbers}

amount_none : (z : ℤ) → amount z ≤ 0 → z ≡ pos 0
unfolding amount
amount_none (pos n) le = let e : n ≡ 0 = omega arith in ap pos e
amount_none (negsuc n) le = absurd (omega arith)

pub drops_idle : (j : Job) → keeps (task_of j) ≡ false → Idle j
unfolding keeps
drops_idle j = go (ltb 0 (amount j.usage)) (ltb 0 (amount j.duration)) refl refl
  where
    go : (u d : Bool) → ltb 0 (amount j.usage) ≡ u → ltb 0 (amount j.duration) ≡ d → (u && d) ≡ false → Idle j
    go false d p q e = inl (amount_none j.usage (ltb-false 0 (amount j.usage) p))
    go true d p q e = inr (amount_none j.duration (ltb-false 0 (amount j.duration) (q ∙ e)))

pub idle_drops : (j : Job) → Idle j → keeps (task_of j) ≡ false
unfolding keeps amount
idle_drops j (inl e) = rw e
idle_drops j (inr e) = rw e (and-false (ltb 0 (amount j.usage)))

-- what a job draws at t
abbrev pub draw : ℤ → Job → ℕ
draw t j = cond (must_run j t) (amount j.usage) 0

nothing_drawn : (b : Bool) → ◌≡◌ {A = ℕ} (cond b 0 0) 0
nothing_drawn true = refl
nothing_drawn false = refl

-- a run of no length has no instant
never : (j : Job) → Numbers j → j.duration ≡ pos 0 → (t : ℤ) → must_run j t ≡ false
unfolding amount
never j n e t =
    ⊎_elim
    (λ w. ap (must_run j) w.is ∙ run_at n.starts n.duration w.at
    ∙ has_none (tick j.latest) (tick j.earliest + amount j.duration) w.at (omega (arith, n.starts.order, ap amount e)))
    (λ low. run_low n.starts _ t low)
    (placed t)

pub idle_draws : (j : Job) → Numbers j → Idle j → (t : ℤ) → draw t j ≡ 0
unfolding amount
idle_draws j n (inl e) t = ap (λ (u : ℤ). cond (must_run j t) (amount u) 0) e ∙ nothing_drawn (must_run j t)
idle_draws j n (inr e) t = ap (λ (b : Bool). cond b (amount j.usage) 0) (never j n e t)
