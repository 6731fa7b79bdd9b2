-- A job must be running exactly where it runs from each of its starts, so what must be drawn is drawn whatever is chosen: "overloaded" says that
-- no choice of starts meets the cumulative constraint, and where each job has one start only "fits" says that this choice does.
-- Assumes nothing.
use Rattle.std.specs.Prelude.{Ok, is_ok}
use mathlib.Core.Path.{◌≡◌, refl, sym, ap, ◌∙◌}
use mathlib.Core.Bool.{Bool, true, false, cond, ◌&&◌, true≢false}
use mathlib.Core.Logic.{◌↔◌, ⊎_elim}
use mathlib.Core.List.{List, [], ◌∷◌}
use Prim.Native.Nat.{ℕ, ◌+◌, ◌≤◌, ◌<◌}
use native.Mathlib.Omega.{arith}
use borrow.Author.Tests.{leb-true, ltb-true}
use lib.IntN.{ℤ, ◌+ℤ◌}
use lib.Signed.{le_z, lt_z}
use Rattle.time_table.specs.Meaning.{has}
use Rattle.time_table.proofs.Sums.{has_in, lt_or_le}
use Rattle.time_table.proofs.Bits.{both}
use Rattle.planner.specs.declared.Job.{Job}
use Rattle.planner.specs.declared.Answer.TheVariants.{Fits, Overloaded}
use Rattle.planner.specs.Instants.{instant, tick, amount}
use Rattle.planner.specs.Checks.{job_checked}
use Rattle.planner.specs.Running.{between, must_run, runs_from, StartOf}
use Rattle.planner.specs.Answers.{fresh_plan}
use Rattle.planner.specs.History.{Call, Heard, outcome, plan_after, heard_with}
use Rattle.planner.specs.Demand.{drawn_at, Exceeds}
use Rattle.planner.specs.Cumulative.{Starts, one, drawn_from, Cumulative, AllFixed}
use Rattle.planner.proofs.Ticks.{le_instant, instant_le}
use Rattle.planner.proofs.RunInTicks.{AtTick, run_instant, run_at, at_tick}
use Rattle.planner.proofs.Accepted.{Numbers, job_accepted}
use Rattle.planner.proofs.SignedDraws.{AllNumbers}
use Rattle.planner.proofs.HeardPlan.{Good}
use Rattle.planner.proofs.Histories.{accepted_good}

module _ (j : Job) (n : Numbers j) where
  abbrev e : ℕ
  e = tick j.earliest

  abbrev l : ℕ
  l = tick j.latest

  abbrev d : ℕ
  d = amount j.duration

  -- the tick of a start
  start_tick : (s : ℤ) → StartOf j s → AtTick s
  start_tick s start = at_tick e s (ap (λ (x : ℤ). le_z x s) n.starts.earliest ∙ start.early)

  start_early : (s : ℤ) (start : StartOf j s) → e ≤ (start_tick s start).at
  start_early s start =
      let v = start_tick s start in
      instant_le e v.at ((λ i. le_z (n.starts.earliest i) (sym v.is i)) ∙ start.early)

  start_late : (s : ℤ) (start : StartOf j s) → (start_tick s start).at ≤ l
  start_late s start =
      let v = start_tick s start in
      instant_le v.at l ((λ i. le_z (sym v.is i) (n.starts.latest i)) ∙ start.late)

  -- where it must be running, it runs from each start
  from_each : (t : ℤ) → must_run j t ≡ true → (s : ℤ) → StartOf j s → runs_from j s t ≡ true
  unfolding between has
  from_each t must s start =
      let u = at_tick l t (ap (λ (x : ℤ). le_z x t) n.starts.latest ∙ (both _ _ must).0) in
      let v = start_tick s start in
      let part = both _ _ (sym (run_at n.starts n.duration u.at) ∙ ap (must_run j) (sym u.is) ∙ must) in
      let reached : l ≤ u.at = leb-true l u.at part.0 in
      let over : u.at < e + d = ltb-true u.at (e + d) part.1 in
      (λ i. runs_from j (v.is i) (u.is i))
      ∙ ap (λ (x : ℤ). between (instant v.at) (instant v.at +ℤ x) (instant u.at)) n.duration.is
      ∙ run_instant v.at v.at d u.at
      ∙ has_in v.at (v.at + d) u.at (omega (arith, reached, start_late s start)) (omega (arith, over, start_early s start))

  -- a job with one start only runs where it must
  only_start : j.earliest ≡ j.latest → (s : ℤ) → StartOf j s → (t : ℤ) → must_run j t ≡ runs_from j s t
  unfolding between
  only_start fixed s start t =
      let v = start_tick s start in
      let same : v.at ≡ e = omega (arith, start_early s start, start_late s start, ap tick fixed) in
      let is : j.earliest ≡ s = sym (v.is ∙ ap instant same ∙ n.starts.earliest) in
      (λ i. le_z ((sym fixed ∙ is) i) t && lt_z t (is i +ℤ j.duration))

  in_order_lem : le_z j.earliest j.latest ≡ true
  in_order_lem = (λ i. le_z (sym n.starts.earliest i) (sym n.starts.latest i)) ∙ le_instant e l n.starts.order

  itself : (z : ℤ) (t : ℕ) → instant t ≡ z → le_z z z ≡ true
  itself z t is = (λ i. le_z (sym is i) (sym is i)) ∙ le_instant t t (omega arith)

  must_exactly : (t : ℤ) → (must_run j t ≡ true) ↔ ((s : ℤ) → StartOf j s → runs_from j s t ≡ true)
  unfolding between
  must_exactly t = (from_each t, whatever)
    where
      whatever : ((s : ℤ) → StartOf j s → runs_from j s t ≡ true) → must_run j t ≡ true
      whatever runs =
          let first = both (le_z j.earliest t) (lt_z t (j.earliest +ℤ j.duration)) (runs j.earliest (record { early = itself j.earliest e n.starts.earliest; late = in_order_lem })) in
          let last = both (le_z j.latest t) (lt_z t (j.latest +ℤ j.duration)) (runs j.latest (record { early = in_order_lem; late = itself j.latest l n.starts.latest })) in
          (λ i. last.0 i && first.1 i)

-- a job that a load accepts must be running exactly where it runs whatever start is chosen
pub must_run_lem : (j : Job) → job_checked j ≡ Ok tt → (t : ℤ) → (must_run j t ≡ true) ↔ ((s : ℤ) → StartOf j s → runs_from j s t ≡ true)
must_run_lem j ok = must_exactly j (job_accepted ok)

-- a draw that is made where another is
more_drawn : (x y : Bool) (draw : ℕ) → (x ≡ true → y ≡ true) → cond x draw 0 ≤ cond y draw 0
more_drawn true true draw so = omega arith
more_drawn true false draw so = absurd (true≢false (sym (so refl)))
more_drawn false y draw so = omega arith

-- what must be drawn is drawn whatever starts are chosen, and where jobs have one start only no more is drawn
drawn_least : (js : List Job) → AllNumbers js → (ss : List ℤ) → Starts js ss → (t : ℤ) → drawn_at js t ≤ drawn_from js ss t
unfolding AllNumbers drawn_at drawn_from
drawn_least [] n ss chosen t = omega arith
drawn_least (j ∷ js) n [] chosen t = elim chosen [ ]
drawn_least (j ∷ js) n (s ∷ ss) (one start more) t =
    omega (
      arith,
      more_drawn (must_run j t) (runs_from j s t) (amount j.usage) (λ must. from_each j n.0 t must s start),
      drawn_least js n.1 ss more t,
    )

drawn_fixed : (js : List Job) → AllNumbers js → AllFixed js → (ss : List ℤ) → Starts js ss → (t : ℤ) → drawn_at js t ≡ drawn_from js ss t
unfolding AllNumbers AllFixed drawn_at drawn_from
drawn_fixed [] n fixed ss chosen t = refl
drawn_fixed (j ∷ js) n fixed [] chosen t = elim chosen [ ]
drawn_fixed (j ∷ js) n fixed (s ∷ ss) (one start more) t =
    (λ i. cond (only_start j n.0 fixed.0 s start t i) (amount j.usage) 0 + drawn_fixed js n.1 fixed.1 ss more t i)

module _ (h : Heard) (n : AllNumbers h.jobs) (ss : List ℤ) (chosen : Starts h.jobs ss) where
  -- draws that exceed the capacity meet the constraint by no choice
  exceeding : Exceeds h → Cumulative h ss → ⊥
  exceeding x meets = absurd (omega (arith, x.there, drawn_least h.jobs n ss chosen x.instant, meets x.instant))

  -- draws that do not, of jobs with one start only, meet it
  fitting : AllFixed h.jobs → (Exceeds h → ⊥) → Cumulative h ss
  fitting fixed fits t =
      ⊎_elim
      (λ over. absurd (fits (record { instant = t; there = over })))
      (λ under. omega (arith, under, drawn_fixed h.jobs n fixed ss chosen t))
      (lt_or_le (amount h.capacity) (drawn_at h.jobs t))

-- after every history, by the last accepted bounds and for every choice of starts
module _ (calls : List Call) (c : Call) (taken : is_ok (outcome (plan_after fresh_plan calls) c).answer ≡ true) (ss : List ℤ)
    (chosen : Starts (heard_with calls c).jobs ss) where
  good : Good (heard_with calls c) (outcome (plan_after fresh_plan calls) c)
  good = accepted_good calls c taken

  -- an accepted call that answers "overloaded" leaves none that meets the constraint
  pub overloaded_none : (outcome (plan_after fresh_plan calls) c).answer ≡ Ok Overloaded → Cumulative (heard_with calls c) ss → ⊥
  overloaded_none over = exceeding (heard_with calls c) good.agrees.by_id.numbers ss chosen (good.answered.overloaded.0 over)

  -- one that answers "fits", where each job has one start only, leaves that one, and it meets it
  pub fits_fixed : (outcome (plan_after fresh_plan calls) c).answer ≡ Ok Fits → AllFixed (heard_with calls c).jobs → Cumulative (heard_with calls c) ss
  fits_fixed fits fixed =
      fitting (heard_with calls c) good.agrees.by_id.numbers ss chosen fixed
      (λ x. let e : Ok Fits ≡ Ok Overloaded = sym fits ∙ good.answered.overloaded.1 x in absurd (cc))
