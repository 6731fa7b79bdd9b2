-- First fit answers over signed instants as it does over ticks: each start and each instant of a run is the instant of a tick, and the order is
-- the ticks'.
-- Assumes nothing.
use Rattle.std.specs.Prelude.{Option, Some, None, Ok}
use mathlib.Core.Path.{◌≡◌, refl, sym, ap, ◌∙◌, subst}
use mathlib.Core.Bool.{true}
use mathlib.Core.List.{List, [], ◌∷◌, map}
use mathlib.Core.Logic.{◌↔◌}
use Prim.Native.Nat.{ℕ, ◌+◌, ◌≤◌, suc}
use native.Mathlib.Omega.{arith}
use borrow.Author.Tests.{ltb-true, lt-ltb}
use lib.Dec.{leb, ltb}
use lib.IntN.{ℤ, pos, ◌+ℤ◌}
use lib.Signed.{le_z, lt_z}
use Rattle.time_table.specs.declared.Row.{Row}
use Rattle.time_table.specs.Rows.{rows_of}
use Rattle.time_table.specs.Order.{ticks}
use Rattle.time_table.specs.Meaning.{has, summed, height_at}
use Rattle.time_table.proofs.Bits.{same_test}
use Rattle.sweep.specs.declared.Task.{Task}
use Rattle.sweep.specs.Tasks.{lasts}
use Rattle.fit.specs.Fits.{IsFit, IsFirst, IsFirstFit}
use Rattle.fit.specs.FirstFit.{first_fit}
use Rattle.fit.proofs.FirstFit.{first_fit_is, first_fit_unique}
use Rattle.planner.specs.declared.Plan.{Plan}
use Rattle.planner.specs.Instants.{instant, amount}
use Rattle.planner.specs.Records.{record_of}
use Rattle.planner.specs.Sound.{Sound}
use Rattle.planner.specs.Questions.{asked_by, start_of, fit_of}
use Rattle.planner.specs.Refused.{HasTask}
use Rattle.planner.specs.SignedFit.{task_with, height_then, FitsAt, FirstAt}
use Rattle.planner.proofs.Ticks.{instant_sum, instant_order, instant_strict, le_instant, instant_le}
use Rattle.planner.proofs.RunInTicks.{AtTick, at_tick}
use Rattle.planner.proofs.Known.{known_true}
use Rattle.planner.proofs.FitQuestions.{fit_asked}
use Rattle.planner.proofs.Ids.{has_task}

-- the height at the instant of a tick
next_test : (a b : ℕ) → ltb a (b + 1) ≡ leb a b
next_test a b = same_test (suc a) (b + 1) a b (λ h. omega arith) (λ h. omega arith)

pub height_then_lem : (rows : List Row) (s : ℕ) → height_then (map record_of rows) (instant s) ≡ height_at s rows
unfolding height_then summed has
height_then_lem [] s = refl
height_then_lem (r ∷ rs) s = rw (instant_order r.start s, instant_order s r.end, next_test s r.end, height_then_lem rs s)

-- the end of a run, in ticks
run_end_lem : (a b d : ℕ) → lt_z (instant a) (instant b +ℤ pos d) ≡ ltb a (b + d)
run_end_lem a b d = rw (← instant_sum b d) (instant_strict a (b + d))

-- a fit in ticks and a fit in instants
module _ (plan : Plan) (k : Task) where
  to_ticks : (s : ℕ) → FitsAt plan k (instant s) → IsFit (rows_of plan.table) plan.capacity (asked_by k) s
  to_ticks s w =
      record {
        early = instant_le k.earliest s w.early;
        late = instant_le s k.latest w.late;
        fits = λ t from to. rw height_then_lem at (w.fits (instant t) (le_instant s t from) (run_end_lem t s (lasts k) ∙ lt-ltb t (s + lasts k) to));
      }

  to_instants : (s : ℕ) → IsFit (rows_of plan.table) plan.capacity (asked_by k) s → FitsAt plan k (instant s)
  to_instants s w = record { early = le_instant k.earliest s w.early; late = le_instant s k.latest w.late; fits = run }
    where
      at : (t : ℕ) → le_z (instant s) (instant t) ≡ true → lt_z (instant t) (instant s +ℤ pos (lasts k)) ≡ true
          → height_then (map record_of (rows_of plan.table)) (instant t) + k.usage ≤ plan.capacity
      at t from to = rw height_then_lem (w.fits t (instant_le s t from) (ltb-true t (s + lasts k) (sym (run_end_lem t s (lasts k)) ∙ to)))

      run : (t : ℤ) → le_z (instant s) t ≡ true → lt_z t (instant s +ℤ pos (lasts k)) ≡ true
          → height_then (map record_of (rows_of plan.table)) t + k.usage ≤ plan.capacity
      run t from to = let a = at_tick s t from in rw a.is (at a.at (rw a.is at from) (rw a.is at to))

  -- each start that fits is the instant of a tick that fits
  fit_tick : (z : ℤ) → FitsAt plan k z → AtTick z
  fit_tick z w = at_tick k.earliest z w.early

  tick_fits : (z : ℤ) (w : FitsAt plan k z) → IsFit (rows_of plan.table) plan.capacity (asked_by k) (fit_tick z w).at
  tick_fits z w = to_ticks (fit_tick z w).at (subst (FitsAt plan k) (fit_tick z w).is w)

  first_instant : (s : ℕ) → IsFirst (rows_of plan.table) plan.capacity (asked_by k) s → FirstAt plan k (instant s)
  first_instant s w =
      record {
        fit = to_instants s w.fit;
        least = λ y v. rw (fit_tick y v).is (le_instant s (fit_tick y v).at (w.least (fit_tick y v).at (tick_fits y v)));
      }

  first_tick : (z : ℤ) (w : FirstAt plan k z) → IsFirst (rows_of plan.table) plan.capacity (asked_by k) (fit_tick z w.fit).at
  first_tick z w =
      let a = fit_tick z w.fit in
      record { fit = tick_fits z w.fit; least = λ s v. instant_le a.at s (rw a.is at (w.least (instant s) (to_instants s v))) }

-- the two kinds of answer
started : (f : Option ℕ) (z : ℤ) → start_of f ≡ Some z → (s : ℕ) × ((f ≡ Some s) × (instant s ≡ z))
started (Some s) z h = (s, (refl, cc))
started None z h = absurd (cc)

nowhere : (f : Option ℕ) → start_of f ≡ None → f ≡ None
nowhere (Some s) h = absurd (cc)
nowhere None h = refl

module _ (plan : Plan) (id : ℤ) (sound : Sound plan) (live : plan.live ≡ true) (there : HasTask plan id) where
  abbrev found : Option ℕ
  found = first_fit (asked_by (task_with plan id)) plan.capacity (rows_of plan.table)

  asked : fit_of plan id ≡ Ok (start_of found)
  asked = fit_asked plan id ((has_task plan id).1 there) live

  is_first : IsFirstFit (rows_of plan.table) plan.capacity (asked_by (task_with plan id)) found
  is_first =
      let known = known_true plan.tasks.count id ((has_task plan id).1 there) in
      first_fit_is (asked_by (task_with plan id)) plan.capacity ticks 0 (rows_of plan.table) (sound.live live).right.ordered (sound.tasks.limited (amount id) known.1).long

  found_is : (f : Option ℕ) → IsFirstFit (rows_of plan.table) plan.capacity (asked_by (task_with plan id)) f → fit_of plan id ≡ Ok (start_of f)
  found_is f w = asked ∙ ap (λ (g : Option ℕ). Ok (start_of g)) (first_fit_unique (rows_of plan.table) plan.capacity (asked_by (task_with plan id)) found f is_first w)

  only_first : (s : ℕ) → IsFirst (rows_of plan.table) plan.capacity (asked_by (task_with plan id)) s → IsFirstFit (rows_of plan.table) plan.capacity (asked_by (task_with plan id)) (Some s)
  only_first s w = record { some = λ t e. let same : s ≡ t = cc in rw same at w; none = λ e. absurd (cc) }

  -- what is answered is what was found, in instants
  answered : (f : Option ℤ) → fit_of plan id ≡ Ok f → start_of found ≡ f
  answered f h = let e : Ok (start_of found) ≡ Ok f = sym asked ∙ h in cc

  pub start_exactly : (z : ℤ) → (fit_of plan id ≡ Ok (Some z)) ↔ FirstAt plan (task_with plan id) z
  start_exactly z = (
    λ h.
        let e = started found z (answered (Some z) h) in
        subst (FirstAt plan (task_with plan id)) e.1.1 (first_instant plan (task_with plan id) e.0 (is_first.some e.0 e.1.0)),
    λ w.
        let a = fit_tick plan (task_with plan id) z w.fit in
        found_is (Some a.at) (only_first a.at (first_tick plan (task_with plan id) z w)) ∙ ap (λ (y : ℤ). Ok (Some y)) (sym a.is),
  )

  pub nowhere_exactly : (fit_of plan id ≡ Ok None) ↔ ((z : ℤ) → ¬ FitsAt plan (task_with plan id) z)
  nowhere_exactly = (
    λ h z w. is_first.none (nowhere found (answered None h)) (fit_tick plan (task_with plan id) z w).at (tick_fits plan (task_with plan id) z w),
    λ none. found_is None (record { some = λ s e. absurd (cc); none = λ e s w. none (instant s) (to_instants plan (task_with plan id) s w) }),
  )
