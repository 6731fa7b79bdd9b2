-- `Plan::first_fit` meets its contract: its checks are the definition's, and a sound plan's table and task may be asked.
-- Assumes nothing.
use Rattle.std.specs.Prelude.{Option, Some, None, Result, Ok, Err, ok_or, MatchOption, IsSomeAnd}
use mathlib.Core.Path.{◌≡◌, refl, sym, ap, ◌∙◌}
use mathlib.Core.Bool.{true}
use Prim.Native.Nat.{ℕ}
use native.Mathlib.Omega.{arith}
use lib.IntN.{ℤ}
use mir.Syntax.{w32}
use mir.Val.{SFits, to_z, of_z}
use mir.Facts.{to_z-of_z}
use Rattle.std.proofs.lemmas.Result.{err_from_is_err_and}
use Rattle.planner.specs.declared.Plan.{Plan}
use Rattle.planner.specs.declared.Refusal.{Refusal}
use Rattle.planner.specs.declared.Refusal.TheVariants.{UnknownTask}
use Rattle.planner.specs.Instants.{instant, amount}
use Rattle.planner.specs.Updates.{known, known_place}
use Rattle.planner.specs.Questions.{start_of}
use Rattle.planner.proofs.Ids.{place_known, place_unknown}
use Rattle.planner.proofs.Known.{known_true}
use Rattle.planner.proofs.FitQuestions.{fit_unknown, fit_stale, fit_asked, asked_read, askable, start_low}
use Rattle.planner.proofs.Plan.first_fit.Goals as goal

-- a place that was found, or the refusal where there is none
some_place : (o : Option ℕ) (n : ℕ) → ok_or o UnknownTask ≡ Ok n → o ≡ Some n
some_place (Some m) n e = cc
some_place None n e = absurd (cc)

no_place : (o : Option ℕ) (why : Refusal) → ok_or o UnknownTask ≡ Err why → (o ≡ None) × (why ≡ UnknownTask)
no_place (Some m) why e = absurd (cc)
no_place None why e = (refl, cc)

-- a place that was found is the id of a known task
place : (plan : Plan) (id : ℤ) (n : ℕ) {o : Option ℕ} {r : Result ℕ Refusal} → SFits w32 id → o ≡ known_place plan.tasks.count (to_z w32 (of_z w32 id))
    → r ≡ ok_or o UnknownTask → r ≡ Ok n → (known plan.tasks.count id ≡ true) × (n ≡ amount id)
place plan id n {o} fits found given is =
    place_known plan.tasks.count id n (ap (known_place plan.tasks.count) (sym (to_z-of_z fits)) ∙ sym found ∙ some_place o n (sym given ∙ is))

-- a start that was found becomes its instant
mapped : (o : Option ℕ) (r : Option ℤ) → MatchOption o (r ≡ None) (λ x. IsSomeAnd r (λ y. y ≡ instant x)) → r ≡ start_of o
mapped None r h = h
mapped (Some x) None h = absurd h
mapped (Some x) (Some y) h = ap Some h

pub returns-in_err-place : goal.returns-in_err-place
returns-in_err-place c =
    let n = no_place c.place_of.result c.in_err-place.field-0.0 (sym c.ok_or.ensures.value ∙ c.in_err-place.was) in
    let e = err_from_is_err_and c.from_residual.result c.from_residual.ensures.1 in
    let none = place_unknown c.args.self.now.tasks.count c.args.id (rw (to_z-of_z c.ranges.id) at (sym c.place_of.ensures ∙ n.0)) in
    rw (fit_unknown c.args.self.now c.args.id none) (e.1 ∙ ap Err (e.2 ∙ n.1))

pub returns-then-not-self : goal.returns-then-not-self
returns-then-not-self c =
    let p = place c.args.self.now c.args.id c.in_ok-place.place c.ranges.id c.place_of.ensures c.ok_or.ensures.value c.in_ok-place.was in
    sym (fit_stale c.args.self.now c.args.id p.0 c.if-not-self.true)

pub offset_bounds-self-place : goal.offset_bounds-self-place
offset_bounds-self-place c =
    let p = place c.args.self.now c.args.id c.in_ok-place.place c.ranges.id c.place_of.ensures c.ok_or.ensures.value c.in_ok-place.was in
    omega (arith, known_true c.args.self.now.tasks.count c.args.id p.0, c.requires.tasks.held.fits)

pub bounds-self-place : goal.bounds-self-place
bounds-self-place c =
    let p = place c.args.self.now c.args.id c.in_ok-place.place c.ranges.id c.place_of.ensures c.ok_or.ensures.value c.in_ok-place.was in
    omega (arith, known_true c.args.self.now.tasks.count c.args.id p.0, c.requires.tasks.held.fits)

pub first_fit-requires : goal.first_fit-requires
first_fit-requires c =
    let p = place c.args.self.now c.args.id c.in_ok-place.place c.ranges.id c.place_of.ensures c.ok_or.ensures.value c.in_ok-place.was in
    rw (c.lasts.ensures, p.1, asked_read c.args.self.now c.args.id p.0)
    (askable c.args.self.now c.args.id p.0 c.requires c.if-not-self.false)

pub map-requires : goal.map-requires
map-requires c =
    let p = place c.args.self.now c.args.id c.in_ok-place.place c.ranges.id c.place_of.ensures c.ok_or.ensures.value c.in_ok-place.was in
    λ x e. start_low c.args.self.now c.args.id p.0 c.requires c.if-not-self.false x
    (rw (c.lasts.ensures, p.1, asked_read c.args.self.now c.args.id p.0) at (sym c.first_fit.ensures ∙ e))

pub returns : goal.returns
returns c =
    let p = place c.args.self.now c.args.id c.in_ok-place.place c.ranges.id c.place_of.ensures c.ok_or.ensures.value c.in_ok-place.was in
    let found = rw (c.lasts.ensures, p.1, asked_read c.args.self.now c.args.id p.0) at c.first_fit.ensures in
    ap Ok (mapped c.first_fit.result c.map.result c.map.ensures.cases ∙ ap start_of found)
    ∙ sym (fit_asked c.args.self.now c.args.id p.0 c.if-not-self.false)
