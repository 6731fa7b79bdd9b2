-- Each check gives an answer exactly when document 01's table gives it: some row of the table holds, and its tests lead to its answer and number.
-- Assumes nothing.
use Rattle.std.specs.Prelude.{Result, Ok, Err, ⊤}
use mathlib.Core.Path.{◌≡◌, refl, sym, ap, ◌∙◌, subst}
use mathlib.Core.Bool.{not, and-false}
use mathlib.Core.Logic.{◌↔◌, inl, inr, ⊎_elim}
use Prim.Native.Nat.{ℕ}
use borrow.Author.Tests.{not-true}
use lib.IntN.{ℤ}
use lib.Signed.{le_z}
use Rattle.planner.specs.declared.Refusal.{Refusal}
use Rattle.planner.specs.declared.Job.{Job}
use Rattle.planner.specs.Refusals.{Verdict, admitted, refused, verdict}
use Rattle.planner.specs.Ranges.{in_range, bounds, durations, usages, capacities}
use Rattle.planner.specs.Checks.{◌then◌, capacity_checked, bounds_checked, job_checked}
use Rattle.planner.specs.Given.{CapacityGiven, capacity_out, capacity_in, BoundsGiven, bound_out, crossed, ordered, JobGiven, bounds_refused, duration_out, usage_out, job_in}
use Rattle.planner.proofs.Tests.{by_test, lt_z_not}
use Rattle.planner.proofs.RangeTest.{range_test, range_fact, range_none, range_fails}

-- what a verdict says of a check, and of a check and then another
pub taken : (c : Result ⊤ Refusal) → verdict c ≡ admitted → c ≡ Ok tt
taken (Ok _) h = refl
taken (Err why) h = absurd (cc)

pub refused_first : {n : ℕ} (a b : Result ⊤ Refusal) → verdict a ≡ refused n → verdict (a then b) ≡ refused n
refused_first (Ok _) b h = absurd (cc)
refused_first (Err why) b h = h

-- a table of which some row holds, and each leads to what is heard
pub by_table : {Given : Verdict → Type 0} {heard : Verdict} → ((v : Verdict) → Given v → heard ≡ v) → (v : Verdict) × Given v → (v : Verdict) → (heard ≡ v) ↔ Given v
by_table {Given} given some v = (λ h. subst Given (sym (given some.0 some.1) ∙ h) some.1, given v)

-- refusal 2
pub some_capacity : (c : ℤ) → (v : Verdict) × CapacityGiven c v
some_capacity c = ⊎_elim (λ h. (_, capacity_in (range_fact h))) (λ h. (_, capacity_out (range_none h))) (by_test (in_range capacities c))

capacity_given : {c : ℤ} {v : Verdict} → CapacityGiven c v → verdict (capacity_checked c) ≡ v
unfolding capacity_checked
capacity_given (capacity_out out) = rw (range_fails out)
capacity_given (capacity_in within) = rw (range_test within)

pub capacity_exactly : (c : ℤ) (v : Verdict) → (verdict (capacity_checked c) ≡ v) ↔ CapacityGiven c v
capacity_exactly c = by_table (λ v. capacity_given) (some_capacity c)

pub capacity_taken : {c : ℤ} → CapacityGiven c admitted → capacity_checked c ≡ Ok tt
capacity_taken g = taken _ (capacity_given g)

-- refusals 3 and 4
pub some_bounds : (e l : ℤ) → (v : Verdict) × BoundsGiven e l v
some_bounds e l =
    ⊎_elim
    (λ p. ⊎_elim
    (λ q. ⊎_elim
    (λ o. (_, ordered (range_fact p) (range_fact q) o))
    (λ o. (_, crossed (range_fact p) (range_fact q) (lt_z_not l e ∙ ap not o)))
    (by_test (le_z e l)))
    (λ q. (_, bound_out (inr (range_none q))))
    (by_test (in_range bounds l)))
    (λ p. (_, bound_out (inl (range_none p))))
    (by_test (in_range bounds e))

bounds_given : {e l : ℤ} {v : Verdict} → BoundsGiven e l v → verdict (bounds_checked e l) ≡ v
unfolding bounds_checked
bounds_given (bound_out (inl out)) = rw (range_fails out)
bounds_given (bound_out (inr out)) = rw (range_fails out, and-false)
bounds_given {e} {l} (crossed p q o) = rw (range_test p, range_test q, not-true (le_z e l) (rw lt_z_not at o))
bounds_given (ordered p q o) = rw (range_test p, range_test q, o)

pub bounds_exactly : (e l : ℤ) (v : Verdict) → (verdict (bounds_checked e l) ≡ v) ↔ BoundsGiven e l v
bounds_exactly e l = by_table (λ v. bounds_given) (some_bounds e l)

pub bounds_taken : {e l : ℤ} → BoundsGiven e l admitted → bounds_checked e l ≡ Ok tt
bounds_taken g = taken _ (bounds_given g)

-- refusals 3 to 6
some_job : (j : Job) → (v : Verdict) × JobGiven j v
some_job j = let b = some_bounds j.earliest j.latest in go b.0 b.1
  where
    go : (v : Verdict) → BoundsGiven j.earliest j.latest v → (w : Verdict) × JobGiven j w
    go (refused n) g = (_, bounds_refused g)
    go admitted g =
        ⊎_elim
        (λ p. ⊎_elim
        (λ q. (_, job_in g (range_fact p) (range_fact q)))
        (λ q. (_, usage_out g (range_fact p) (range_none q)))
        (by_test (in_range usages j.usage)))
        (λ p. (_, duration_out g (range_none p)))
        (by_test (in_range durations j.duration))

job_given : {j : Job} {v : Verdict} → JobGiven j v → verdict (job_checked j) ≡ v
unfolding job_checked
job_given {j} (bounds_refused g) = refused_first (bounds_checked j.earliest j.latest) _ (bounds_given g)
job_given (duration_out g out) = rw (bounds_taken g, range_fails out)
job_given (usage_out g p out) = rw (bounds_taken g, range_test p, range_fails out)
job_given (job_in g p q) = rw (bounds_taken g, range_test p, range_test q)

pub job_exactly : (j : Job) (v : Verdict) → (verdict (job_checked j) ≡ v) ↔ JobGiven j v
job_exactly j = by_table (λ v. job_given) (some_job j)

pub job_taken : {j : Job} → JobGiven j admitted → job_checked j ≡ Ok tt
job_taken g = taken _ (job_given g)
