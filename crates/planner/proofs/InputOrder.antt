-- Jobs are checked in input order: an accepted job leaves the answer to those behind it, and the first refusal is the answer.
-- Assumes nothing.
use Rattle.std.specs.Prelude.{Result, Ok, Err, ⊤}
use mathlib.Core.Path.{◌≡◌, refl, ap}
use mathlib.Core.Bool.{Bool, true, false}
use mathlib.Core.List.{List, [], ◌∷◌}
use mathlib.Core.Logic.{◌⊎◌, ◌↔◌, inl, inr, ⊎_elim}
use Prim.Native.Nat.{ℕ, zero, suc, ◌+◌, ◌≤◌, ◌<◌, suc-le-suc}
use native.Mathlib.Nat.{not-suc-le-zero, le_of_suc-le-suc}
use native.Mathlib.Numerals.{add-one}
use native.Mathlib.Omega.{arith}
use lib.ListN.{length, drop, get_or, drop_of_length-le}
use lib.Seq.{drop-cons}
use Rattle.planner.specs.declared.Job.{Job}
use Rattle.planner.specs.declared.Refusal.{Refusal}
use Rattle.planner.specs.Refusals.{admitted, refused, verdict}
use Rattle.planner.specs.Checks.{unless, ◌then◌, job_checked, jobs_checked}
use Rattle.planner.specs.Given.{JobGiven, no_job}
use Rattle.planner.specs.Refused.{JobTaken, FirstOut}
use Rattle.planner.proofs.Given.{refused_first, job_exactly, job_taken}

-- jobs from place i on
module _ (js : List Job) (i : ℕ) where
  pub jobs_from : i < length js → jobs_checked (drop i js) ≡ (job_checked (get_or js i no_job) then jobs_checked (drop (i + 1) js))
  unfolding jobs_checked
  jobs_from lt = rw (add-one i, drop-cons js i no_job lt)

  pub jobs_end : length js ≤ i → jobs_checked (drop i js) ≡ Ok tt
  unfolding jobs_checked
  jobs_end le = rw (drop_of_length-le js le)

-- what an accepted test says, and what a check and then another give
pub unless_accepted : (why : Refusal) (test : Bool) → unless why test ≡ Ok tt → test ≡ true
unless_accepted why true h = refl
unless_accepted why false h = absurd (cc)

pub then_accepted : (a b : Result ⊤ Refusal) → (a then b) ≡ Ok tt → (a ≡ Ok tt) × (b ≡ Ok tt)
then_accepted (Ok _) b h = (refl, h)
then_accepted (Err why) b h = absurd (cc)

refused_somewhere : {n : ℕ} (a b : Result ⊤ Refusal) → verdict (a then b) ≡ refused n → (verdict a ≡ refused n) ⊎ ((a ≡ Ok tt) × (verdict b ≡ refused n))
refused_somewhere (Ok _) b h = inr (refl, h)
refused_somewhere (Err why) b h = inl h

-- jobs are accepted exactly when each of them is
each : (js : List Job) → jobs_checked js ≡ Ok tt → (k : ℕ) → k < length js → job_checked (get_or js k no_job) ≡ Ok tt
unfolding jobs_checked
each [] h k lt = absurd (not-suc-le-zero lt)
each (j ∷ js) h zero lt = (then_accepted (job_checked j) (jobs_checked js) h).0
each (j ∷ js) h (suc k) lt = each js (then_accepted (job_checked j) (jobs_checked js) h).1 k (le_of_suc-le-suc lt)

whole : (js : List Job) → ((k : ℕ) → k < length js → job_checked (get_or js k no_job) ≡ Ok tt) → jobs_checked js ≡ Ok tt
unfolding jobs_checked
whole [] all = refl
whole (j ∷ js) all = rw (all 0 (omega arith)) (whole js (λ k lt. all (suc k) (suc-le-suc lt)))

pub jobs_accepted : (js : List Job) → (jobs_checked js ≡ Ok tt) ↔ ((k : ℕ) → k < length js → job_checked (get_or js k no_job) ≡ Ok tt)
jobs_accepted js = (each js, whole js)

-- the same in the words of the table
pub jobs_taken : (js : List Job) → (jobs_checked js ≡ Ok tt) ↔ ((k : ℕ) → k < length js → JobTaken js k)
jobs_taken js = (λ h k lt. (job_exactly _ _).0 (ap verdict (each js h k lt)), λ all. whole js (λ k lt. job_taken (all k lt)))

-- jobs are refused exactly as the first of them that is refused
module _ {n : ℕ} where
  behind : {j : Job} {js : List Job} → JobGiven j admitted → FirstOut js n → FirstOut (j ∷ js) n
  behind {j} {js} here f = record { place = suc f.place; inside = suc-le-suc f.inside; bad = f.bad; before = go }
    where
      go : (k : ℕ) → k < suc f.place → JobTaken (j ∷ js) k
      go zero lt = here
      go (suc k) lt = f.before k (le_of_suc-le-suc lt)

  first : (js : List Job) → verdict (jobs_checked js) ≡ refused n → FirstOut js n
  unfolding jobs_checked
  first [] h = absurd (cc)
  first (j ∷ js) h =
      ⊎_elim
      (λ here. record { place = 0; inside = omega arith; bad = (job_exactly j _).0 here; before = λ k lt. absurd (not-suc-le-zero lt) })
      (λ later. behind ((job_exactly j _).0 (ap verdict later.0)) (first js later.1))
      (refused_somewhere (job_checked j) (jobs_checked js) h)

  reached : (js : List Job) (i : ℕ) → i < length js → JobGiven (get_or js i no_job) (refused n) → ((k : ℕ) → k < i → JobTaken js k) → verdict (jobs_checked js) ≡ refused n
  unfolding jobs_checked
  reached [] i lt here before = absurd (not-suc-le-zero lt)
  reached (j ∷ js) zero lt here before = refused_first (job_checked j) _ ((job_exactly j _).1 here)
  reached (j ∷ js) (suc i) lt here before =
      rw (job_taken (before 0 (omega arith))) (reached js i (le_of_suc-le-suc lt) here (λ k h. before (suc k) (suc-le-suc h)))

  pub jobs_refused : (js : List Job) → (verdict (jobs_checked js) ≡ refused n) ↔ FirstOut js n
  jobs_refused js = (first js, λ f. reached js f.place f.inside f.bad f.before)
