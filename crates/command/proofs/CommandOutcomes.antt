-- A line's outcome, command by command, in the words of what the code calls for it; each is the definition's own case.
-- Assumes nothing.
use mathlib.Core.Path.{◌≡◌, refl, sym, ap, ◌∙◌, subst}
use mathlib.Core.List.{List, []}
use Prim.Native.Nat.{ℕ, ◌≤◌, ◌<◌}
use native.Mathlib.Omega.{arith}
use borrow.Author.Tests.{lt-ltb, le-ltb}
use lib.IntN.{ℤ}
use Rattle.time_table.specs.Held.{Held}
use Rattle.time_table.proofs.Held.{held_push, held_self}
use Rattle.planner.specs.declared.Job.{Job}
use Rattle.planner.specs.declared.Jobs.{Jobs}
use Rattle.planner.specs.declared.Updated.{Updated}
use Rattle.planner.specs.declared.Refusal.{Refusal}
use Rattle.planner.specs.declared.Refusal.TheVariants.{TooManyJobs}
use Rattle.planner.specs.Given.{no_job}
use Rattle.planner.specs.Kept.{jobs_with, keeping}
use Rattle.planner.specs.Loads.{jobs_of, loaded}
use Rattle.planner.specs.Updates.{updated}
use Rattle.planner.specs.History.{without_places}
use Rattle.planner.proofs.Kept.{keeping_more}
use Rattle.command.specs.declared.Session.{Session}
use Rattle.command.specs.declared.Command.{Command}
use Rattle.command.specs.declared.Command.TheVariants.{Keep, Load, Update, Fit, Rows, Unreadable}
use Rattle.command.specs.Grammar.{command_of}
use Rattle.command.specs.Text.{answer_text}
use Rattle.command.specs.Sessions.{Outcome, refused, asks_fit, asks_rows, outcome, answered}

-- the outcome of a command whose plan goes with the planner's answer, and of a job that is kept
abbrev pub by_answer : Updated → Jobs → Outcome
by_answer u jobs = record { session = record { plan = u.plan; jobs = jobs }; text = answer_text u.answer u.row }

abbrev pub by_keeping : Session → Jobs → Outcome
by_keeping s jobs = record { session = record { plan = s.plan; jobs = jobs }; text = [] }

module _ (s : Session) (l : List ℕ) {c : Command} (read : c ≡ command_of l) where
  as_read : {d : Command} → c ≡ d → answered s l ≡ outcome s d
  as_read e = ap (outcome s) (sym read ∙ e)

  pub keep_answered : {job : Job} {jobs : Jobs} → c ≡ Keep job → s.jobs.count < 32 → jobs ≡ keeping s.jobs job → answered s l ≡ by_keeping s jobs
  unfolding outcome
  keep_answered e room more = as_read e ∙ rw (lt-ltb s.jobs.count 32 room) (ap (by_keeping s) (sym more))

  pub full_answered : {job : Job} → c ≡ Keep job → 32 ≤ s.jobs.count → answered s l ≡ refused s TooManyJobs
  unfolding outcome
  full_answered e full = as_read e ∙ rw (le-ltb s.jobs.count 32 full) refl

  pub load_answered : {z : ℤ} {u : Updated} {none : Jobs} → c ≡ Load z → u ≡ without_places (loaded s.plan s.jobs z) → none ≡ jobs_with []
      → answered s l ≡ by_answer u none
  unfolding outcome
  load_answered e led empty = as_read e ∙ (λ i. by_answer (sym led i) (sym empty i))

  pub update_answered : {id earliest latest : ℤ} {u : Updated} → c ≡ Update id earliest latest → u ≡ updated s.plan id earliest latest
      → answered s l ≡ by_answer u s.jobs
  unfolding outcome
  update_answered e led = as_read e ∙ (λ i. by_answer (sym led i) s.jobs)

  pub fit_answered : {id : ℤ} → c ≡ Fit id → answered s l ≡ asks_fit s id
  unfolding outcome
  fit_answered e = as_read e

  pub rows_answered : c ≡ Rows → answered s l ≡ asks_rows s
  unfolding outcome
  rows_answered e = as_read e

  pub unread_answered : c ≡ Unreadable → answered s l ≡ refused s Refusal.Unreadable
  unfolding outcome
  unread_answered e = as_read e

pub no_jobs_held : Held 32 no_job (jobs_with []).list 0 []
no_jobs_held = record { is = refl; counts = refl; fits = omega arith }

-- the jobs with one more are held where those before are
pub keeping_held : (jobs : Jobs) (job : Job) → Held 32 no_job jobs.list jobs.count (jobs_of jobs) → jobs.count < 32
    → (let more = keeping jobs job in Held 32 no_job more.list more.count (jobs_of more))
keeping_held jobs job held room =
    subst (λ (js : Jobs). Held 32 no_job js.list js.count (jobs_of js)) (sym (keeping_more jobs job room)) (held_self (held_push held job room))
