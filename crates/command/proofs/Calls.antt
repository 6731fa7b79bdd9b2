-- Whatever lines are typed, the session's plan is the one that their loads and updates lead to: an `L` loads the jobs that were kept, a `U` updates,
-- and the other commands leave the plan alone.
-- Assumes nothing.
use mathlib.Core.Path.{◌≡◌, refl, sym, ap, ◌∙◌}
use mathlib.Core.Bool.{Bool, true, false, cond}
use mathlib.Core.List.{List, [], ◌∷◌, ◌++◌, append_assoc}
use Prim.Native.Nat.{ℕ, ◌<◌}
use native.Mathlib.Omega.{arith}
use borrow.Author.Tests.{ltb-true}
use lib.Dec.{ltb}
use lib.ListN.{length}
use Rattle.time_table.proofs.Held.{held_push}
use Rattle.planner.specs.declared.Job.{Job}
use Rattle.planner.specs.declared.Jobs.{Jobs}
use Rattle.planner.specs.declared.Plan.{Plan}
use Rattle.planner.specs.declared.Refusal.TheVariants.{TooManyJobs}
use Rattle.planner.specs.Answers.{fresh_plan}
use Rattle.planner.specs.Given.{no_job}
use Rattle.planner.specs.Kept.{jobs_with, keeping}
use Rattle.planner.specs.Loads.{loaded}
use Rattle.planner.specs.History.{Call, plan_after}
use Rattle.planner.proofs.Kept.{keeping_more}
use Rattle.command.specs.declared.Session.{Session}
use Rattle.command.specs.declared.Command.{Command}
use Rattle.command.specs.Grammar.{command_of}
use Rattle.command.specs.Sessions.{fresh_session, refused, outcome, answered}
use Rattle.command.specs.Lines.{printed}
use Rattle.command.specs.Calls.{session_after, kept_after, call_of, calls_from, calls_of}

-- a job that is kept stands behind the others
kept_behind : (kept : List Job) (job : Job) → length kept < 32 → keeping (jobs_with kept) job ≡ jobs_with (kept ++ job ∷ [])
kept_behind kept job room =
    let h = held_push {cap = 32} {n = length kept} {blank = no_job} {arr = (jobs_with kept).list} {l = kept} (record { is = refl; counts = refl; fits = omega arith }) job room in
    keeping_more (jobs_with kept) job room ∙ (λ i. record { list = h.is i; count = h.counts i })

module _ (s : Session) (kept : List Job) (held : s.jobs ≡ jobs_with kept) where
  kept_step : (job : Job) (room : Bool) → ltb (length kept) 32 ≡ room
      → (cond room (record { session = record { plan = s.plan; jobs = keeping s.jobs job }; text = [] }) (refused s TooManyJobs)).session.jobs
      ≡ jobs_with (cond room (kept ++ job ∷ []) kept)
  kept_step job true room = ap (λ (jobs : Jobs). keeping jobs job) held ∙ kept_behind kept job (ltb-true (length kept) 32 room)
  kept_step job false room = held

  -- a command leaves these jobs
  jobs_step : (c : Command) → (outcome s c).session.jobs ≡ jobs_with (kept_after kept c)
  unfolding outcome
  jobs_step (Command.Keep job) = rw (ap (λ (jobs : Jobs). ltb jobs.count 32) held) (kept_step job (ltb (length kept) 32) refl)
  jobs_step (Command.Load capacity) = refl
  jobs_step (Command.Update id earliest latest) = held
  jobs_step (Command.Fit id) = held
  jobs_step Command.Rows = held
  jobs_step Command.Unreadable = held

  keep_step : (job : Job) (room : Bool)
      → (cond room (record { session = record { plan = s.plan; jobs = keeping s.jobs job }; text = [] }) (refused s TooManyJobs)).session.plan ≡ s.plan
  keep_step job true = refl
  keep_step job false = refl

  -- and this plan
  plan_step : (c : Command) → (outcome s c).session.plan ≡ plan_after s.plan (call_of kept c)
  unfolding outcome
  plan_step (Command.Keep job) = keep_step job (ltb s.jobs.count 32)
  plan_step (Command.Load capacity) = ap (λ (jobs : Jobs). (loaded s.plan jobs capacity).plan) held
  plan_step (Command.Update id earliest latest) = refl
  plan_step (Command.Fit id) = refl
  plan_step Command.Rows = refl
  plan_step Command.Unreadable = refl

calls_joined : (plan : Plan) (calls more : List Call) → plan_after (plan_after plan calls) more ≡ plan_after plan (calls ++ more)
calls_joined plan [] more = refl
calls_joined plan (c ∷ calls) more = calls_joined (plan_after plan (c ∷ [])) calls more

plan_from : (lines : List (List ℕ)) (s : Session) (kept : List Job) → s.jobs ≡ jobs_with kept → (session_after s lines).plan ≡ plan_after s.plan (calls_from kept lines)
unfolding session_after calls_from
plan_from [] s kept held = refl
plan_from (line ∷ lines) s kept held =
    let c = command_of line in
    plan_from lines (outcome s c).session (kept_after kept c) (jobs_step s kept held c)
    ∙ ap (λ (plan : Plan). plan_after plan (calls_from (kept_after kept c) lines)) (plan_step s kept held c)
    ∙ calls_joined s.plan (call_of kept c) (calls_from (kept_after kept c) lines)

pub plan_after_lines : (lines : List (List ℕ)) → (session_after fresh_session lines).plan ≡ plan_after fresh_plan (calls_of lines)
plan_after_lines lines = plan_from lines fresh_session [] refl

-- what lines print behind others is what they print in the session after those
pub printed_behind : (lines more : List (List ℕ)) (s : Session) → printed s (lines ++ more) ≡ printed s lines ++ printed (session_after s lines) more
unfolding printed session_after
printed_behind [] more s = refl
printed_behind (line ∷ lines) more s =
    ap (λ (text : List ℕ). (answered s line).text ++ text) (printed_behind lines more (answered s line).session) ∙ sym (append_assoc (answered s line).text _ _)
