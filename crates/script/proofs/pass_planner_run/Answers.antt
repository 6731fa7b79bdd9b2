-- `pass_planner_run` meets its contract: each turn answers the first command of the rest of the script.
-- Assumes nothing.
use mathlib.Core.Path.{◌≡◌, refl, sym, ap, ◌∙◌, subst}
use mathlib.Core.List.{List, [], ◌∷◌}
use Prim.Native.Nat.{ℕ, ◌+◌, ◌<◌}
use borrow.Author.Tests.{lt-ltb, le-ltb}
use mir.Syntax.{w32}
use mir.Facts.{to_z-of_z}
use lib.IntN.{ℤ}
use lib.ListN.{length, set}
use Rattle.std.proofs.Common.{arith, rules}
use Rattle.std.proofs.lemmas.Bool.Decides.{nat_tests}
use Rattle.planner.specs.declared.Job.{Job}
use Rattle.planner.specs.declared.Jobs.{Jobs}
use Rattle.planner.specs.declared.Plan.{Plan}
use Rattle.planner.specs.declared.Updated.{Updated}
use Rattle.planner.specs.History.{without_places}
use Rattle.planner.specs.Kept.{keeping}
use Rattle.planner.specs.Loads.{loaded}
use Rattle.planner.specs.Sound.{Sound}
use Rattle.planner.specs.Updates.{updated}
use Rattle.script.specs.declared.Command.{Command}
use Rattle.script.specs.declared.Command.TheVariants.{Keep}
use Rattle.script.specs.declared.answers.Writer.{Writer}
use Rattle.script.specs.AnswerNumbers.{answer_numbers, keep_numbers}
use Rattle.script.specs.Outcomes.{kept_after, plan_after_command, said}
use Rattle.script.specs.Pages.{Page, page_of, overlaid, puts}
use Rattle.script.specs.Written.{Written, page}
use Rattle.script.specs.Runs.{answers_of, run}
use Rattle.script.proofs.Pages.{puts_overlaid}
use Rattle.script.proofs.Written.{wrote_none}
use Rattle.script.proofs.Running.{turn}
use Rattle.script.proofs.pass_planner_run.Goals as goal
use Rattle.script.proofs.pass_planner_run.Goals.{After-next_command-command}

pub loop-rest-init : goal.loop-rest-init
unfolding run
loop-rest-init c =
    record { slice = refl; sound = c.fresh.ensures.sound; answered = rw (c.fresh.ensures.value, c.empty-jobs.ensures) refl }

-- what a turn leaves, where the command that was read is answered
turned : (c : After-next_command-command) {after : Writer} {plan' : Plan} {jobs' : Jobs} {found : Command}
    → c.next_command-command.result.0 ≡ found
    → Written c.loop-rest.out (said c.loop-rest.state.plan c.loop-rest.jobs found) after
    → plan' ≡ plan_after_command c.loop-rest.state.plan c.loop-rest.jobs found
    → jobs' ≡ kept_after c.loop-rest.jobs found
    → Sound plan'
    → record {
      slice : after.out.ghost_name ≡ c.new-out.result.out.ghost_name;
      sound : Sound plan';
      answered : puts (page c.new-out.result) (run c.args.script.now) ≡ puts (page after) (answers_of plan' jobs' 0 c.next_command-command.result.1.now);
    }
turned c is wrote led keeps sound =
    let old = c.loop-rest.invariant in
    let read = c.next_command-command.ensures in
    let more : 0 < length c.loop-rest.rest.now = grind (arith, nat_tests) in
    record {
      slice = wrote.slice ∙ old.slice;
      sound = sound;
      answered = turn c.loop-rest.state.plan c.loop-rest.jobs c.loop-rest.rest.now more read.command read.rest is old.answered wrote led keeps;
    }

-- a job that there is room for is kept behind the others
kept_more : (jobs : Jobs) (job : Job) {n : ℕ} → jobs.count < 32 → n ≡ jobs.count + 1 → record { list = set jobs.list jobs.count job; count = n } ≡ kept_after jobs (Keep job)
unfolding keeping
kept_more jobs job room more = rw (lt-ltb _ _ room, more) refl

pub loop-rest-preserved-then-jobs-lt-JOBS : goal.loop-rest-preserved-then-jobs-lt-JOBS
unfolding keep_numbers keeping
loop-rest-preserved-then-jobs-lt-JOBS c =
    let room = lt-ltb _ _ c.if-jobs-lt-JOBS.true in
    let wrote : Written c.loop-rest.out (said c.loop-rest.state.plan c.loop-rest.jobs (Keep c.in-Keep.job)) c.loop-rest.out = rw room (wrote_none _) in
    turned (goal.at.loop-rest-preserved-then-jobs-lt-JOBS c).After-next_command-command c.in-Keep.is wrote refl (kept_more c.loop-rest.jobs c.in-Keep.job c.if-jobs-lt-JOBS.true (omega arith)) c.loop-rest.invariant.sound

pub loop-rest-preserved-in-Keep-2 : goal.loop-rest-preserved-in-Keep-2
unfolding keep_numbers
loop-rest-preserved-in-Keep-2 c =
    let full = le-ltb _ _ c.if-jobs-lt-JOBS.false in
    let wrote : Written c.loop-rest.out (said c.loop-rest.state.plan c.loop-rest.jobs (Keep c.in-Keep-2.field-0)) c.put_refusal.new.self = rw full c.put_refusal.ensures in
    turned (goal.at.loop-rest-preserved-in-Keep-2 c).After-next_command-command c.in-Keep-2.is wrote refl (rw full refl) c.loop-rest.invariant.sound

pub loop-rest-preserved-in-Load : goal.loop-rest-preserved-in-Load
loop-rest-preserved-in-Load c =
    let capacity = to_z-of_z {w = w32} {z = c.in-Load.capacity} (record { sfits = search rules }) in
    let led = c.from-state.ensures ∙ ap without_places (c.load.ensures.value ∙ ap (loaded c.loop-rest.state.plan c.loop-rest.jobs) capacity) in
    turned (goal.at.loop-rest-preserved-in-Load c).After-next_command-command c.in-Load.is
    (subst (λ (u : Updated). Written c.loop-rest.out (answer_numbers u.answer u.row) c.put_answer.new.self) led c.put_answer.ensures)
    (ap (λ (u : Updated). u.plan) led) c.empty-jobs-in-Load.ensures (rw c.from-state.ensures c.load.ensures.sound)

pub loop-rest-preserved-in-Update : goal.loop-rest-preserved-in-Update
loop-rest-preserved-in-Update c =
    let z = c.in-Update in
    let led =
    c.change.ensures.value
    ∙ (λ i.
    updated c.loop-rest.state.plan
    (to_z-of_z {w = w32} {z = z.id} (record { sfits = search rules }) i)
    (to_z-of_z {w = w32} {z = z.earliest} (record { sfits = search rules }) i)
    (to_z-of_z {w = w32} {z = z.latest} (record { sfits = search rules }) i)) in
    turned (goal.at.loop-rest-preserved-in-Update c).After-next_command-command z.is
    (subst (λ (u : Updated). Written c.loop-rest.out (answer_numbers u.answer u.row) c.put_answer-in-Update.new.self) led c.put_answer-in-Update.ensures)
    (ap (λ (u : Updated). u.plan) led) refl c.change.ensures.sound

pub loop-rest-preserved-in-FirstFit : goal.loop-rest-preserved-in-FirstFit
loop-rest-preserved-in-FirstFit c =
    let id = to_z-of_z {w = w32} {z = c.in-FirstFit.id} (record { sfits = search rules }) in
    turned (goal.at.loop-rest-preserved-in-FirstFit c).After-next_command-command c.in-FirstFit.is
    (rw (c.first_fit.ensures, id) at c.put_fit.ensures) refl refl c.loop-rest.invariant.sound

pub loop-rest-preserved-in-Rows : goal.loop-rest-preserved-in-Rows
loop-rest-preserved-in-Rows c =
    turned (goal.at.loop-rest-preserved-in-Rows c).After-next_command-command c.in-Rows.is
    (rw c.rows.ensures.value at c.put_rows.ensures) refl refl c.loop-rest.invariant.sound

pub loop-rest-preserved : goal.loop-rest-preserved
loop-rest-preserved c =
    turned (goal.at.loop-rest-preserved c).After-next_command-command c.in-Unreadable.is
    c.put_refusal-in-Unreadable.ensures refl refl c.loop-rest.invariant.sound

-- nothing is left of the script: the answers are written
done : {all now : Page} (plan : Plan) (jobs : Jobs) (rest : List ℤ) → length rest ≡ 0 → all ≡ puts now (answers_of plan jobs 0 rest) → now ≡ all
unfolding answers_of puts
done plan jobs [] none e = sym e
done plan jobs (x ∷ xs) none e = absurd (omega arith)

pub returns : goal.returns
returns c =
    let answers = run c.args.script.now in
    let none : length c.loop-rest.rest.now ≡ 0 = grind (arith, nat_tests) in
    let all =
    done _ _ _ none c.loop-rest.invariant.answered
    ∙ (λ i. puts (page_of (c.new-out.ensures.unchanged i) (c.new-out.ensures.empty i)) answers)
    ∙ puts_overlaid answers c.args.answers.now in
    let same = c.loop-rest.invariant.slice ∙ c.new-out.ensures.same_slice in
    let now : c.loop-rest.out.out.now ≡ overlaid answers c.args.answers.now = ap (λ (p : Page). p.places) all in
    record { answers_after = search rules; value = ap (λ (p : Page). p.written) all }
