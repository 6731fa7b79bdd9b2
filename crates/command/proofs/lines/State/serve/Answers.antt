-- `State::serve` meets its contract: each byte makes the line longer or, as a line feed, has it answered, and the bytes to come lead to the same as at the
-- start.
-- Assumes nothing.
use mathlib.Core.Path.{◌≡◌, refl, sym, ap, ◌∙◌}
use mathlib.Core.List.{[]}
use mir.Syntax.{w32}
use mir.Val.{SFits}
use mir.Facts.{to_z-of_z}
use lib.ListN.{length, take, drop, length-drop}
use Rattle.planner.specs.Loads.{loaded}
use Rattle.planner.specs.Updates.{updated}
use Rattle.planner.specs.History.{without_places}
use Rattle.command.specs.declared.Session.{Session}
use Rattle.command.specs.Grammar.{command_of}
use Rattle.command.specs.Lines.{served}
use Rattle.command.proofs.LineBytes.{reader_is}
use Rattle.command.proofs.CommandOutcomes.{keep_answered, full_answered, load_answered, update_answered, fit_answered, rows_answered, unread_answered, no_jobs_held, keeping_held}
use Rattle.command.proofs.WrittenText.{written_length, written_none, written_at}
use Rattle.command.proofs.ServedLines.{bytes_from, serving_byte, serving_line, serving_over, serving_full, serving_done}
use borrow.Author.Rules.{rules}
use native.Mathlib.Omega.{arith}
use Rattle.command.proofs.lines.State.serve.Invariants.{from_start}
use Rattle.command.proofs.lines.State.serve.Goals as goal
use Rattle.command.proofs.lines.State.serve.Goals.{in-Keep, in-Keep-2, in-Load, in-Update, in-Fit, in-Rows, in-Unreadable, else-loop-byte-test, then-loop-byte-test+then-answers}

pub loop-byte-init : goal.loop-byte-init
loop-byte-init c =
    record {
      place = omega arith;
      serving =
          record {
            text = [];
            front = c.new-answers.ensures.empty;
            wrote = written_none c.new-answers.result (omega (arith, c.new-answers.ensures.empty));
            leads = ap (from_start c.unwrap_or-byte-items.result.now c.args.from c.new-answers.result.out.now c.args.self.session.plan c.args.self.session.jobs) (reader_is c.requires.ready_state.reader);
            ready = c.requires.ready_state.session;
            held = c.requires.ready_state.reader;
          };
    }

pub overflow_add-next : goal.overflow_add-next
overflow_add-next c =
    let items : c.unwrap_or-byte-items.result.now ≡ drop c.args.from c.args.chunk.now =
    rw c.unwrap_or-byte-items.ensures (bytes_from c.args.chunk.now c.args.from c.get.result _ c.get.ensures.lookup refl) in
    omega (arith, ap length items, length-drop c.args.from c.args.chunk.now)

pub loop-byte-preserved-then-byte-ne10 : goal.loop-byte-preserved-then-byte-ne10
loop-byte-preserved-then-byte-ne10 c =
    let v = c.loop-byte.invariant.serving in
    record {
      place = omega arith;
      serving = serving_byte v c.loop-byte-test.true c.if-answers.false c.if-byte-ne10.true c.push.ensures;
    }

pub loop-byte-preserved : goal.loop-byte-preserved
loop-byte-preserved c =
    let v = c.loop-byte.invariant.serving in
    let s : Session = record { plan = c.loop-byte.last.plan; jobs = c.loop-byte.jobs } in
    let line = take c.loop-byte.reader.len c.loop-byte.reader.line in
    let asked : c.command_of-command.result ≡ command_of line = c.command_of-command.ensures ∙ ap command_of c.bytes.ensures in
    record {
      place = omega arith;
      serving =
          elim c.match-command.branch [
            | in-Keep w ↦
                rw (c.empty-reader.ensures, w.answers-is, w.last-is, w.jobs-is)
                (serving_line v c.loop-byte-test.true c.if-answers.false c.if-byte-ne10.false
                (keep_answered s line asked w.in-Keep.is w.if-jobs-lt-JOBS.true w.keep-jobs.ensures)
                (written_none c.loop-byte.answers (omega (arith, v.wrote.fits, written_length v.wrote)))
                (record { plan = v.ready.plan; jobs = rw w.keep-jobs.ensures (keeping_held s.jobs _ v.ready.jobs w.if-jobs-lt-JOBS.true) }))
            | in-Keep-2 w ↦
                rw (c.empty-reader.ensures, w.answers-is, w.last-is, w.jobs-is)
                (serving_line v c.loop-byte-test.true c.if-answers.false c.if-byte-ne10.false
                (full_answered s line asked w.in-Keep-2.is w.if-jobs-lt-JOBS.false)
                w.put_refusal.ensures
                v.ready)
            | in-Load w ↦
                let fits : SFits w32 w.in-Load.capacity = search rules in
                let led : w.from-last.result ≡ without_places (loaded s.plan s.jobs w.in-Load.capacity) =
                w.from-last.ensures ∙ ap without_places (w.load.ensures.value ∙ ap (loaded s.plan s.jobs) (to_z-of_z fits)) in
                rw (c.empty-reader.ensures, w.answers-is, w.last-is, w.jobs-is)
                (serving_line v c.loop-byte-test.true c.if-answers.false c.if-byte-ne10.false
                (load_answered s line asked w.in-Load.is led w.empty-jobs.ensures)
                w.put_answer.ensures
                (record { plan = rw w.from-last.ensures w.load.ensures.sound; jobs = rw w.empty-jobs.ensures no_jobs_held }))
            | in-Update w ↦
                let id : SFits w32 w.in-Update.id = search rules in
                let earliest : SFits w32 w.in-Update.earliest = search rules in
                let latest : SFits w32 w.in-Update.latest = search rules in
                let led : w.change.new.self ≡ updated s.plan w.in-Update.id w.in-Update.earliest w.in-Update.latest =
                w.change.ensures.value ∙ (λ i. updated s.plan (to_z-of_z id i) (to_z-of_z earliest i) (to_z-of_z latest i)) in
                rw (c.empty-reader.ensures, w.answers-is, w.last-is, w.jobs-is)
                (serving_line v c.loop-byte-test.true c.if-answers.false c.if-byte-ne10.false
                (update_answered s line asked w.in-Update.is led)
                w.put_answer-in-Update.ensures
                (record { plan = w.change.ensures.sound; jobs = v.ready.jobs }))
            | in-Fit w ↦
                let fits : SFits w32 w.in-Fit.id = search rules in
                rw (c.empty-reader.ensures, w.answers-is, w.last-is, w.jobs-is)
                (serving_line v c.loop-byte-test.true c.if-answers.false c.if-byte-ne10.false
                (fit_answered s line asked w.in-Fit.is)
                (written_at (rw (w.first_fit.ensures, to_z-of_z fits) at w.put_fit.ensures) (omega arith))
                v.ready)
            | in-Rows w ↦
                rw (c.empty-reader.ensures, w.answers-is, w.last-is, w.jobs-is)
                (serving_line v c.loop-byte-test.true c.if-answers.false c.if-byte-ne10.false
                (rows_answered s line asked w.in-Rows.is)
                (written_at (rw w.rows.ensures.value at w.put_table.ensures) (omega arith))
                v.ready)
            | in-Unreadable w ↦
                rw (c.empty-reader.ensures, w.answers-is, w.last-is, w.jobs-is)
                (serving_line v c.loop-byte-test.true c.if-answers.false c.if-byte-ne10.false
                (unread_answered s line asked w.in-Unreadable.is)
                w.put_refusal-in-Unreadable.ensures
                v.ready)
          ];
    }

pub returns : goal.returns
returns c =
    let v = c.loop-byte.invariant.serving in
    let items : c.unwrap_or-byte-items.result.now ≡ drop c.args.from c.args.chunk.now =
    rw c.unwrap_or-byte-items.ensures (bytes_from c.args.chunk.now c.args.from c.get.result _ c.get.ensures.lookup refl) in
    let same = ap (served (length c.new-answers.result.out.now) c.args.self c.args.from) (sym items) in
    let slice = sym (v.wrote.slice ∙ c.new-answers.ensures.same_slice) in
    record {
      serves =
          serving_done v same
          (elim c.loop-byte-test.branch [
            | else-loop-byte-test w ↦ serving_over v w.loop-byte-test.false
            | then-loop-byte-test+then-answers w ↦ serving_full v w.if-answers.true
          ])
          c.new-answers.ensures.unchanged
          (search rules);
      ready_state_2 = record { session = v.ready; reader = v.held };
    }
