-- What a line that says a command prints is the planner's answer to it: `J` prints nothing, or `R 1` where 32 jobs are kept; `L` and `U` print `F`, `O` or
-- `R`, and `P` prints `S`, `N` or `R`, with the numbers of that answer.
-- Assumes nothing.
use mathlib.Core.Path.{◌≡◌, ap, ◌∙◌}
use mathlib.Core.List.{List, []}
use Prim.Native.Nat.{ℕ, ◌≤◌, ◌<◌}
use native.Mathlib.Omega.{arith}
use borrow.Author.Tests.{lt-ltb, le-ltb}
use lib.IntN.{ℤ}
use Rattle.std.specs.Prelude.{Option, Some, None, Result, Ok, Err}
use Rattle.planner.specs.declared.Job.{Job}
use Rattle.planner.specs.declared.RowRecord.{RowRecord}
use Rattle.planner.specs.declared.Answer.{Answer}
use Rattle.planner.specs.declared.Refusal.{Refusal}
use Rattle.planner.specs.Loads.{loaded}
use Rattle.planner.specs.Updates.{updated}
use Rattle.planner.specs.Questions.{fit_of}
use Rattle.command.specs.declared.Session.{Session}
use Rattle.command.specs.declared.Command.{Command}
use Rattle.command.specs.Text.{answer_text, fit_text}
use Rattle.command.specs.Sessions.{outcome, answered}
use Rattle.command.specs.ReadableLines.{Says}
use Rattle.command.specs.PrintedAnswers.{RefusalPrinted, AnswerPrinted, FitPrinted}
use Rattle.command.proofs.ReadableLines.{said_read}
use Rattle.command.proofs.PrintedNumbers.{letter_printed, refusal_printed, overload_printed, start_printed}

answer_printed : (a : Result Answer Refusal) (row : RowRecord) → AnswerPrinted a row (answer_text a row)
unfolding answer_text
answer_printed (Ok Answer.Fits) row = letter_printed 70 (omega arith)
answer_printed (Ok Answer.Overloaded) row = overload_printed row
answer_printed (Err why) row = refusal_printed why

fit_printed : (found : Result (Option ℤ) Refusal) → FitPrinted found (fit_text found)
unfolding fit_text
fit_printed (Ok (Some z)) = start_printed z
fit_printed (Ok None) = letter_printed 78 (omega arith)
fit_printed (Err why) = refusal_printed why

module _ (s : Session) {line : List ℕ} where
  said : {c : Command} → Says line c → (answered s line).text ≡ (outcome s c).text
  said says = ap (λ (c : Command). (outcome s c).text) (said_read says)

  pub job_prints : {job : Job} → Says line (Command.Keep job) → s.jobs.count < 32 → (answered s line).text ≡ []
  unfolding outcome
  job_prints says room = said says ∙ rw (lt-ltb s.jobs.count 32 room)

  pub full_prints : {job : Job} → Says line (Command.Keep job) → 32 ≤ s.jobs.count → RefusalPrinted Refusal.TooManyJobs (answered s line).text
  unfolding outcome
  full_prints says full = rw (said says, le-ltb s.jobs.count 32 full) (refusal_printed Refusal.TooManyJobs)

  pub load_prints : {capacity : ℤ} → Says line (Command.Load capacity)
      → AnswerPrinted (loaded s.plan s.jobs capacity).answer (loaded s.plan s.jobs capacity).row (answered s line).text
  unfolding outcome
  load_prints {capacity} says = let l = loaded s.plan s.jobs capacity in rw (said says) (answer_printed l.answer l.row)

  pub update_prints : {id earliest latest : ℤ} → Says line (Command.Update id earliest latest)
      → AnswerPrinted (updated s.plan id earliest latest).answer (updated s.plan id earliest latest).row (answered s line).text
  unfolding outcome
  update_prints {id} {earliest} {latest} says = let u = updated s.plan id earliest latest in rw (said says) (answer_printed u.answer u.row)

  pub fit_prints : {id : ℤ} → Says line (Command.Fit id) → FitPrinted (fit_of s.plan id) (answered s line).text
  unfolding outcome
  fit_prints {id} says = rw (said says) (fit_printed (fit_of s.plan id))
