-- What the planner's definitions have a session answer, as replies and not as text.
use Rattle.std.specs.Prelude.{Option, Some, None, Result, Ok, Err, cond, List, [], ◌∷◌, ◌++◌, map, ℕ, ltb, ℤ, pos, length}
use Rattle.planner.specs.declared.Answer.{Answer}
use Rattle.planner.specs.declared.Refusal.{Refusal}
use Rattle.planner.specs.declared.RowRecord.{RowRecord}
use Rattle.planner.specs.declared.Rows.{Rows}
use Rattle.planner.specs.Refusals.{number_of}
use Rattle.planner.specs.Records.{ids_of}
use Rattle.planner.specs.Loads.{loaded}
use Rattle.planner.specs.Updates.{updated}
use Rattle.planner.specs.Questions.{fit_of, rows_shown, records_of}
use Rattle.command.specs.declared.Session.{Session}
use Rattle.command.specs.declared.Command.{Command}
use Rattle.command.specs.Grammar.{command_of}
use Rattle.command.specs.Sessions.{answered}
use Rattle.command.specs.ReadAnswers.{Reply}

abbrev pub refusal_reply : Refusal → Reply
refusal_reply why = Reply.refused (pos (number_of why))

-- `L` and `U`
abbrev pub answer_reply : Result Answer Refusal → RowRecord → Reply
answer_reply (Ok Answer.Fits) r = Reply.fits
answer_reply (Ok Answer.Overloaded) r = Reply.overloaded r.start r.end (pos r.height)
answer_reply (Err why) r = refusal_reply why

-- `P`
abbrev pub fit_reply : Result (Option ℤ) Refusal → Reply
fit_reply (Ok (Some z)) = Reply.starts_at z
fit_reply (Ok None) = Reply.nowhere
fit_reply (Err why) = refusal_reply why

-- `T`: the rows in order, each with its ids in list order, then how many there are
abbrev pub row_reply : RowRecord → Reply
row_reply r = Reply.row r.start r.end (pos r.height) (map pos (ids_of r))

abbrev pub row_replies : Result Rows Refusal → List Reply
row_replies (Ok rows) = map row_reply (records_of rows) ++ Reply.count (pos (length (records_of rows))) ∷ []
row_replies (Err why) = refusal_reply why ∷ []

-- a command; `J` is answered only where 32 jobs are kept already, and a line that cannot be read with 11
unfoldable pub replies_to : Session → Command → List Reply
replies_to s (Command.Keep job) = cond (ltb s.jobs.count 32) [] (refusal_reply Refusal.TooManyJobs ∷ [])
replies_to s (Command.Load capacity) = answer_reply (loaded s.plan s.jobs capacity).answer (loaded s.plan s.jobs capacity).row ∷ []
replies_to s (Command.Update id earliest latest) = answer_reply (updated s.plan id earliest latest).answer (updated s.plan id earliest latest).row ∷ []
replies_to s (Command.Fit id) = fit_reply (fit_of s.plan id) ∷ []
replies_to s Command.Rows = row_replies (rows_shown s.plan)
replies_to s Command.Unreadable = refusal_reply Refusal.Unreadable ∷ []

-- the lines of an input, one after the other
unfoldable pub replies_to_lines : Session → List (List ℕ) → List Reply
replies_to_lines s [] = []
replies_to_lines s (line ∷ lines) = replies_to s (command_of line) ++ replies_to_lines (answered s line).session lines
