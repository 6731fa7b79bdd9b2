-- A session: what each command does to it and prints.
use Rattle.std.specs.Prelude.{Result, cond, List, [], ℕ, ltb, ℤ}
use Rattle.time_table.specs.Held.{Held}
use Rattle.planner.specs.declared.Job.{Job}
use Rattle.planner.specs.declared.Plan.{Plan}
use Rattle.planner.specs.Sound.{Sound}
use Rattle.planner.specs.declared.Answer.{Answer}
use Rattle.planner.specs.declared.RowRecord.{RowRecord}
use Rattle.planner.specs.declared.Refusal.{Refusal}
use Rattle.planner.specs.declared.Refusal.TheVariants.{TooManyJobs}
use Rattle.planner.specs.Answers.{fresh_plan}
use Rattle.planner.specs.Given.{no_job}
use Rattle.planner.specs.Kept.{jobs_with, keeping}
use Rattle.planner.specs.Loads.{jobs_of, loaded}
use Rattle.planner.specs.Updates.{updated}
use Rattle.planner.specs.Questions.{fit_of, rows_shown}
use Rattle.command.specs.declared.Session.{Session}
use Rattle.command.specs.declared.Command.{Command}
use Rattle.command.specs.Grammar.{command_of}
use Rattle.command.specs.Text.{refusal_text, answer_text, fit_text, table_text}

-- a session whose plan is sound and whose jobs are at most 32; only this crate makes sessions, and each that it hands out is ready
pub record Ready (s : Session) : Type 0 where
  pub plan : Sound s.plan
  pub jobs : Held 32 no_job s.jobs.list s.jobs.count (jobs_of s.jobs)

abbrev pub fresh_session : Session
fresh_session = record { plan = fresh_plan; jobs = jobs_with [] }

-- the session afterwards, and what is printed
pub record Outcome : Type 0 where
  pub session : Session
  pub text : List ℕ

abbrev pub refused : Session → Refusal → Outcome
refused s why = record { session = s; text = refusal_text why }

-- `J` keeps a job and prints nothing; a 33rd is refused and isn't kept
abbrev pub kept : Session → Job → Outcome
kept s job =
    cond (ltb s.jobs.count 32)
    (record { session = record { plan = s.plan; jobs = keeping s.jobs job }; text = [] })
    (refused s TooManyJobs)

-- `L` loads the kept jobs and, accepted or not, empties the list
abbrev pub after_load : Plan → Result Answer Refusal → RowRecord → Outcome
after_load plan answer row = record { session = record { plan = plan; jobs = jobs_with [] }; text = answer_text answer row }

abbrev pub loads : Session → ℤ → Outcome
loads s capacity =
    after_load (loaded s.plan s.jobs capacity).plan (loaded s.plan s.jobs capacity).answer (loaded s.plan s.jobs capacity).row

-- `U` updates
abbrev pub updates : Session → ℤ → ℤ → ℤ → Outcome
updates s id earliest latest =
    record {
      session = record { plan = (updated s.plan id earliest latest).plan; jobs = s.jobs };
      text = answer_text (updated s.plan id earliest latest).answer (updated s.plan id earliest latest).row;
    }

-- `P` and `T` ask
abbrev pub asks_fit : Session → ℤ → Outcome
asks_fit s id = record { session = s; text = fit_text (fit_of s.plan id) }

abbrev pub asks_rows : Session → Outcome
asks_rows s = record { session = s; text = table_text (rows_shown s.plan) }

unfoldable pub outcome : Session → Command → Outcome
outcome s (Command.Keep job) = kept s job
outcome s (Command.Load capacity) = loads s capacity
outcome s (Command.Update id earliest latest) = updates s id earliest latest
outcome s (Command.Fit id) = asks_fit s id
outcome s Command.Rows = asks_rows s
outcome s Command.Unreadable = refused s Refusal.Unreadable

-- what a line leads to
abbrev pub answered : Session → List ℕ → Outcome
answered s line = outcome s (command_of line)
