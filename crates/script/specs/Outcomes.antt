-- What a command of a script leads to, where a plan and the jobs for its next load are kept: its answer, and the plan and the jobs afterwards.
use Rattle.std.specs.Prelude.{cond, List, [], ltb, ℤ}
use Rattle.planner.specs.declared.Jobs.{Jobs}
use Rattle.planner.specs.declared.Plan.{Plan}
use Rattle.planner.specs.declared.Refusal.TheVariants as refusal
use Rattle.planner.specs.Kept.{jobs_with, keeping}
use Rattle.planner.specs.Loads.{loaded}
use Rattle.planner.specs.Updates.{updated}
use Rattle.planner.specs.Questions.{fit_of, rows_shown}
use Rattle.script.specs.declared.Command.{Command}
use Rattle.script.specs.declared.Command.TheVariants.{Keep, Load, Update, FirstFit, Rows, Unreadable}
use Rattle.script.specs.AnswerNumbers.{refusal_numbers, answer_numbers, fit_numbers, rows_numbers, keep_numbers}

-- the jobs that are kept, up to the 32nd; a load, accepted or not, leaves none
abbrev pub kept_after : Jobs → Command → Jobs
kept_after jobs (Keep job) = cond (ltb jobs.count 32) (keeping jobs job) jobs
kept_after jobs (Load capacity) = jobs_with []
kept_after jobs (Update id earliest latest) = jobs
kept_after jobs (FirstFit id) = jobs
kept_after jobs Rows = jobs
kept_after jobs Unreadable = jobs

-- the plan after a command: a load of the kept jobs, and an update, may change it
abbrev pub plan_after_command : Plan → Jobs → Command → Plan
plan_after_command plan jobs (Keep job) = plan
plan_after_command plan jobs (Load capacity) = (loaded plan jobs capacity).plan
plan_after_command plan jobs (Update id earliest latest) = (updated plan id earliest latest).plan
plan_after_command plan jobs (FirstFit id) = plan
plan_after_command plan jobs Rows = plan
plan_after_command plan jobs Unreadable = plan

-- the numbers of the answer
abbrev pub said : Plan → Jobs → Command → List ℤ
said plan jobs (Keep job) = keep_numbers jobs.count
said plan jobs (Load capacity) = answer_numbers (loaded plan jobs capacity).answer (loaded plan jobs capacity).row
said plan jobs (Update id earliest latest) = answer_numbers (updated plan id earliest latest).answer (updated plan id earliest latest).row
said plan jobs (FirstFit id) = fit_numbers (fit_of plan id)
said plan jobs Rows = rows_numbers (rows_shown plan)
said plan jobs Unreadable = refusal_numbers refusal.Unreadable
