-- The loads and updates that some lines make of a fresh plan, and the session after them.
use Rattle.std.specs.Prelude.{cond, List, [], ◌∷◌, ◌++◌, ℕ, ltb, length}
use Rattle.planner.specs.declared.Job.{Job}
use Rattle.planner.specs.Kept.{jobs_with}
use Rattle.planner.specs.History.{Call, load, update}
use Rattle.command.specs.declared.Session.{Session}
use Rattle.command.specs.declared.Command.{Command}
use Rattle.command.specs.Grammar.{command_of}
use Rattle.command.specs.Sessions.{answered}

-- a session after some lines
unfoldable pub session_after : Session → List (List ℕ) → Session
session_after s [] = s
session_after s (line ∷ lines) = session_after (answered s line).session lines

-- the jobs that are kept for the next load: `J` puts one behind the others up to the 32nd, `L` empties the list
abbrev pub kept_after : List Job → Command → List Job
kept_after kept (Command.Keep job) = cond (ltb (length kept) 32) (kept ++ job ∷ []) kept
kept_after kept (Command.Load capacity) = []
kept_after kept (Command.Update id earliest latest) = kept
kept_after kept (Command.Fit id) = kept
kept_after kept Command.Rows = kept
kept_after kept Command.Unreadable = kept

-- `L` is a load of the kept jobs, `U` is an update, and nothing else changes the plan
abbrev pub call_of : List Job → Command → List Call
call_of kept (Command.Keep job) = []
call_of kept (Command.Load capacity) = load (jobs_with kept) capacity ∷ []
call_of kept (Command.Update id earliest latest) = update id earliest latest ∷ []
call_of kept (Command.Fit id) = []
call_of kept Command.Rows = []
call_of kept Command.Unreadable = []

unfoldable pub calls_from : List Job → List (List ℕ) → List Call
calls_from kept [] = []
calls_from kept (line ∷ lines) = call_of kept (command_of line) ++ calls_from (kept_after kept (command_of line)) lines

-- the calls of all lines of an input, in order
abbrev pub calls_of : List (List ℕ) → List Call
calls_of lines = calls_from [] lines
