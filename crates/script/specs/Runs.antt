-- A run: the answers to the commands of a script, one after another, from a fresh plan on and with no jobs kept.
use Rattle.std.specs.Prelude.{List, [], ◌∷◌, ◌++◌, ℕ, zero, suc, ℤ, length}
use Rattle.planner.specs.declared.Jobs.{Jobs}
use Rattle.planner.specs.declared.Plan.{Plan}
use Rattle.planner.specs.Answers.{fresh_plan}
use Rattle.planner.specs.Kept.{jobs_with}
use Rattle.script.specs.Commands.{command_at, arguments_of}
use Rattle.script.specs.Outcomes.{kept_after, plan_after_command, said}

-- the answers to a script of which the first numbers, so many, belong to the command before
unfoldable pub answers_of : Plan → Jobs → ℕ → List ℤ → List ℤ
answers_of plan jobs k [] = []
answers_of plan jobs (suc k) (x ∷ xs) = answers_of plan jobs k xs
answers_of plan jobs zero (x ∷ xs) =
    let c = command_at (x ∷ xs) in
    said plan jobs c ++ answers_of (plan_after_command plan jobs c) (kept_after jobs c) (arguments_of c (length xs)) xs

unfoldable pub run : List ℤ → List ℤ
run script = answers_of fresh_plan (jobs_with []) 0 script
