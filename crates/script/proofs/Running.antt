-- A run, command by command: a script is answered by its first command, and then by what follows the command.
-- Assumes nothing.
use mathlib.Core.Path.{◌≡◌, refl, sym, ap, ◌∙◌}
use mathlib.Core.List.{List, [], ◌∷◌, ◌++◌}
use Prim.Native.Nat.{ℕ, zero, suc, ◌+◌, ◌-◌, ◌<◌}
use native.Mathlib.Omega.{arith}
use native.Mathlib.Numerals.{add-one}
use lib.IntN.{ℤ}
use lib.ListN.{length, drop}
use Rattle.planner.specs.declared.Jobs.{Jobs}
use Rattle.planner.specs.declared.Plan.{Plan}
use Rattle.script.specs.declared.Command.{Command}
use Rattle.script.specs.declared.answers.Writer.{Writer}
use Rattle.script.specs.Commands.{command_at, arguments_of}
use Rattle.script.specs.Pages.{Page, puts}
use Rattle.script.specs.Written.{Written, page}
use Rattle.script.specs.Outcomes.{kept_after, plan_after_command, said}
use Rattle.script.specs.Runs.{answers_of}
use Rattle.script.proofs.Pages.{puts_append}

-- numbers of the command before are passed over
skipped : (plan : Plan) (jobs : Jobs) (k : ℕ) (l : List ℤ) → answers_of plan jobs k l ≡ answers_of plan jobs 0 (drop k l)
unfolding answers_of
skipped plan jobs zero l = refl
skipped plan jobs (suc k) [] = refl
skipped plan jobs (suc k) (x ∷ xs) = skipped plan jobs k xs

-- what follows a command that a script starts with
abbrev pub behind : Command → List ℤ → List ℤ
behind c script = drop (arguments_of c (length script - 1) + 1) script

-- the answer to a first command, and then to what follows it
abbrev split : Plan → Jobs → List ℤ → Command → List ℤ
split plan jobs script c = said plan jobs c ++ answers_of (plan_after_command plan jobs c) (kept_after jobs c) 0 (behind c script)

first : (plan : Plan) (jobs : Jobs) (script : List ℤ) → 0 < length script → answers_of plan jobs 0 script ≡ split plan jobs script (command_at script)
unfolding answers_of
first plan jobs [] more = absurd (omega arith)
first plan jobs (x ∷ xs) more =
    let c = command_at (x ∷ xs) in
    let plan' = plan_after_command plan jobs c in
    let jobs' = kept_after jobs c in
    let same : length xs ≡ length (x ∷ xs) - 1 = omega arith in
    ap (λ (l : List ℤ). said plan jobs c ++ l)
    (skipped plan' jobs' (arguments_of c (length xs)) xs
    ∙ ap (λ (n : ℕ). answers_of plan' jobs' 0 (drop n (x ∷ xs))) (sym (add-one _) ∙ ap (λ (n : ℕ). arguments_of c n + 1) same))

-- a turn: the first command is answered, and what is left to be answered is what follows it
pub turn : {all : Page} {before after : Writer} (plan : Plan) {plan' : Plan} (jobs : Jobs) {jobs' : Jobs} (script : List ℤ) {rest : List ℤ} {c found : Command}
    → 0 < length script → c ≡ command_at script → rest ≡ behind c script → c ≡ found
    → all ≡ puts (page before) (answers_of plan jobs 0 script)
    → Written before (said plan jobs found) after
    → plan' ≡ plan_after_command plan jobs found
    → jobs' ≡ kept_after jobs found
    → all ≡ puts (page after) (answers_of plan' jobs' 0 rest)
turn {before = before} plan jobs script {found = found} more first-is rest-is is all-is wrote led keeps =
    all-is
    ∙ ap (puts (page before)) (first plan jobs script more ∙ ap (split plan jobs script) (sym first-is ∙ is))
    ∙ puts_append (page before) (said plan jobs found) _
    ∙ (λ i. puts (sym wrote.page i) (answers_of (sym led i) (sym keeps i) 0 (sym (rest-is ∙ ap (λ (x : Command). behind x script) is) i)))
