-- `R 11` is printed exactly for a line that cannot be read: each other refusal of a command has a number of one digit, and each other text has another first byte or another length.
-- Assumes nothing.
use mathlib.Core.Path.{◌≡◌, refl, ap}
use mathlib.Core.Bool.{Bool, true, false, cond}
use mathlib.Core.List.{List, [], ◌∷◌, ◌++◌, flat_map}
use mathlib.Core.Logic.Iff
use mathlib.Core.Logic.{◌⊎◌, ◌↔◌, ⊎_elim}
use Prim.Native.Nat.{ℕ, ◌+◌, ◌<◌}
use native.Mathlib.Omega.{arith}
use lib.Dec.{ltb}
use lib.IntN.{ℤ}
use lib.ListN.{length, get_or, length-append}
use Rattle.std.specs.Prelude.{Option, Some, None, Result, Ok, Err}
use Rattle.planner.specs.declared.Answer.{Answer}
use Rattle.planner.specs.declared.Refusal.{Refusal}
use Rattle.planner.specs.declared.RowRecord.{RowRecord}
use Rattle.planner.specs.declared.Rows.{Rows}
use Rattle.planner.specs.Refusals.{number_of, verdict}
use Rattle.planner.specs.Questions.{rows_shown}
use Rattle.planner.proofs.Numbers.{load_numbers, update_numbers, fit_numbers_lem, rows_numbers_lem}
use Rattle.command.specs.declared.Session.{Session}
use Rattle.command.specs.declared.Command.{Command}
use Rattle.command.specs.Decimal.{digits_in, decimal}
use Rattle.command.specs.Grammar.{command_of}
use Rattle.command.specs.ReadableLines.{Says}
use Rattle.command.specs.Text.{count_text, refusal_text, overload_text, answer_text, start_text, fit_text, row_text, rows_text, table_text}
use Rattle.command.specs.Sessions.{Outcome, outcome, answered}
use Rattle.command.proofs.ReadableLines.{unreadable_exactly}
use Rattle.command.proofs.DecimalDigits.{decimal_one}

-- `R 11` and a line feed
abbrev r_11 : List ℕ
r_11 = 82 ∷ 32 ∷ 49 ∷ 49 ∷ 10 ∷ []

r_11_is : refusal_text Refusal.Unreadable ≡ r_11
unfolding refusal_text count_text decimal digits_in
r_11_is = refl

-- a text with another first byte, and a refusal whose number has one digit
first_other : (text : List ℕ) → ¬ (get_or text 0 0 ≡ 82) → ¬ (text ≡ r_11)
first_other text other e = other (ap (λ (l : List ℕ). get_or l 0 0) e)

count_length : (letter n : ℕ) → length (count_text letter n) ≡ length (decimal n) + 3
unfolding count_text
count_length letter n = simp length-append (omega arith)

refusal_other : (why : Refusal) → number_of why < 10 → ¬ (refusal_text why ≡ r_11)
unfolding refusal_text
refusal_other why small e = omega (arith, ap length e, count_length 82 (number_of why), ap length (decimal_one (number_of why) small))

-- a load or an update, and the questions, where they are refused with such numbers
answer_other : (a : Result Answer Refusal) (row : RowRecord) → ((why : Refusal) → a ≡ Err why → number_of why < 10) → ¬ (answer_text a row ≡ r_11)
unfolding answer_text overload_text
answer_other (Ok Answer.Fits) row small = first_other _ (λ h. omega arith)
answer_other (Ok Answer.Overloaded) row small = first_other _ (λ h. omega arith)
answer_other (Err why) row small = refusal_other why (small why refl)

fit_other : (a : Result (Option ℤ) Refusal) → ((why : Refusal) → a ≡ Err why → number_of why < 10) → ¬ (fit_text a ≡ r_11)
unfolding fit_text start_text
fit_other (Ok (Some z)) small = first_other _ (λ h. omega arith)
fit_other (Ok None) small = first_other _ (λ h. omega arith)
fit_other (Err why) small = refusal_other why (small why refl)

rows_other : (rows : List RowRecord) (n : ℕ) → ¬ (rows_text rows ++ count_text 69 n ≡ r_11)
unfolding flat_map row_text count_text
rows_other [] n e = first_other _ (λ h. omega arith) e
rows_other (r ∷ rows) n e = omega (arith, simp length-append at (ap length e))

table_other : (a : Result Rows Refusal) → ((why : Refusal) → a ≡ Err why → number_of why < 10) → ¬ (table_text a ≡ r_11)
unfolding table_text
table_other (Ok rows) small = rows_other _ _
table_other (Err why) small = refusal_other why (small why refl)

-- one of two outcomes, and one of two numbers
either_other : (b : Bool) (o p : Outcome) → ¬ (o.text ≡ r_11) → ¬ (p.text ≡ r_11) → ¬ ((cond b o p).text ≡ r_11)
either_other true o p first second = first
either_other false o p first second = second

either_small : {n a b : ℕ} → a < 10 → b < 10 → (n ≡ a) ⊎ (n ≡ b) → n < 10
either_small p q = ⊎_elim (λ h. omega arith) (λ h. omega arith)

module _ (s : Session) where
  only_unreadable : (c : Command) → (outcome s c).text ≡ r_11 → c ≡ Command.Unreadable
  unfolding outcome
  only_unreadable (Command.Keep job) e =
      absurd (either_other (ltb s.jobs.count 32) _ _ (first_other [] (λ h. omega arith)) (refusal_other Refusal.TooManyJobs (omega arith)) e)
  only_unreadable (Command.Load capacity) e =
      absurd (answer_other _ _ (λ why h. omega (arith, load_numbers s.plan s.jobs capacity (ap verdict h))) e)
  only_unreadable (Command.Update id earliest latest) e =
      absurd (answer_other _ _ (λ why h. ⊎_elim (either_small (omega arith) (omega arith)) (either_small (omega arith) (omega arith)) (update_numbers s.plan id earliest latest (ap verdict h))) e)
  only_unreadable (Command.Fit id) e = absurd (fit_other _ (λ why h. either_small (omega arith) (omega arith) (fit_numbers_lem s.plan id (ap verdict h))) e)
  only_unreadable Command.Rows e = absurd (table_other (rows_shown s.plan) (λ why h. let nine = rows_numbers_lem s.plan (ap verdict h) in omega arith) e)
  only_unreadable Command.Unreadable e = refl

  -- the line says nothing: no letter with its numbers is put together so
  pub line_refused_11 : (line : List ℕ) → ((answered s line).text ≡ 82 ∷ 32 ∷ 49 ∷ 49 ∷ 10 ∷ []) ↔ ((c : Command) → ¬ Says line c)
  unfolding outcome
  line_refused_11 line =
      let unreadable : ((answered s line).text ≡ r_11) ↔ (command_of line ≡ Command.Unreadable) = (λ e. only_unreadable (command_of line) e, λ h. rw h r_11_is) in
      Iff.trans unreadable (unreadable_exactly line)
