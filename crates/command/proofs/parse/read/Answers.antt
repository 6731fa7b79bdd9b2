-- `read` meets its contract: each letter says what its numbers make of it, and nothing else is read.
-- Assumes nothing.
use Rattle.std.proofs.Common.{◌≡◌, ◌∷◌, [], List, ℕ, ap, ◌∙◌, rules, refl, arith, length}
use mir.Syntax.{w32}
use mir.Val.{SFits}
use mir.Facts.{to_z-of_z}
use Rattle.command.specs.declared.Command.TheVariants.{Unreadable}
use Rattle.command.specs.Grammar.{nth, fields_of, numbers_taken, command_with, asked_by}
use Rattle.command.proofs.LetterNumbers.{unread, read_as, other_letter}
use Rattle.command.proofs.parse.read.Goals as goal

-- a line without bytes
no_bytes : (line : List ℕ) → length line ≡ 0 → Unreadable ≡ asked_by (fields_of line)
unfolding fields_of
no_bytes [] e = refl
no_bytes (b ∷ bs) e = absurd (omega arith)

-- a line whose letter is known
with_letter : {line behind : List ℕ} {b letter : ℕ} → line ≡ b ∷ behind → b ≡ letter → line ≡ letter ∷ behind
with_letter {behind = behind} whole is = whole ∙ ap (λ (b : ℕ). b ∷ behind) is

pub returns-in_err-letter : goal.returns-in_err-letter
returns-in_err-letter c = rw c.from_residual.ensures (no_bytes c.args.line.now c.in_err-letter.ensures.cases)

pub returns-in_err-earliest-in-74 : goal.returns-in_err-earliest-in-74
unfolding numbers_taken
returns-in_err-earliest-in-74 c =
    rw c.from_residual-in_err-earliest-in-74.ensures (unread 74 (with_letter c.in_ok-letter.ensures.cases.0 c.in-74.is) refl c.in_err-earliest-in-74.ensures)

pub returns-in_ok-earliest-in-74 : goal.returns-in_ok-earliest-in-74
unfolding numbers_taken command_with
returns-in_ok-earliest-in-74 c =
    let first : SFits w32 (nth c.in_ok-earliest-in-74.field-0 0) = search rules in
    let second : SFits w32 (nth c.in_ok-earliest-in-74.field-0 1) = search rules in
    let third : SFits w32 (nth c.in_ok-earliest-in-74.field-0 2) = search rules in
    let fourth : SFits w32 (nth c.in_ok-earliest-in-74.field-0 3) = search rules in
    rw (to_z-of_z first, to_z-of_z second, to_z-of_z third, to_z-of_z fourth) (read_as 74 (with_letter c.in_ok-letter.ensures.cases.0 c.in-74.is) refl c.in_ok-earliest-in-74.field-0 c.in_ok-earliest-in-74.ensures)

pub returns-in_err-capacity-in-76 : goal.returns-in_err-capacity-in-76
unfolding numbers_taken
returns-in_err-capacity-in-76 c =
    rw c.from_residual-in_err-capacity-in-76.ensures (unread 76 (with_letter c.in_ok-letter.ensures.cases.0 c.in-76.is) refl c.in_err-capacity-in-76.ensures)

pub returns-in_ok-capacity-in-76 : goal.returns-in_ok-capacity-in-76
unfolding numbers_taken command_with
returns-in_ok-capacity-in-76 c =
    let first : SFits w32 (nth c.in_ok-capacity-in-76.field-0 0) = search rules in
    rw (to_z-of_z first) (read_as 76 (with_letter c.in_ok-letter.ensures.cases.0 c.in-76.is) refl c.in_ok-capacity-in-76.field-0 c.in_ok-capacity-in-76.ensures)

pub returns-in_err-id-in-85 : goal.returns-in_err-id-in-85
unfolding numbers_taken
returns-in_err-id-in-85 c =
    rw c.from_residual-in_err-id-in-85.ensures (unread 85 (with_letter c.in_ok-letter.ensures.cases.0 c.in-85.is) refl c.in_err-id-in-85.ensures)

pub returns-in_ok-id-in-85 : goal.returns-in_ok-id-in-85
unfolding numbers_taken command_with
returns-in_ok-id-in-85 c =
    let first : SFits w32 (nth c.in_ok-id-in-85.field-0 0) = search rules in
    let second : SFits w32 (nth c.in_ok-id-in-85.field-0 1) = search rules in
    let third : SFits w32 (nth c.in_ok-id-in-85.field-0 2) = search rules in
    rw (to_z-of_z first, to_z-of_z second, to_z-of_z third) (read_as 85 (with_letter c.in_ok-letter.ensures.cases.0 c.in-85.is) refl c.in_ok-id-in-85.field-0 c.in_ok-id-in-85.ensures)

pub returns-in_err-id-in-80 : goal.returns-in_err-id-in-80
unfolding numbers_taken
returns-in_err-id-in-80 c =
    rw c.from_residual-in_err-id-in-80.ensures (unread 80 (with_letter c.in_ok-letter.ensures.cases.0 c.in-80.is) refl c.in_err-id-in-80.ensures)

pub returns-in_ok-id-in-80 : goal.returns-in_ok-id-in-80
unfolding numbers_taken command_with
returns-in_ok-id-in-80 c =
    let first : SFits w32 (nth c.in_ok-id-in-80.field-0 0) = search rules in
    rw (to_z-of_z first) (read_as 80 (with_letter c.in_ok-letter.ensures.cases.0 c.in-80.is) refl c.in_ok-id-in-80.field-0 c.in_ok-id-in-80.ensures)

pub returns-in_err-numbers_of-in-84 : goal.returns-in_err-numbers_of-in-84
unfolding numbers_taken
returns-in_err-numbers_of-in-84 c =
    rw c.from_residual-in_err-numbers_of-in-84.ensures (unread 84 (with_letter c.in_ok-letter.ensures.cases.0 c.in-84.is) refl c.in_err-numbers_of-in-84.ensures)

pub returns-in_ok-numbers_of-in-84 : goal.returns-in_ok-numbers_of-in-84
unfolding numbers_taken command_with
returns-in_ok-numbers_of-in-84 c =
    read_as 84 (with_letter c.in_ok-letter.ensures.cases.0 c.in-84.is) refl c.in_ok-numbers_of-in-84.field-0 c.in_ok-numbers_of-in-84.ensures

pub returns-in_default : goal.returns-in_default
returns-in_default c =
    other_letter c.in_ok-letter.letter.now c.in_ok-letter.ensures.cases.0 (λ e. omega arith) (λ e. omega arith) (λ e. omega arith) (λ e. omega arith) (λ e. omega arith)
