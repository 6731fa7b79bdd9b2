-- A letter and what stands behind it: what the letter makes of as many numbers as it takes.
-- Assumes nothing.
use Rattle.std.proofs.Common.{◌≡◌, ℕ, true, false, cond, Bool, List, [], ◌∷◌, ◌∙◌, length, refl, sym, ap, Option, Some, None}
use borrow.Author.Tests.{ne_eqb}
use lib.Dec.{eqb}
use lib.IntN.{ℤ}
use Rattle.command.specs.declared.Command.{Command}
use Rattle.command.specs.declared.Command.TheVariants.{Unreadable}
use Rattle.command.specs.Grammar.{in_first, fields_of, values_behind, values_of, counted, numbers_taken, command_with, by_letter, asked, asked_by}

-- what a letter says with as many numbers as it takes, or with none such
abbrev pub said : ℕ → Option (List ℤ) → Command
said letter (Some l) = command_with letter l
said letter None = Unreadable

said_counted : (letter : ℕ) (v : Option (List ℤ)) → asked letter v ≡ said letter (counted (numbers_taken letter) v)
unfolding by_letter
said_counted letter (Some l) = go (eqb (length l) (numbers_taken letter))
  where
    go : (t : Bool) → cond t (command_with letter l) Unreadable ≡ said letter (cond t (Some l) None)
    go true = refl
    go false = refl
said_counted letter None = refl

asked_behind : (letter : ℕ) (fs : List (List ℕ)) → asked_by (in_first letter fs) ≡ asked letter (values_behind fs)
unfolding values_of
asked_behind letter [] = refl
asked_behind letter ([] ∷ fs) = refl
asked_behind letter ((b ∷ bs) ∷ fs) = refl

module _ {line behind : List ℕ} (letter : ℕ) (whole : line ≡ letter ∷ behind) (dark : eqb letter 32 ≡ false) where
  said_line : asked_by (fields_of line) ≡ said letter (counted (numbers_taken letter) (values_behind (fields_of behind)))
  unfolding fields_of
  said_line = rw (whole, dark) (asked_behind letter (fields_of behind) ∙ said_counted letter (values_behind (fields_of behind)))

  pub unread : None ≡ counted (numbers_taken letter) (values_behind (fields_of behind)) → Unreadable ≡ asked_by (fields_of line)
  unread none = sym (said_line ∙ ap (said letter) (sym none))

  pub read_as : (l : List ℤ) → Some l ≡ counted (numbers_taken letter) (values_behind (fields_of behind)) → command_with letter l ≡ asked_by (fields_of line)
  read_as l some = sym (said_line ∙ ap (said letter) (sym some))

-- a letter that is none of the five says nothing
no_command : (letter : ℕ) (v : Option (List ℤ)) → ¬ (letter ≡ 74) → ¬ (letter ≡ 76) → ¬ (letter ≡ 85) → ¬ (letter ≡ 80) → ¬ (letter ≡ 84) → Unreadable ≡ asked letter v
unfolding by_letter command_with
no_command letter None j l u p t = refl
no_command letter (Some zs) j l u p t =
    simp (ne_eqb letter 74 j, ne_eqb letter 76 l, ne_eqb letter 85 u, ne_eqb letter 80 p, ne_eqb letter 84 t) (go (eqb (length zs) (numbers_taken letter)))
  where
    go : (test : Bool) → Unreadable ≡ cond test Unreadable Unreadable
    go true = refl
    go false = refl

pub other_letter : {line behind : List ℕ} (letter : ℕ) → line ≡ letter ∷ behind → ¬ (letter ≡ 74) → ¬ (letter ≡ 76) → ¬ (letter ≡ 85) → ¬ (letter ≡ 80) → ¬ (letter ≡ 84)
    → Unreadable ≡ asked_by (fields_of line)
unfolding fields_of
other_letter {line} {behind} letter whole j l u p t = rw whole (go (eqb letter 32))
  where
    go : (space : Bool) → Unreadable ≡ asked_by (cond space ([] ∷ fields_of behind) (in_first letter (fields_of behind)))
    go true = refl
    go false = no_command letter (values_behind (fields_of behind)) j l u p t ∙ sym (asked_behind letter (fields_of behind))
