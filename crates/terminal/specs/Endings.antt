-- The exit status of a program that ends so, and what it says of that.
use Rattle.std.specs.Prelude.{◌≡◌, ℕ, ℤ, pos, List, codes}
use Rattle.terminal.specs.declared.Ending.{Ending}

-- 0 if all input was answered, 1 if some of it was not read, 2 if an answer could not be written
abbrev pub status_of : Ending → ℤ
status_of Ending.Over = pos 0
status_of Ending.Unread = pos 1
status_of Ending.Unwritten = pos 2

-- a number that is the status of an ending
pub record Status (z : ℤ) : Type 0 where
  pub ending : Ending
  pub is : z ≡ status_of ending

-- the sentence for an ending
abbrev pub sentence_of : Ending → List ℕ
sentence_of Ending.Over = codes "all input was answered"
sentence_of Ending.Unread = codes "standard input could not be read"
sentence_of Ending.Unwritten = codes "an answer could not be written"
