-- Numbers that are written to a lent slice, behind those that were written before.
use Rattle.std.specs.Prelude.{◌≡◌, List, ℤ}
use Rattle.script.specs.declared.answers.Writer.{Writer}
use Rattle.script.specs.Pages.{Page, page_of, puts}

-- the places of the slice, and how many of them are written
abbrev pub page : Writer → Page
page w = page_of w.out.now w.len

-- the writer once the numbers are written, as far as there is room: it has the same slice, and its page is that before with the numbers put behind
pub record Written (before : Writer) (numbers : List ℤ) (after : Writer) : Type 0 where
  pub slice : after.out.ghost_name ≡ before.out.ghost_name
  pub page : page after ≡ puts (page before) numbers
