-- Text that is written to a lent slice, behind what was written before.
use Rattle.std.specs.Prelude.{◌≡◌, List, ℕ, ◌+◌, ◌≤◌, length}
use Rattle.std.proofs.lemmas.List.Edits.{sets}
use Rattle.command.specs.declared.text.Writer.{Writer}

-- the slice has room for so many more bytes
abbrev pub Room : Writer → ℕ → Type 0
Room w n = w.len + n ≤ length w.out.now

-- the writer once the text is written: it has the same slice, the text stands in it behind what was written before, and all else is as it was
pub record Written (before : Writer) (text : List ℕ) (after : Writer) : Type 0 where
  pub slice : after.out.ghost_name ≡ before.out.ghost_name
  pub bytes : after.out.now ≡ sets before.out.now before.len text
  pub place : after.len ≡ before.len + length text
  pub fits : after.len ≤ length before.out.now
