-- A table that is built row by row: what is done and what is left make up the whole.
-- Assumes nothing.
use mathlib.Core.Path.{◌≡◌, sym, ◌∙◌}
use mathlib.Core.List.{List, [], ◌++◌, append_assoc, append-nil}
use Prim.Native.Nat.{ℕ}
use Rattle.time_table.specs.declared.Row.{Row}
use Rattle.time_table.specs.Held.{Held}
use Rattle.time_table.specs.Rows.{empty_row}
use Rattle.time_table.proofs.Held.{held_as}

-- of the rows `whole`, the first n are built, and `rest` is still to come
pub record Built (whole rest rows : List Row) (n : ℕ) : Type 0 where
  pub done : List Row
  pub held : Held 128 empty_row rows n done
  pub joins : done ++ rest ≡ whole

module _ {whole rows : List Row} {n : ℕ} where
  pub built_more : {rest rows' : List Row} {n' : ℕ} (xs rest' : List Row) → Built whole rest rows n → rest ≡ xs ++ rest'
      → ((l : List Row) → Held 128 empty_row rows n l → Held 128 empty_row rows' n' (l ++ xs)) → Built whole rest' rows' n'
  built_more xs rest' b e more =
      record { done = b.done ++ xs; held = more b.done b.held; joins = append_assoc b.done xs rest' ∙ rw (← e) b.joins }

  pub built_all : {rest : List Row} → Built whole rest rows n → rest ≡ [] → Held 128 empty_row rows n whole
  built_all b e = held_as b.held (sym (append-nil b.done) ∙ rw (← e) b.joins)
