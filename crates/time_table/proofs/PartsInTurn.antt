-- Parts applied one after another: rows that are right stay right with each.
-- Assumes nothing.
use mathlib.Core.Path.{◌≡◌}
use mathlib.Core.List.{List, ◌∷◌, []}
use Prim.Native.Nat.{ℕ}
use Rattle.time_table.specs.declared.Row.{Row}
use Rattle.time_table.specs.declared.Part.{Part}
use Rattle.time_table.specs.Update.{after}
use Rattle.time_table.specs.Meaning.{Runs, Right, Within, PartOf}
use Rattle.time_table.proofs.Editable.{Steps}

pub right_as : (a b : Runs) (usage : ℕ → ℕ) (rows : List Row) → ((i t : ℕ) → a i t ≡ b i t) → Right a usage rows → Right b usage rows
right_as a b usage rows e right = record { ordered = right.ordered; sound = right.sound; exact = λ t i. rw (← (e i t)) (right.exact t i) }

-- an edit that keeps rows right
module _ (E : Part → Runs → Runs → Type 0) (edit : Part → List Row → List Row)
    (keeps : (runs next : Runs) (usage : ℕ → ℕ) (rows : List Row) → Right runs usage rows → Within runs usage → (p : Part) → PartOf usage p → E p runs next → Right next usage (edit p rows)) where
  pub edits_right : (usage : ℕ → ℕ) (last : Runs) (ps : List Part) (runs : Runs) (rows : List Row) → Steps E usage runs ps last → Within runs usage → Right runs usage rows
      → Right last usage (after edit ps rows)
  unfolding after
  edits_right usage last [] runs rows s within right = right_as runs last usage rows s right
  edits_right usage last (p ∷ ps) runs rows s within right =
      edits_right usage last ps s.next _ s.rest s.within (keeps runs s.next usage rows right within p s.of s.goes)
