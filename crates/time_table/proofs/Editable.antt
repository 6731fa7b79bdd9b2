-- What a proof follows along an update: which edits lead from what runs to what runs, and that each of them can be made.
-- Assumes nothing.
use mathlib.Core.Path.{◌≡◌}
use mathlib.Core.List.{List, [], ◌∷◌}
use Prim.Native.Nat.{ℕ}
use Rattle.time_table.specs.declared.Row.{Row}
use Rattle.time_table.specs.declared.Part.{Part}
use Rattle.time_table.specs.Meaning.{Runs, Right, Within, PartOf, With}

-- what an insertion does to what runs, and a removal
abbrev pub Puts : Part → Runs → Runs → Type 0
Puts p runs next = With p runs next

abbrev pub Takes : Part → Runs → Runs → Type 0
Takes p runs next = With p next runs

-- one edit, after which R goes on
pub record Edit (E : Part → Runs → Runs → Type 0) (usage : ℕ → ℕ) (runs : Runs) (p : Part) (R : Runs → Type 0) : Type 0 where
  pub next : Runs
  pub of : PartOf usage p
  pub goes : E p runs next
  pub within : Within next usage
  pub rest : R next

-- edits by these parts, one after another, lead from `runs` to `last`
abbrev pub Steps : (Part → Runs → Runs → Type 0) → (ℕ → ℕ) → Runs → List Part → Runs → Type 0
Steps E usage runs [] last = (i t : ℕ) → runs i t ≡ last i t
Steps E usage runs (p ∷ ps) last = Edit E usage runs p (λ (next : Runs). Steps E usage next ps last)

-- rows that are right, and edits of them by the parts that an update removes, and then by those that it adds
pub record Editable (outs ins : List Part) (rows : List Row) : Type 0 where
  pub runs : Runs
  pub mid : Runs
  pub last : Runs
  pub usage : ℕ → ℕ
  pub right : Right runs usage rows
  pub within : Within runs usage
  pub removes : Steps Takes usage runs outs mid
  pub between : Within mid usage
  pub adds : Steps Puts usage mid ins last
