-- What it is to fit, instant by instant, and to be the first fit.
use Rattle.std.specs.Prelude.{◌≡◌, Option, Some, None, List, ℕ, ◌+◌, ◌≤◌, ◌<◌}
use Rattle.time_table.specs.declared.Row.{Row}
use Rattle.time_table.specs.Meaning.{height_at}
use Rattle.fit.specs.declared.Asked.{Asked}

-- at every instant of the run from s, table height plus the task's usage is at most the capacity (height is 0 where no row is)
abbrev pub Fits : List Row → ℕ → Asked → ℕ → Type 0
Fits rows capacity asked s = (t : ℕ) → s ≤ t → t < s + asked.run → height_at t rows + asked.usage ≤ capacity

-- s is a start within the task's bounds at which the run fits
pub record IsFit (rows : List Row) (capacity : ℕ) (asked : Asked) (s : ℕ) : Type 0 where
  pub early : asked.earliest ≤ s
  pub late : s ≤ asked.latest
  pub fits : Fits rows capacity asked s

-- s is the smallest such start
pub record IsFirst (rows : List Row) (capacity : ℕ) (asked : Asked) (s : ℕ) : Type 0 where
  pub fit : IsFit rows capacity asked s
  pub least : (s' : ℕ) → IsFit rows capacity asked s' → s ≤ s'

-- there is no such start
abbrev pub NoFit : List Row → ℕ → Asked → Type 0
NoFit rows capacity asked = (s : ℕ) → IsFit rows capacity asked s → ⊥

-- the answer is the first fit: the smallest such start, or none if there is no such start
pub record IsFirstFit (rows : List Row) (capacity : ℕ) (asked : Asked) (f : Option ℕ) : Type 0 where
  pub some : (s : ℕ) → f ≡ Some s → IsFirst rows capacity asked s
  pub none : f ≡ None → NoFit rows capacity asked
