-- The first row that is higher than the capacity, if there is one; and the greatest height.
use Rattle.std.specs.Prelude.{cond, ◌≡◌, List, [], ◌∷◌, ℕ, ◌≤◌, ◌<◌, max, ltb, length, Option, None, Some}
use Rattle.time_table.specs.declared.Row.{Row}
use Rattle.time_table.specs.Rows.{row_at}
use Rattle.time_table.specs.Meaning.{height_at}

unfoldable pub conflict_in : ℕ → List Row → Option Row
conflict_in capacity [] = None
conflict_in capacity (r ∷ rs) = cond (ltb capacity r.height) (Some r) (conflict_in capacity rs)

-- the greatest height
unfoldable pub highest : List Row → ℕ
highest [] = 0
highest (r ∷ rs) = max r.height (highest rs)

-- r is the earliest row that is higher than the capacity
pub record FirstOver (capacity : ℕ) (rows : List Row) (r : Row) : Type 0 where
  pub at : ℕ
  pub within : at < length rows
  pub is : r ≡ row_at rows at
  pub over : capacity < r.height
  pub first : (k : ℕ) → k < at → (row_at rows k).height ≤ capacity

-- r, which starts at `lo` or later, is higher than the capacity, and starts at the first instant at which the rows are
pub record FirstInstantOver (capacity lo : ℕ) (rows : List Row) (r : Row) : Type 0 where
  pub after : lo ≤ r.start
  pub high : capacity < r.height
  pub height : height_at r.start rows ≡ r.height
  pub before : (t : ℕ) → t < r.start → height_at t rows ≤ capacity

-- no row is higher than the capacity
abbrev pub NoneOver : ℕ → List Row → Type 0
NoneOver capacity rows = (k : ℕ) → k < length rows → (row_at rows k).height ≤ capacity
