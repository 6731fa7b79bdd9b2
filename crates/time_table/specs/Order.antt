-- Rows that are sorted and disjoint.
use Rattle.std.specs.Prelude.{List, [], ◌∷◌, ℕ, ◌+◌, ◌-◌, ◌≤◌, ◌<◌, ◌^◌}
use Rattle.time_table.specs.declared.Row.{Row}
use Rattle.time_table.specs.declared.Table.{Table}
use Rattle.time_table.specs.Rows.{rows_of, Clean}

-- every row of a list
unfoldable pub Each : (Row → Type 0) → List Row → Type 0
Each P [] = Unit {0}
Each P (r ∷ rs) = P r × Each P rs

-- the rows begin at `lo` or later and end before `hi`, are in order, none empty, and none meets another
unfoldable pub Ordered : ℕ → ℕ → List Row → Type 0
Ordered hi lo [] = Unit {0}
Ordered hi lo (r ∷ rs) = (lo ≤ r.start) × (r.start ≤ r.end) × (r.end < hi) × Ordered hi (r.end + 1) rs

-- no instant is the last tick, so that the one after a row's end is a tick too
abbrev pub ticks : ℕ
ticks = 2 ^ 32 - 1

-- a table whose unused places are empty and whose rows are sorted and disjoint
pub record Arranged (t : Table) : Type 0 where
  pub clean : Clean t
  pub ordered : Ordered ticks 0 (rows_of t)
