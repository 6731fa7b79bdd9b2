-- First fit, computed row by row: a row that meets the run from the candidate and is too high moves the candidate behind itself.
use Rattle.std.specs.Prelude.{Bool, cond, ◌&&◌, Option, Some, None, List, [], ◌∷◌, ℕ, ◌+◌, ◌<◌, ◌^◌, ltb, leb}
use Rattle.time_table.specs.declared.Row.{Row}
use Rattle.time_table.specs.declared.Table.{Table}
use Rattle.time_table.specs.Order.{Arranged}
use Rattle.time_table.specs.Overlap.{overlaps}
use Rattle.fit.specs.declared.Asked.{Asked}

-- what a task that asks sees of a row's height: all of it
abbrev pub seen : Asked → Row → ℕ
seen asked r = r.height

-- the row is too high for the task that asks
abbrev pub blocks : Asked → ℕ → Row → Bool
blocks asked capacity r = ltb capacity (seen asked r + asked.usage)

-- the candidate s after the row
unfoldable pub moved : Asked → ℕ → ℕ → Row → ℕ
moved asked capacity s r = cond (overlaps s (s + asked.run) r.start r.end && blocks asked capacity r) (r.end + 1) s

-- the candidate s after all rows
unfoldable pub settled : Asked → ℕ → ℕ → List Row → ℕ
settled asked capacity s [] = s
settled asked capacity s (r ∷ rs) = settled asked capacity (moved asked capacity s r) rs

-- the candidate, if it is within the bounds
unfoldable pub answer : Asked → ℕ → Option ℕ
answer asked s = cond (leb s asked.latest) (Some s) None

-- a task that draws more than the capacity fits nowhere, and else the first candidate is the earliest start
unfoldable pub first_fit : Asked → ℕ → List Row → Option ℕ
first_fit asked capacity rows = cond (ltb capacity asked.usage) None (answer asked (settled asked capacity asked.earliest rows))

-- what a question asks of its table and its numbers: rows in order, and that a run from the latest start ends within the ticks
pub record Askable (table : Table) (asked : Asked) : Type 0 where
  pub arranged : Arranged table
  pub top : asked.latest + asked.run < 2 ^ 32
