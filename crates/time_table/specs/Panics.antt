-- The Rust's removal panics at two places: "Removal should always have overlap with a profile", and "Task should be in the profile if it is being removed".
-- What must hold, so that neither is reached.
use Rattle.std.specs.Prelude.{List, ℕ, ◌≤◌, ◌<◌, length}
use Rattle.time_table.specs.declared.Row.{Row}
use Rattle.time_table.specs.declared.Part.{Part}
use Rattle.time_table.specs.declared.Table.{Table}
use Rattle.time_table.specs.Rows.{row_at, rows_of, tasks}
use Rattle.time_table.specs.Removal.{removal}
use Rattle.time_table.specs.Meaning.{occurs}
use Rattle.time_table.specs.Update.{after}

-- the row at the place k shares an instant with the part
pub record Meets (p : Part) (rows : List Row) (k : ℕ) : Type 0 where
  pub one_of : k < length rows
  pub starts : (row_at rows k).start < p.until
  pub ends : p.from ≤ (row_at rows k).end

-- some row overlaps the part
pub record Met (p : Part) (rows : List Row) : Type 0 where
  pub place : ℕ
  pub meets : Meets p rows place

-- the row lists the part's task
abbrev pub Lists : Part → Row → Type 0
Lists p r = 0 < occurs p.id (tasks r)

-- the rows of a table when a part's turn comes, after the parts removed before it
abbrev pub rows_then : List Part → Table → List Row
rows_then before t = after removal before (rows_of t)
