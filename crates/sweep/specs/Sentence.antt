-- What the sweep is to be, in the document's words and not by how it is found: the rows are the maximal runs of instants with one
-- unchanging, non-empty set of covering tasks; a row's height is the sum of their usages; its list is ordered by latest start, then id. If some
-- height exceeds the capacity, the answer is overloaded with the earliest such row.
use Rattle.std.specs.Prelude.{true, cond, ◌≡◌, Result, Ok, Err, List, [], ℕ, suc, ◌≤◌, ◌<◌}
use Rattle.time_table.specs.declared.Row.{Row}
use Rattle.time_table.specs.declared.Table.{Table}
use Rattle.time_table.specs.Rows.{row_of, table_of, tasks}
use Rattle.time_table.specs.Overload.{FirstOver, NoneOver}
use Rattle.time_table.specs.Meaning.{total, occurs}
use Rattle.sweep.specs.declared.Task.{Task}
use Rattle.sweep.specs.Tasks.{latest_of, usage_of, runs}
use Rattle.sweep.specs.Sorting.{In, Sorted}

-- the row lists the tasks that cover t, each once, and no other
abbrev pub Lists : List Task → Row → ℕ → Type 0
Lists ts r t = (i : ℕ) → occurs i (tasks r) ≡ cond (runs ts i t) 1 0

-- by latest start, then by id
abbrev pub ByLatest : List Task → ℕ → ℕ → Type 0
ByLatest ts i j = (latest_of ts i ≤ latest_of ts j) × (latest_of ts i ≡ latest_of ts j → i < j)

-- the row is of a maximal run: the instant before it and the instant after it have another set
pub record RunRow (ts : List Task) (r : Row) : Type 0 where
  pub proper : r.start ≤ r.end
  pub unchanging : (t : ℕ) → r.start ≤ t → t ≤ r.end → Lists ts r t
  pub some : tasks r ≡ [] → ⊥
  pub before : (t : ℕ) → suc t ≡ r.start → Lists ts r t → ⊥
  pub after : Lists ts r (suc r.end) → ⊥
  pub high : r.height ≡ total (usage_of ts) (tasks r)
  pub order : Sorted (ByLatest ts) (tasks r)
  pub whole : r ≡ row_of r.start r.end r.height (tasks r)

-- some row has the instant t
pub record Found (t : ℕ) (rows : List Row) : Type 0 where
  pub row : Row
  pub is : In row rows
  pub low : row.start ≤ t
  pub high : t ≤ row.end

abbrev pub Ahead : Row → Row → Type 0
Ahead r q = r.end < q.start

-- the rows are all such rows, in order of time
pub record SweepOf (ts : List Task) (rows : List Row) : Type 0 where
  pub each : (r : Row) → In r rows → RunRow ts r
  pub sorted : Sorted Ahead rows
  pub all : (t i : ℕ) → runs ts i t ≡ true → Found t rows

-- the answer: the earliest row that is too high; or the table of the rows, none of which is too high
pub record SweptOf (capacity : ℕ) (ts : List Task) (s : Result Table Row) : Type 0 where
  pub rows : List Row
  pub sweeps : SweepOf ts rows
  pub over : (r : Row) → s ≡ Err r → FirstOver capacity rows r
  pub fits : (t : Table) → s ≡ Ok t → NoneOver capacity rows × (t ≡ table_of rows)
