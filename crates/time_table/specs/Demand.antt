-- Demand 3 of a live table, in plain words: its rows are sorted and disjoint, each instant's row lists exactly the tasks that must be running,
-- each once, with the sum of their draws, and an instant without one has no row.
use Rattle.std.specs.Prelude.{Bool, true, false, cond, ◌≡◌, List, ℕ, zero, suc, ◌+◌, ◌≤◌, ◌<◌, length}
use Rattle.time_table.specs.declared.Row.{Row}
use Rattle.time_table.specs.Rows.{tasks, row_at}
use Rattle.time_table.specs.Meaning.{bit, occurs}

-- the sum of the draws of the tasks 0 to n - 1 that must run at t
unfoldable pub draw_at : (ℕ → ℕ → Bool) → (ℕ → ℕ) → ℕ → ℕ → ℕ
draw_at runs usage zero t = 0
draw_at runs usage (suc n) t = draw_at runs usage n t + cond (runs n t) (usage n) 0

-- the row at the place k contains the instant t
pub record In (rows : List Row) (k t : ℕ) : Type 0 where
  pub one_of : k < length rows
  pub from : (row_at rows k).start ≤ t
  pub to : t ≤ (row_at rows k).end

-- a row that contains the instant t
pub record RowOf (rows : List Row) (t : ℕ) : Type 0 where
  pub place : ℕ
  pub there : In rows place t

-- the rows are what demand 3 says of a live table whose tasks are 0 to n - 1
pub record Demanded (runs : ℕ → ℕ → Bool) (usage : ℕ → ℕ) (n : ℕ) (rows : List Row) : Type 0 where
  -- sorted and disjoint, none empty
  pub sorted : (j k : ℕ) → j < k → k < length rows → (row_at rows j).end < (row_at rows k).start
  pub proper : (k : ℕ) → k < length rows → (row_at rows k).start ≤ (row_at rows k).end
  -- each instant's row lists exactly the running tasks, each once
  pub lists : (k t i : ℕ) → In rows k t → occurs i (tasks (row_at rows k)) ≡ bit (runs i t)
  -- with the sum of their draws
  pub sums : (k t : ℕ) → In rows k t → (row_at rows k).height ≡ draw_at runs usage n t
  -- an instant with a running task has a row, and one without has none
  pub covered : (t i : ℕ) → runs i t ≡ true → RowOf rows t
  pub bare : (t : ℕ) → ((i : ℕ) → runs i t ≡ false) → RowOf rows t → ⊥
