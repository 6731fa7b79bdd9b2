-- A row: a start, an inclusive end, a height and a list of tasks. A table: a list of rows.
-- Each value is determined to its last place: unused ids are 0, and rows from the count on are empty.
use Rattle.std.specs.Prelude.{◌≡◌, cond, List, [], ◌∷◌, ℕ, ◌-◌, ◌<◌, ltb, length, take, get_or}
use Rattle.time_table.specs.declared.Row.{Row}
use Rattle.time_table.specs.declared.Table.{Table}
use Rattle.time_table.specs.Held.{Held, pad}

-- how many ids a row has room for, and how many rows a table
abbrev pub room_for_ids : ℕ
room_for_ids = 32

abbrev pub room_for_rows : ℕ
room_for_rows = 128

-- the row of the instants start to end with this height and these tasks
abbrev pub row_of : ℕ → ℕ → ℕ → List ℕ → Row
row_of start end height tasks =
    record { start = start; end = end; height = height; ids = pad room_for_ids 0 tasks; count = length tasks }

abbrev pub empty_row : Row
empty_row = row_of 0 0 0 []

-- every number of a row is 0, the 32 ids among them
pub record AllZero (r : Row) : Type 0 where
  pub start : r.start ≡ 0
  pub end : r.end ≡ 0
  pub height : r.height ≡ 0
  pub count : r.count ≡ 0
  pub ids : (k : ℕ) → k < 32 → get_or r.ids k 1 ≡ 0

-- the tasks that a row lists, in order
abbrev pub tasks : Row → List ℕ
tasks r = take r.count r.ids

-- a row's array of ids has its tasks in front, and 0 after them
abbrev pub Listed : Row → Type 0
Listed r = Held room_for_ids 0 r.ids r.count (tasks r)

-- the table of these rows
abbrev pub table_of : List Row → Table
table_of l = record { rows = pad room_for_rows empty_row l; count = length l }

-- the rows of a table, in order
abbrev pub rows_of : Table → List Row
rows_of t = take t.count t.rows

-- a table's array has its rows in front, and empty rows after them
abbrev pub Clean : Table → Type 0
Clean t = Held room_for_rows empty_row t.rows t.count (rows_of t)

-- the row at a place of a list; past its end, a row with nothing in it, as the code's reads have it
abbrev pub no_row : Row
no_row = record { start = 0; end = 0; height = 0; ids = []; count = 0 }

abbrev pub row_at : List Row → ℕ → Row
row_at l i = get_or l i no_row

-- a row with the instants from x up to but without y in place of its own
abbrev pub spanned : Row → ℕ → ℕ → Row
spanned r x y = record { start = x; end = y - 1; height = r.height; ids = r.ids; count = r.count }

-- a row cut to the instants from x up to but without y: nothing where there are none
unfoldable pub cut : Row → ℕ → ℕ → List Row
cut r x y = cond (ltb x y) (spanned r x y ∷ []) []
