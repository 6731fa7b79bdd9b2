-- Insertion of a part. The overlapping rows are replaced, left to right, by: the uncovered piece before the first; gaps between
-- them; the untouched left piece of a row; the covered piece, the task put last in its list; the untouched right piece; the
-- uncovered piece after the last. Uncovered pieces and gaps carry the task alone. A row that does not overlap stays.
use Rattle.std.specs.Prelude.{List, [], ◌∷◌, ◌++◌, ℕ, ◌+◌, ◌<◌, ◌^◌, min, max}
use Rattle.time_table.specs.declared.Row.{Row}
use Rattle.time_table.specs.declared.Part.{Part}
use Rattle.time_table.specs.Rows.{room_for_ids, row_of, tasks, Listed, cut}
use Rattle.time_table.specs.Pieces.{before_part, after_part}

-- the task alone
abbrev pub alone : Part → Row
alone p = row_of 0 0 p.usage (p.id ∷ [])

-- a row with a task put last
unfoldable pub joined : Row → ℕ → ℕ → Row
joined r id usage = row_of r.start r.end (r.height + usage) (tasks r ++ id ∷ [])

-- the uncovered piece before a row, or in the gap before it
abbrev pub gap_before : Part → Row → List Row
gap_before p r = cut (alone p) p.from (min p.until r.start)

-- the covered piece, with the task
abbrev pub heightened : Part → Row → List Row
heightened p r = cut (joined r p.id p.usage) (max p.from r.start) (min p.until (r.end + 1))

-- what becomes of a row, with what of the part lies before it
abbrev pub grown : Part → Row → List Row
grown p r = gap_before p r ++ before_part p r ++ heightened p r ++ after_part p r

-- the part from another instant on, and the instant from which on it lies after a row
abbrev pub started_at : Part → ℕ → Part
started_at p x = record { from = x; until = p.until; id = p.id; usage = p.usage }

abbrev pub past_row : Part → Row → ℕ
past_row p r = max p.from (min p.until (r.end + 1))

unfoldable pub insertion : Part → List Row → List Row
insertion p [] = cut (alone p) p.from p.until
insertion p (r ∷ rs) = grown p r ++ insertion (started_at p (past_row p r)) rs

-- a part can be put into a row: where the two meet the row has room for one task more
pub record Insertable (p : Part) (r : Row) : Type 0 where
  pub listed : Listed r
  pub room : r.end + 1 < 2 ^ 32
  pub there : max p.from r.start < min p.until (r.end + 1) → (r.count < room_for_ids) × (r.height + p.usage < 2 ^ 32)
