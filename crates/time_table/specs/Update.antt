-- An update applies all removed parts, then all added ones, each list in its order. If after some one part the table would have over 128 rows,
-- it is over, and there is no new table.
use Rattle.std.specs.Prelude.{Bool, false, cond, ◌||◌, ◌≡◌, List, [], ◌∷◌, ℕ, ◌≤◌, ◌<◌, ltb, eqb, length, Result}
use Rattle.time_table.specs.declared.Row.{Row}
use Rattle.time_table.specs.declared.Part.{Part}
use Rattle.time_table.specs.declared.Table.{Table}
use Rattle.time_table.specs.declared.TooManyRows.{TooManyRows}
use Rattle.time_table.specs.Rows.{room_for_ids, room_for_rows, rows_of, Clean}
use Rattle.time_table.specs.Order.{ticks}
use Rattle.time_table.specs.Table.{verdict}
use Rattle.time_table.specs.Adjustments.{removed_parts, added_parts}
use Rattle.time_table.specs.Insertion.{insertion}
use Rattle.time_table.specs.Removal.{removal}
use Rattle.time_table.specs.Meaning.{Runs, has, Right, Within}

-- the rows after an edit by each of these parts, one after another
unfoldable pub after : (Part → List Row → List Row) → List Part → List Row → List Row
after edit [] rows = rows
after edit (p ∷ ps) rows = after edit ps (edit p rows)

-- whether some one of them leaves over 128 rows
unfoldable pub over_after : (Part → List Row → List Row) → List Part → List Row → Bool
over_after edit [] rows = false
over_after edit (p ∷ ps) rows = ltb room_for_rows (length (edit p rows)) || over_after edit ps (edit p rows)

-- the rows after an update from the old part to the new one, and whether some one part of it leaves over 128
abbrev pub updated_rows : Part → Part → List Row → List Row
updated_rows old new rows = after insertion (added_parts old new) (after removal (removed_parts old new) rows)

abbrev pub update_over : Part → Part → List Row → Bool
update_over old new rows =
    over_after removal (removed_parts old new) rows || over_after insertion (added_parts old new) (after removal (removed_parts old new) rows)

unfoldable pub updated : Part → Part → Table → Result Table TooManyRows
updated old new t = verdict (update_over old new (rows_of t)) (updated_rows old new (rows_of t))

-- the same tasks run, but for the task id, which runs where b says
abbrev pub moved : ℕ → (ℕ → Bool) → Runs → Runs
moved id b runs i t = cond (eqb id i) (b t) (runs i t)

-- a table that is right for the old part of a task, of which the new part is another
pub record Updatable (old new : Part) (t : Table) : Type 0 where
  pub runs : Runs
  pub usage : ℕ → ℕ
  pub clean : Clean t
  pub right : Right (moved old.id (has old.from old.until) runs) usage (rows_of t)
  pub within : Within runs usage
  pub task : old.id < room_for_ids
  pub draws : 0 < old.usage
  pub of : old.usage ≡ usage old.id
  pub same : new.id ≡ old.id
  pub equal : new.usage ≡ old.usage
  pub low : old.until ≤ ticks
  pub high : new.until ≤ ticks
