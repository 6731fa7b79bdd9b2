-- An update of a table: the removed parts lead from the old part to what both parts share, and the added ones from there to the new part.
-- Assumes nothing.
use mathlib.Core.Path.{◌≡◌, refl, ◌∙◌}
use mathlib.Core.Bool.{false, true≢false}
use mathlib.Core.Logic.{⊎_elim}
use mathlib.Core.List.{List, [], ◌∷◌}
use Prim.Native.Nat.{◌≤◌, ◌<◌}
use native.Mathlib.Omega.{arith}
use borrow.Author.Tests.{lt-ltb, le-ltb}
use lib.ListN.{length}
use Rattle.time_table.specs.declared.Row.{Row}
use Rattle.time_table.specs.declared.Part.{Part}
use Rattle.time_table.specs.declared.Table.{Table}
use Rattle.time_table.specs.Rows.{rows_of, table_of, Clean}
use Rattle.time_table.specs.Adjustments.{removed_parts, added_parts}
use Rattle.time_table.specs.Insertion.{insertion}
use Rattle.time_table.specs.Removal.{removal}
use Rattle.time_table.specs.Meaning.{has, Right}
use Rattle.time_table.specs.Update.{update_over, updated_rows, moved, after, over_after, Updatable}
use Rattle.time_table.proofs.Editable.{Editable}
use Rattle.time_table.proofs.AdjustedRight.{both, removed_steps, added_steps, moved_within, adjusted_right}
use Rattle.time_table.proofs.Sums.{lt_or_le}
use Rattle.time_table.proofs.Bits.{neither}

-- rows that are never over are at most 128
module _ (edit : Part → List Row → List Row) where
  pub after_short : (ps : List Part) (rows : List Row) → length rows ≤ 128 → over_after edit ps rows ≡ false → length (after edit ps rows) ≤ 128
  unfolding after over_after
  after_short [] rows le e = le
  after_short (p ∷ ps) rows le e =
      ⊎_elim
      (λ lt. absurd (true≢false (rw (lt-ltb 128 (length (edit p rows)) lt) at e)))
      (λ ge. after_short ps (edit p rows) ge (rw (le-ltb 128 (length (edit p rows)) ge) at e))
      (lt_or_le 128 (length (edit p rows)))

-- the parts of an update are such edits of its table's rows
pub update_edits : (old new : Part) (t : Table) → Updatable old new t → Editable (removed_parts old new) (added_parts old new) (rows_of t)
update_edits old new t u =
    let draws : 0 < u.usage old.id = rw (← u.of) u.draws in
    record {
      runs = moved old.id (has old.from old.until) u.runs;
      mid = moved old.id (both old new) u.runs;
      last = moved old.id (has new.from new.until) u.runs;
      usage = u.usage;
      right = u.right;
      within = moved_within old.id u.runs u.usage (has old.from old.until) u.task draws u.within;
      removes = removed_steps old.id u.runs u.usage u.task draws u.within old new refl u.same u.of (u.equal ∙ u.of) u.low u.high;
      between = moved_within old.id u.runs u.usage (both old new) u.task draws u.within;
      adds = added_steps old.id u.runs u.usage u.task draws u.within old new refl u.same u.of (u.equal ∙ u.of) u.low u.high;
    }

-- what the answer of an update says
module _ (old new : Part) (t : Table) where
  -- it fits, and each of its parts did
  pub record UpdateFits (now : Table) : Type 0 where
    pub fits : update_over old new (rows_of t) ≡ false
    pub is : now ≡ table_of (updated_rows old new (rows_of t))
    pub few : length (updated_rows old new (rows_of t)) ≤ 128

  pub update_fits : (now : Table) → Clean t → update_over old new (rows_of t) ≡ false → now ≡ table_of (updated_rows old new (rows_of t)) → UpdateFits now
  update_fits now clean fits is =
      let both = neither (over_after removal (removed_parts old new) (rows_of t)) _ fits in
      record {
        fits = fits;
        is = is;
        few = after_short insertion (added_parts old new) _ (after_short removal (removed_parts old new) (rows_of t) (omega (arith, clean)) both.0) both.1;
      }

  -- and the table is then right for the new part
  pub updated_right : (u : Updatable old new t) → Right (moved old.id (has new.from new.until) u.runs) u.usage (updated_rows old new (rows_of t))
  updated_right u =
      adjusted_right old.id u.runs u.usage u.task (rw (← u.of) u.draws) u.within old new refl u.same u.of (u.equal ∙ u.of) u.low u.high (rows_of t) u.right
