-- A row's line, split at its spaces, is its numbers: each has digits and at most a minus, so the spaces that are printed between them are the only ones.
-- The count that is shown with the rows is their number, since both are of one list.
-- Assumes nothing.
use mathlib.Core.Path.{◌≡◌, refl, sym, ap, ◌∙◌, subst}
use mathlib.Core.Bool.{Bool, true, false, cond}
use mathlib.Core.List.{List, [], ◌∷◌, ◌++◌, map, flat_map, append_assoc}
use Prim.Native.Nat.{ℕ}
use lib.ListN.{length}
use lib.Seq.{take_at}
use Rattle.std.specs.Prelude.{Result, Ok, Err}
use Rattle.time_table.specs.Rows.{rows_of}
use Rattle.planner.specs.declared.Plan.{Plan}
use Rattle.planner.specs.declared.RowRecord.{RowRecord}
use Rattle.planner.specs.declared.Refusal.{Refusal}
use Rattle.planner.specs.declared.Rows.{Rows}
use Rattle.planner.specs.declared.Refusal.TheVariants.{Stale}
use Rattle.planner.specs.Records.{record_of, ids_of}
use Rattle.planner.specs.Questions.{rows_with, rows_shown, records_of}
use Rattle.command.specs.Decimal.{decimal, signed_text}
use Rattle.command.specs.Grammar.{fields_of}
use Rattle.command.specs.Text.{spaced, id_text, ids_text}
use Rattle.command.specs.PrintedNumbers.{SpellsAll, more}
use Rattle.command.specs.TableLines.{row_numbers}
use Rattle.command.proofs.SpacesAndFeeds.{Above, above_append, above_less, fields_joined}
use Rattle.command.proofs.PrintedNumbers.{decimal_spells, signed_spells, ids_spell, all_above, after_space, spaces_above}

-- a row's line is its fields, each but the first after a space
abbrev pub row_line : RowRecord → List ℕ
row_line r = signed_text r.start ++ spaced (signed_text r.end) ++ spaced (decimal r.height) ++ ids_text (ids_of r)

abbrev behind_start : RowRecord → List (List ℕ)
behind_start r = signed_text r.end ∷ decimal r.height ∷ map decimal (ids_of r)

ids_behind : (ids : List ℕ) → ids_text ids ≡ flat_map after_space (map decimal ids)
unfolding flat_map
ids_behind [] = refl
ids_behind (i ∷ ids) = ap (λ (l : List ℕ). id_text i ++ l) (ids_behind ids)

row_line_lem : (r : RowRecord) → row_line r ≡ signed_text r.start ++ flat_map after_space (behind_start r)
unfolding flat_map
row_line_lem r = rw (← (ids_behind (ids_of r))) (simp append_assoc)

pub row_spelled : (r : RowRecord) → SpellsAll (signed_text r.start ∷ behind_start r) (row_numbers r)
row_spelled r = more (signed_spells r.start) (more (signed_spells r.end) (more (decimal_spells r.height) (ids_spell (ids_of r))))

pub row_fields : (r : RowRecord) → fields_of (row_line r) ≡ signed_text r.start ∷ behind_start r
row_fields r =
    let above = all_above (row_spelled r) in
    ap fields_of (row_line_lem r) ∙ fields_joined (signed_text r.start) (behind_start r) above.0 above.1

pub row_above : (r : RowRecord) → Above 10 (row_line r)
row_above r =
    let above = all_above (row_spelled r) in
    let s = signed_text r.start in
    rw (row_line_lem r) (above_append 10 s (flat_map after_space (behind_start r)) (above_less s above.0) (spaces_above (behind_start r) above.1))

-- the count of the rows that are shown is their number
pub shown_counts : (plan : Plan) (rows : Rows) → rows_shown plan ≡ Ok rows → rows.count ≡ length (records_of rows)
unfolding rows_shown
shown_counts plan rows = go plan.live
  where
    table : List RowRecord
    table = map record_of (rows_of plan.table)

    go : (live : Bool) → ◌≡◌ {A = Result Rows Refusal} (cond live (Ok (rows_with table)) (Err Stale)) (Ok rows) → rows.count ≡ length (records_of rows)
    go true shown = let is : rows_with table ≡ rows = cc in subst (λ (r : Rows). r.count ≡ length (records_of r)) is (ap length (sym (take_at table _ (length table) refl)))
    go false shown = cc
