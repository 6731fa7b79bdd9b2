-- The test for too many rows holds exactly where after some one edit of the update there are over 128 rows: it tests the rows after each edit.
-- Assumes nothing.
use mathlib.Core.Path.{◌≡◌, refl, sym, ap, ◌∙◌}
use mathlib.Core.Bool.{Bool, true, false, ◌||◌, or-true, or_assoc, false≢true}
use mathlib.Core.List.{List, [], ◌∷◌, ◌++◌, map}
use mathlib.Core.Logic.{◌↔◌, ⊎_elim}
use Prim.Native.Nat.{ℕ, zero, suc, ◌<◌, suc-le-suc}
use native.Mathlib.Nat.{not-suc-le-zero, le_of_suc-le-suc}
use native.Mathlib.Omega.{arith}
use borrow.Author.Tests.{ltb-true, lt-ltb}
use lib.Dec.{ltb}
use lib.ListN.{length, take}
use Rattle.time_table.specs.declared.Row.{Row}
use Rattle.time_table.specs.declared.Part.{Part}
use Rattle.time_table.specs.Adjustments.{removed_parts, added_parts}
use Rattle.time_table.specs.Insertion.{insertion}
use Rattle.time_table.specs.Removal.{removal}
use Rattle.time_table.specs.Update.{after, over_after, update_over}
use Rattle.time_table.proofs.Bits.{either}
use Rattle.planner.specs.Refused.{Edit, edits_of, editing, OverAfter}

-- the test, over edits
over_in : List Edit → List Row → Bool
over_in [] rows = false
over_in (e ∷ es) rows = ltb 128 (length (e rows)) || over_in es (e rows)

over_found : (es : List Edit) (rows : List Row) → over_in es rows ≡ true → OverAfter es rows
unfolding over_in editing
over_found [] rows h = absurd (false≢true h)
over_found (e ∷ es) rows h =
    ⊎_elim
    (λ now. record { place = 0; inside = omega arith; over = ltb-true 128 (length (e rows)) now })
    (λ later. let w = over_found es (e rows) later in record { place = suc w.place; inside = suc-le-suc w.inside; over = w.over })
    (either (ltb 128 (length (e rows))) (over_in es (e rows)) h)

over_given : (es : List Edit) (rows : List Row) (k : ℕ) → k < length es → 128 < length (editing (take (suc k) es) rows) → over_in es rows ≡ true
unfolding over_in editing
over_given [] rows k lt h = absurd (not-suc-le-zero lt)
over_given (e ∷ es) rows zero lt h = rw (lt-ltb 128 (length (e rows)) h)
over_given (e ∷ es) rows (suc k) lt h = rw (over_given es (e rows) k (le_of_suc-le-suc lt) h) (or-true (ltb 128 (length (e rows))))

-- it is the update's test
module _ (edit : Part → Edit) where
  edits_after : (ps : List Part) (rows : List Row) → editing (map edit ps) rows ≡ after edit ps rows
  unfolding editing after
  edits_after [] rows = refl
  edits_after (p ∷ ps) rows = edits_after ps (edit p rows)

  edits_over : (ps : List Part) (rows : List Row) → over_in (map edit ps) rows ≡ over_after edit ps rows
  unfolding over_in over_after
  edits_over [] rows = refl
  edits_over (p ∷ ps) rows = ap (λ (b : Bool). ltb 128 (length (edit p rows)) || b) (edits_over ps (edit p rows))

over_append : (xs ys : List Edit) (rows : List Row) → over_in (xs ++ ys) rows ≡ (over_in xs rows || over_in ys (editing xs rows))
unfolding over_in editing
over_append [] ys rows = refl
over_append (x ∷ xs) ys rows =
    ap (λ (b : Bool). ltb 128 (length (x rows)) || b) (over_append xs ys (x rows))
    ∙ sym (or_assoc (ltb 128 (length (x rows))) (over_in xs (x rows)) (over_in ys (editing xs (x rows))))

module _ (old new : Part) (rows : List Row) where
  update_over_lem : over_in (edits_of old new) rows ≡ update_over old new rows
  update_over_lem =
      let removed = removed_parts old new in
      let added = added_parts old new in
      over_append (map removal removed) (map insertion added) rows
      ∙ (λ i. edits_over removal removed rows i || over_in (map insertion added) (edits_after removal removed rows i))
      ∙ ap (λ (b : Bool). over_after removal removed rows || b) (edits_over insertion added (after removal removed rows))

  pub over_exactly : (update_over old new rows ≡ true) ↔ OverAfter (edits_of old new) rows
  over_exactly = (
    λ h. over_found (edits_of old new) rows (update_over_lem ∙ h),
    λ w. sym update_over_lem ∙ over_given (edits_of old new) rows w.place w.inside w.over,
  )
