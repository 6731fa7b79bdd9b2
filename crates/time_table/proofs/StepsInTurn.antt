-- The steps of an update, one after another: first those of the removed parts, then those of the added ones. Each can be made of what those before it leave,
-- since rows that are right stay right; and the update is over where one of them is.
-- Assumes nothing.
use Rattle.std.proofs.Common.{◌≡◌, refl, sym, ap, subst, ◌∙◌, Bool, true, false, ◌||◌, ℕ, ◌+◌, ◌<◌, ◌≤◌, List, [], ◌∷◌, ◌++◌, length, map, Option, None, Some, Result, Ok, Err, get_or, drop, add-one, drop-cons, append-nil, length-append, cond}
use Rattle.std.specs.Option.{option_to_list, option_map}
use Rattle.std.specs.List.{flat_map}
use Rattle.std.proofs.lemmas.Grind.{flat_map-append}
use borrow.Author.Tests.{lt-ltb, le-ltb}
use lib.Dec.{ltb, leb}
use lib.ListN.{length-map}
use mathlib.Core.Bool.{false≢true}
use Rattle.std.specs.Result.{IsErr}
use Rattle.time_table.specs.declared.Row.{Row}
use Rattle.time_table.specs.declared.Part.{Part}
use Rattle.time_table.specs.declared.Table.{Table}
use Rattle.time_table.specs.declared.TooManyRows.{TooManyRows}
use Rattle.time_table.specs.declared.part_by_part.Step.{Step}
use Rattle.time_table.specs.declared.part_by_part.Step.TheVariants.{Remove, Add}
use Rattle.time_table.specs.Rows.{rows_of, table_of}
use Rattle.time_table.specs.Adjustments.{apart, ends_of, parts_there, removed_parts, added_parts}
use Rattle.time_table.specs.Meaning.{Runs, Right, Within, PartOf}
use Rattle.time_table.specs.Insertion.{insertion}
use Rattle.time_table.specs.Removal.{removal}
use Rattle.time_table.specs.PartByPart.{stepped, steps_of, CanStep}
use Rattle.time_table.specs.Update.{after, over_after, update_over, updated_rows, updated, Updatable}
use Rattle.time_table.proofs.Editable.{Puts, Takes, Steps}
use Rattle.time_table.proofs.PartsInTurn.{edits_right}
use Rattle.time_table.proofs.PartDifference.{ends_there}
use Rattle.time_table.proofs.EditRight.{each_insertable, each_removable, insertion_right, removal_right}
use Rattle.time_table.proofs.TableUpdate.{update_edits}

-- the rows after these steps, whether some one of them leaves over 128, and that each can be made
abbrev pub made : List Step → List Row → List Row
made [] rows = rows
made (s ∷ ss) rows = made ss (stepped s rows)

abbrev pub over : List Step → List Row → Bool
over [] rows = false
over (s ∷ ss) rows = ltb 128 (length (stepped s rows)) || over ss (stepped s rows)

abbrev pub CanEach : List Step → List Row → Type 0
CanEach [] rows = Unit {0}
CanEach (s ∷ ss) rows = CanStep s rows × CanEach ss (stepped s rows)

-- an update with these steps left, which has come to these rows
pub record Doing (old new : Part) (t : Table) (left : List Step) (rows : List Row) : Type 0 where
  pub makes : made left rows ≡ updated_rows old new (rows_of t)
  pub tells : over left rows ≡ update_over old new (rows_of t)
  pub can : CanEach left rows

-- by parts of one kind
module _ (K : Part → Step) (edit : Part → List Row → List Row) (is : (p : Part) (rows : List Row) → stepped (K p) rows ≡ edit p rows) where
  made_by : (ps : List Part) (ss : List Step) (rows : List Row) → made (map K ps ++ ss) rows ≡ made ss (after edit ps rows)
  unfolding after
  made_by [] ss rows = refl
  made_by (p ∷ ps) ss rows = ap (made (map K ps ++ ss)) (is p rows) ∙ made_by ps ss (edit p rows)

  over_by : (ps : List Part) (ss : List Step) (rows : List Row) → over (map K ps ++ ss) rows ≡ over_after edit ps rows || over ss (after edit ps rows)
  unfolding after over_after
  over_by [] ss rows = refl
  over_by (p ∷ ps) ss rows =
      ap (λ (l : List Row). ltb 128 (length l) || over (map K ps ++ ss) l) (is p rows)
      ∙ ap (λ (b : Bool). ltb 128 (length (edit p rows)) || b) (over_by ps ss (edit p rows)) ∙ or_later (ltb 128 (length (edit p rows)))
    where
      or_later : (b : Bool) → b || (over_after edit ps (edit p rows) || over ss (after edit ps (edit p rows))) ≡ (b || over_after edit ps (edit p rows)) || over ss (after edit ps (edit p rows))
      or_later true = refl
      or_later false = refl

  can_by : (E : Part → Runs → Runs → Type 0) (usage : ℕ → ℕ)
      → ((runs next : Runs) (rows : List Row) → Right runs usage rows → Within runs usage → (p : Part) → PartOf usage p → E p runs next → CanStep (K p) rows × Right next usage (edit p rows))
      → (last : Runs) (ps : List Part) (ss : List Step) (runs : Runs) (rows : List Row) → Steps E usage runs ps last → Within runs usage → Right runs usage rows
      → CanEach ss (after edit ps rows) → CanEach (map K ps ++ ss) rows
  unfolding after
  can_by E usage one last [] ss runs rows s within right rest = rest
  can_by E usage one last (p ∷ ps) ss runs rows s within right rest =
      let here = one runs s.next rows right within p s.of s.goes in
      (here.0, subst (CanEach (map K ps ++ ss)) (sym (is p rows)) (can_by E usage one last ps ss s.next (edit p rows) s.rest s.within here.1 rest))

-- the steps in places are those of the parts in them
steps_there : (K : Part → Step) (places : List (Option Part)) → flat_map option_to_list (map (option_map K) places) ≡ map K (parts_there places)
steps_there K [] = refl
steps_there K (None ∷ places) = steps_there K places
steps_there K (Some p ∷ places) = ap (λ (l : List Step). K p ∷ l) (steps_there K places)

or_none : (b : Bool) → b || false ≡ b
or_none true = refl
or_none false = refl

module _ (old new : Part) (t : Table) where
  steps_are : flat_map option_to_list (steps_of old new) ≡ map Remove (removed_parts old new) ++ (map Add (added_parts old new) ++ [])
  steps_are =
      flat_map-append option_to_list (map (option_map Remove) (ends_of old new)) (map (option_map Add) (ends_of new old))
      ∙ (λ i. (steps_there Remove (ends_of old new) ∙ ap (map Remove) (ends_there old new)) i
      ++ (steps_there Add (ends_of new old) ∙ ap (map Add) (ends_there new old) ∙ sym (append-nil (map Add (added_parts old new)))) i)

  pub four_places : length (steps_of old new) ≡ 4
  four_places =
      let two : (p q : Part) → length (ends_of p q) ≡ 2 = λ p q. pair (apart p q) (leb p.until p.from) _ _ _ in
      simp (length-append, length-map, two)
    where
      pair : (a b : Bool) (r s t : Option Part) → length (cond a (r ∷ None ∷ []) (cond b (None ∷ None ∷ []) (s ∷ t ∷ []))) ≡ 2
      pair true b r s t = refl
      pair false true r s t = refl
      pair false false r s t = refl

  can_remove : (usage : ℕ → ℕ) (runs next : Runs) (rows : List Row) → Right runs usage rows → Within runs usage → (p : Part) → PartOf usage p → Takes p runs next
      → CanStep (Remove p) rows × Right next usage (removal p rows)
  can_remove usage runs next rows right within p of goes =
      (record { some = of.some; ordered = right.ordered; each = each_removable runs next usage rows right within p of goes }, removal_right runs next usage rows right within p of goes)

  can_add : (usage : ℕ → ℕ) (runs next : Runs) (rows : List Row) → Right runs usage rows → Within runs usage → (p : Part) → PartOf usage p → Puts p runs next
      → CanStep (Add p) rows × Right next usage (insertion p rows)
  can_add usage runs next rows right within p of goes =
      (record { some = of.some; ordered = right.ordered; each = each_insertable runs next usage rows right within p of goes }, insertion_right runs next usage rows right within p of goes)

  pub doing_start : Updatable old new t → Doing old new t (flat_map option_to_list (steps_of old new)) (rows_of t)
  doing_start u =
      let ps = removed_parts old new in
      let qs = added_parts old new in
      let rows = rows_of t in
      let e = update_edits old new t u in
      let right = edits_right Takes removal removal_right e.usage e.mid ps e.runs rows e.removes e.within e.right in
      rw steps_are
      (record {
        makes = made_by Remove removal (λ p rows. refl) ps (map Add qs ++ []) rows ∙ made_by Add insertion (λ p rows. refl) qs [] (after removal ps rows);
        tells = over_by Remove removal (λ p rows. refl) ps (map Add qs ++ []) rows
            ∙ ap (λ (b : Bool). over_after removal ps rows || b) (over_by Add insertion (λ p rows. refl) qs [] (after removal ps rows) ∙ or_none _);
        can = can_by Remove removal (λ p rows. refl) Takes e.usage (can_remove e.usage) e.mid ps (map Add qs ++ []) e.runs rows e.removes e.within e.right
            (can_by Add insertion (λ p rows. refl) Puts e.usage (can_add e.usage) e.last qs [] e.mid (after removal ps rows) e.adds e.between right tt);
      })

  module _ {s : Step} {left : List Step} {rows : List Row} (d : Doing old new t (s ∷ left) rows) where
    pub doing_next : length (stepped s rows) ≤ 128 → Doing old new t left (stepped s rows)
    doing_next le = record { makes = d.makes; tells = rw (le-ltb 128 (length (stepped s rows)) le) at d.tells; can = d.can.1 }

    pub doing_over : 128 < length (stepped s rows) → updated old new t ≡ Err (record {})
    unfolding updated
    doing_over lt = rw (← d.tells, lt-ltb 128 (length (stepped s rows)) lt) refl

  pub doing_all : {rows : List Row} → Doing old new t [] rows → Ok (table_of rows) ≡ updated old new t
  unfolding updated
  doing_all d = rw (← d.tells, ← d.makes) refl

-- the steps in places from k on are that in the place k, if there is one, and those behind it
module _ {old new : Part} {t : Table} {rows : List Row} (places : List (Option Step)) (k : ℕ) (lt : k < length places)
    (d : Doing old new t (flat_map option_to_list (drop k places)) rows) where
  behind_place : {o : Option Step} → get_or places k None ≡ o → drop k places ≡ o ∷ drop (k + 1) places
  behind_place e = drop-cons places k None lt ∙ (λ i. e i ∷ drop (sym (add-one k) i) places)

  pub doing_here : (s : Step) → get_or places k None ≡ Some s → Doing old new t (s ∷ flat_map option_to_list (drop (k + 1) places)) rows
  doing_here s e = subst (λ (l : List (Option Step)). Doing old new t (flat_map option_to_list l) rows) (behind_place e) d

  pub doing_gap : get_or places k None ≡ None → Doing old new t (flat_map option_to_list (drop (k + 1) places)) rows
  doing_gap e = subst (λ (l : List (Option Step)). Doing old new t (flat_map option_to_list l) rows) (behind_place e) d

-- there is one refusal
pub too_many : (r : Result (Unit {0}) TooManyRows) → IsErr r → r ≡ Err (record {})
too_many (Ok t) e = absurd (false≢true e)
too_many (Err e) h = refl
