-- Removing the removed parts of an adjustment and then adding the added ones leads from the old part to the new one: after the removals the
-- task runs where both parts are, and each instant of the new part is there or in one of the added parts.
-- Assumes nothing.
use mathlib.Core.Path.{◌≡◌, refl, sym, ap}
use mathlib.Core.Bool.{Bool, true, false, cond, ◌&&◌, ◌||◌, not, and_comm}
use mathlib.Core.Logic.{⊎_elim}
use mathlib.Core.List.{List, [], ◌++◌, append-nil}
use Prim.Native.Nat.{ℕ, ◌+◌, ◌≤◌, ◌<◌}
use native.Mathlib.Nat.{add-zero}
use native.Mathlib.Omega.{arith}
use lib.Dec.{eqb, eqb→eq}
use Rattle.time_table.specs.declared.Row.{Row}
use Rattle.time_table.specs.declared.Part.{Part}
use Rattle.time_table.specs.Order.{ticks}
use Rattle.time_table.specs.Adjustments.{stretch, removed_parts, added_parts}
use Rattle.time_table.specs.Meaning.{Runs, bit, has, Right, Within, With}
use Rattle.time_table.specs.Update.{moved, updated_rows}
use Rattle.time_table.specs.Insertion.{insertion}
use Rattle.time_table.specs.Removal.{removal}
use Rattle.time_table.proofs.Editable.{Puts, Takes, Steps}
use Rattle.time_table.proofs.PartDifference.{stretch_none, stretch_some, left}
use Rattle.time_table.proofs.Sums.{has_none, lt_or_le}
use Rattle.time_table.proofs.EditRight.{insertion_right, removal_right}
use Rattle.time_table.proofs.PartsInTurn.{edits_right}
use Rattle.time_table.proofs.Bits.{bit_le, cond_same}

-- truth values by their count
same_count : (a b : Bool) → bit a ≡ bit b → a ≡ b
same_count true true e = refl
same_count false false e = refl
same_count true false e = absurd (omega (arith, e))
same_count false true e = absurd (omega (arith, e))

count_without : (o x : Bool) → bit x ≤ bit o → bit o ≡ bit (o && not x) + bit x
count_without true true le = omega arith
count_without true false le = omega arith
count_without false true le = absurd (omega (arith, le))
count_without false false le = omega arith

count_either : (u v : Bool) → bit u + bit v ≤ 1 → bit (u || v) ≡ bit u + bit v
count_either true true le = absurd (omega (arith, le))
count_either true false le = omega arith
count_either false true le = omega arith
count_either false false le = omega arith

-- the same tasks but for one, whose part p makes up the difference
module _ (id : ℕ) (runs : Runs) where
  moved_with : (p : Part) → p.id ≡ id → (small big : ℕ → Bool) → ((t : ℕ) → bit (big t) ≡ bit (small t) + bit (has p.from p.until t))
      → With p (moved id small runs) (moved id big runs)
  moved_with p e small big more t i = rw e (go (eqb id i))
    where
      go : (b : Bool) → bit (cond b (big t) (runs i t)) ≡ bit (cond b (small t) (runs i t)) + cond (has p.from p.until t) (bit b) 0
      go true = more t
      go false = rw (cond_same {A = ℕ} (has p.from p.until t) 0) (sym (add-zero _))

  pub moved_within : (usage : ℕ → ℕ) (b : ℕ → Bool) → id < 32 → 0 < usage id → Within runs usage → Within (moved id b runs) usage
  moved_within usage b task draws within = record { few = few; draws = some; small = within.small }
    where
      few : (i t : ℕ) → 32 ≤ i → moved id b runs i t ≡ false
      few i t le = go (eqb id i) refl
        where
          go : (e : Bool) → eqb id i ≡ e → cond e (b t) (runs i t) ≡ false
          go true e = absurd (omega (arith, eqb→eq id i (rw e tt)))
          go false e = within.few i t le

      some : (i t : ℕ) → moved id b runs i t ≡ true → 0 < usage i
      some i t = go (eqb id i) refl
        where
          go : (e : Bool) → eqb id i ≡ e → cond e (b t) (runs i t) ≡ true → 0 < usage i
          go true e h = rw (← (eqb→eq id i (rw e tt))) draws
          go false e h = within.draws i t h

-- one stretch of the task's part is one edit, or none where it has no instants
module _ (id : ℕ) (runs : Runs) (usage : ℕ → ℕ) (task : id < 32) (draws : 0 < usage id) (within : Within runs usage)
    (p : Part) (mine : p.id ≡ id) (same : p.usage ≡ usage id) where
  abbrev piece : ℕ → ℕ → Part
  piece x y = record { from = x; until = y; id = p.id; usage = p.usage }

  stretch_step : (E : Part → Runs → Runs → Type 0) (x y : ℕ) (b b' : ℕ → Bool) (ps : List Part) (last : Runs) → y ≤ ticks
      → E (piece x y) (moved id b runs) (moved id b' runs) → (y ≤ x → (t : ℕ) → b t ≡ b' t)
      → Steps E usage (moved id b' runs) ps last → Steps E usage (moved id b runs) (stretch p x y ++ ps) last
  stretch_step E x y b b' ps last top goes flat rest =
      ⊎_elim
      (λ lt. rw (stretch_some p x y lt)
      (record {
        next = moved id b' runs;
        of = record { some = lt; top = top; task = rw mine task; same = rw mine same };
        goes = goes;
        within = moved_within id runs usage b' task draws within;
        rest = rest;
      }))
      (λ ge.
      let e : b ≡ b' = λ i t. flat ge t i in
      rw (stretch_none p x y ge, e) rest)
      (lt_or_le x y)

  -- where the stretch makes up the difference, it is put in the one way and taken out the other
  module _ (x y : ℕ) (small big : ℕ → Bool) (ps : List Part) (last : Runs) (top : y ≤ ticks)
      (more : (t : ℕ) → bit (big t) ≡ bit (small t) + bit (has x y t)) where
    flat : y ≤ x → (t : ℕ) → small t ≡ big t
    flat ge t = same_count (small t) (big t) (omega (arith, more t, rw (has_none x y t ge) at (more t)))

    stretch_taken : Steps Takes usage (moved id small runs) ps last → Steps Takes usage (moved id big runs) (stretch p x y ++ ps) last
    stretch_taken = stretch_step Takes x y big small ps last top (moved_with id runs (piece x y) mine small big more) (λ ge t. sym (flat ge t))

    stretch_put : Steps Puts usage (moved id big runs) ps last → Steps Puts usage (moved id small runs) (stretch p x y ++ ps) last
    stretch_put = stretch_step Puts x y small big ps last top (moved_with id runs (piece x y) mine small big more) flat

-- the instants that two parts share
abbrev pub both : Part → Part → ℕ → Bool
both old new t = has old.from old.until t && has new.from new.until t

-- from the old part of a task to the new one
module _ (id : ℕ) (runs : Runs) (usage : ℕ → ℕ) (task : id < 32) (draws : 0 < usage id) (within : Within runs usage)
    (old new : Part) (was : old.id ≡ id) (is : new.id ≡ id) (drew : old.usage ≡ usage id) (draw : new.usage ≡ usage id)
    (low : old.until ≤ ticks) (high : new.until ≤ ticks) where
  pub removed_steps : Steps Takes usage (moved id (has old.from old.until) runs) (removed_parts old new) (moved id (both old new) runs)
  removed_steps =
      let l = left old new in
      let o : ℕ → Bool = has old.from old.until in
      let mid : ℕ → Bool = λ t. o t && not (has l.a l.b t) in
      let first : (t : ℕ) → bit (o t) ≡ bit (mid t) + bit (has l.a l.b t) = λ t. count_without (o t) (has l.a l.b t) (omega (arith, l.counts t)) in
      rw (l.is, ← (append-nil (stretch old l.c l.d)))
      (stretch_taken id runs usage task draws within old was drew l.a l.b mid o _ _ (omega (arith, l.first)) first
      (stretch_taken id runs usage task draws within old was drew l.c l.d (both old new) mid [] _ (omega (arith, l.second))
      (λ t. omega (arith, first t, l.counts t)) (λ i t. refl)))

  pub added_steps : Steps Puts usage (moved id (both old new) runs) (added_parts old new) (moved id (has new.from new.until) runs)
  added_steps =
      let l = left new old in
      let n : ℕ → Bool = has new.from new.until in
      let o : ℕ → Bool = has old.from old.until in
      let mid : ℕ → Bool = λ t. both old new t || has l.a l.b t in
      let turned : (t : ℕ) → bit (both old new t) ≡ bit (n t && o t) = λ t. ap bit (and_comm (o t) (n t)) in
      let first : (t : ℕ) → bit (mid t) ≡ bit (both old new t) + bit (has l.a l.b t) =
      λ t. count_either (both old new t) (has l.a l.b t) (omega (arith, l.counts t, turned t, bit_le (n t))) in
      rw (l.is, ← (append-nil (stretch new l.c l.d)))
      (stretch_put id runs usage task draws within new is draw l.a l.b (both old new) mid _ _ (omega (arith, l.first)) first
      (stretch_put id runs usage task draws within new is draw l.c l.d mid n [] _ (omega (arith, l.second))
      (λ t. omega (arith, first t, l.counts t, turned t)) (λ i t. refl)))

  -- a table that is right for the old part becomes one that is right for the new part
  pub adjusted_right : (rows : List Row) → Right (moved id (has old.from old.until) runs) usage rows
      → Right (moved id (has new.from new.until) runs) usage (updated_rows old new rows)
  adjusted_right rows right =
      edits_right Puts insertion insertion_right usage _ (added_parts old new) (moved id (both old new) runs) _ added_steps (moved_within id runs usage (both old new) task draws within)
      (edits_right Takes removal removal_right usage _ (removed_parts old new) _ rows removed_steps (moved_within id runs usage (has old.from old.until) task draws within) right)

-- a task that runs where its part is may be moved there
pub moved_self : (id : ℕ) (runs : Runs) (b : ℕ → Bool) → ((t : ℕ) → runs id t ≡ b t) → (i t : ℕ) → runs i t ≡ moved id b runs i t
moved_self id runs b here i t = go (eqb id i) refl
  where
    go : (e : Bool) → eqb id i ≡ e → runs i t ≡ cond e (b t) (runs i t)
    go true e = rw (← (eqb→eq id i (rw e tt))) (here t)
    go false e = refl
