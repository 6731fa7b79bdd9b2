-- A part that is taken out always meets a row, and each row that it meets lists the task: the two places where the Rust's removal panics
-- cannot be reached. The part's first instant has a row, since the task runs there; and the rows stay right from part to part of an update.
-- Assumes nothing.
use mathlib.Core.Path.{◌≡◌, ap, ◌∙◌}
use mathlib.Core.Bool.{Bool}
use mathlib.Core.List.{List, [], ◌∷◌, ◌++◌}
use Prim.Native.Nat.{ℕ, max}
use native.Mathlib.Omega.{arith}
use Rattle.time_table.specs.declared.Row.{Row}
use Rattle.time_table.specs.declared.Part.{Part}
use Rattle.time_table.specs.declared.Table.{Table}
use Rattle.time_table.specs.Rows.{room_for_ids, row_at, rows_of}
use Rattle.time_table.specs.Order.{ticks}
use Rattle.time_table.specs.Adjustments.{removed_parts}
use Rattle.time_table.specs.Removal.{removal}
use Rattle.time_table.specs.Meaning.{bit, Runs, Right, Within, PartOf, With}
use Rattle.time_table.specs.Update.{after, Updatable}
use Rattle.time_table.specs.Demand.{In, Demanded}
use Rattle.time_table.specs.Panics.{Meets, Met, Lists, rows_then}
use Rattle.time_table.proofs.AtRow.{ordered_at}
use Rattle.time_table.proofs.EditRight.{runs_in, removal_right}
use Rattle.time_table.proofs.Editable.{Takes, Steps}
use Rattle.time_table.proofs.Demanded.{demanded}
use Rattle.time_table.proofs.TableUpdate.{update_edits}

module _ (runs small : ℕ → ℕ → Bool) (usage : ℕ → ℕ) (rows : List Row) (right : Right runs usage rows) (within : Within runs usage)
    (p : Part) (of : PartOf usage p) (with : With p small runs) where
  rows_are : Demanded runs usage room_for_ids rows
  rows_are = demanded runs usage room_for_ids rows right within.few

  -- the Rust's "Removal should always have overlap with a profile": the row of the part's first instant does
  pub removal_meets : Met p rows
  removal_meets =
      let w = rows_are.covered p.from p.id (runs_in p small runs with p.from (omega arith) of.some) in
      record { place = w.place; meets = record { one_of = w.there.one_of; starts = omega (arith, w.there.from, of.some); ends = w.there.to } }

  -- the Rust's "Task should be in the profile if it is being removed": it runs at the first instant that the two share
  pub removal_lists : (k : ℕ) → Meets p rows k → Lists p (row_at rows k)
  removal_lists k m =
      let t = max p.from (row_at rows k).start in
      let lies = ordered_at ticks 0 rows k m.one_of right.ordered in
      let in_row : In rows k t = record { one_of = m.one_of; from = omega arith; to = omega (arith, m.ends, lies) } in
      omega (arith, rows_are.lists k t p.id in_row ∙ ap (λ (b : Bool). bit b) (runs_in p small runs with t (omega arith) (omega (arith, m.starts, of.some))))

-- rows of which a part can be taken out: they are right, and the task runs where the part is
record Turn (p : Part) (rows : List Row) : Type 0 where
  runs : Runs
  small : Runs
  usage : ℕ → ℕ
  right : Right runs usage rows
  within : Within runs usage
  of : PartOf usage p
  with : With p small runs

-- the rows are such when a part's turn comes, after the parts before it
turn_after : (usage : ℕ → ℕ) (last : Runs) (p : Part) (later before : List Part) (runs : Runs) (rows : List Row)
    → Steps Takes usage runs (before ++ p ∷ later) last → Within runs usage → Right runs usage rows → Turn p (after removal before rows)
unfolding after
turn_after usage last p later [] runs rows s within right =
    record { runs = runs; small = s.next; usage = usage; right = right; within = within; of = s.of; with = s.goes }
turn_after usage last p later (q ∷ before) runs rows s within right =
    turn_after usage last p later before s.next _ s.rest s.within (removal_right runs s.next usage rows right within q s.of s.goes)

-- of any update, a part that it removes, with those removed before it and those removed later
module _ (old new : Part) (t : Table) (u : Updatable old new t) (before later : List Part) (p : Part) (is : removed_parts old new ≡ before ++ p ∷ later) where
  turn : Turn p (rows_then before t)
  turn =
      let e = update_edits old new t u in
      turn_after e.usage e.mid p later before e.runs (rows_of t) (rw is at e.removes) e.within e.right

  -- each part that an update removes meets a row, as the rows are when its turn comes
  pub update_meets : Met p (rows_then before t)
  update_meets = removal_meets turn.runs turn.small turn.usage _ turn.right turn.within p turn.of turn.with

  -- and every row that it meets there lists the task
  pub update_lists : (k : ℕ) → Meets p (rows_then before t) k → Lists p (row_at (rows_then before t) k)
  update_lists = removal_lists turn.runs turn.small turn.usage _ turn.right turn.within p turn.of turn.with
