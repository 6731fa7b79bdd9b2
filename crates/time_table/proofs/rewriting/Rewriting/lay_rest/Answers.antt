-- `lay_rest` meets its contract: the rows that are not read yet stay where they are or move down, behind what is written.
-- Assumes nothing.
use Rattle.std.proofs.Common.{◌≡◌, ◌≤◌, sym, ap, refl}
use Rattle.std.specs.List.{copy_within}
use Rattle.time_table.specs.declared.rewriting.Rewriting.TheInside.{Inside}
use Rattle.time_table.specs.Rewriting.{Rewritten, Ranged}
use Rattle.time_table.proofs.rewriting.Places.{Lowered, lowered, level, lowered_ranged, range_none, no_value}
use Rattle.time_table.proofs.rewriting.Rewriting.lay_rest.Goals.{then-self, else-self}
use Rattle.time_table.proofs.rewriting.Rewriting.lay_rest.Goals as goal

-- the rows are lowered, and nothing else has changed
record Joined (before after : Inside) : Type 0 where
  rows : Lowered before.table.rows before.write before.read before.table.count after.table.rows
  same : after ≡ record before { table = record before.table { rows = after.table.rows } }

module _ (s : Inside) (i : Ranged s.table.rows s.write s.read s.table.count s.in_hand) where
  moved : Joined s (record s { table = record s.table { rows = copy_within s.table.rows s.read s.table.count s.write } })
  moved = record { rows = lowered s.table.rows s.write s.read s.table.count i.size i.below i.within i.fits; same = refl }

  still : s.read ≤ s.write → Joined s s
  still le = record { rows = level s.table.rows s.write s.read s.table.count i.size i.below i.within i.fits le; same = refl }

pub invariant_of-self : goal.invariant_of-self
invariant_of-self c =
    let s = c.self.inside in
    let i = c.self.invariant in
    let j : Joined s c.if-self.self-inside =
    elim c.if-self.branch [
      | then-self w ↦ rw (w.self-inside-is, w.copy_within.ensures.after) (moved s i)
      | else-self w ↦ rw w.self-inside-is (still s i w.if-self.false)
    ] in
    rw j.same (lowered_ranged i (no_value s.in_hand (sym c.if-is_some.ensures)) j.rows)

pub returns : goal.returns
returns c =
    let s = c.self.inside in
    let i = c.self.invariant in
    let j : Joined s c.if-self.self-inside =
    elim c.if-self.branch [
      | then-self w ↦ rw (w.self-inside-is, w.copy_within.ensures.after) (moved s i)
      | else-self w ↦ rw w.self-inside-is (still s i w.if-self.false)
    ] in
    let none = no_value s.in_hand (sym c.if-is_some.ensures) in
    let left = ap (λ (r : Rewritten). r.unread) c.self.view_is in
    rw (j.same, none, range_none, ← (ap (λ (r : Rewritten). r.written) c.self.view_is), ← (rw none at left)) (j.rows.front, refl)
