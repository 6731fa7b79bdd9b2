-- The pass over a table's rows, one row at a time: what is left to do is to settle the candidate over the rows from a place on.
-- Assumes nothing.
use mathlib.Core.Path.{◌≡◌, sym, ap, ◌∙◌}
use mathlib.Core.List.{List, ◌∷◌}
use Prim.Native.Nat.{ℕ, ◌+◌, ◌≤◌, ◌<◌, ◌^◌}
use native.Mathlib.Omega.{arith}
use lib.ListN.{length, drop, drop_of_length-le}
use Rattle.std.proofs.lemmas.List.{drop_more}
use Rattle.time_table.specs.declared.Row.{Row}
use Rattle.time_table.specs.Rows.{row_at, no_row}
use Rattle.time_table.specs.Order.{Ordered, ticks}
use Rattle.time_table.proofs.RowsInOrder.{ordered_from}
use Rattle.fit.specs.declared.Asked.{Asked}
use Rattle.fit.specs.FirstFit.{moved, settled, answer, first_fit}
use Rattle.fit.proofs.CandidateStart.{settled_before, answer_late, room_some}

-- the pass with the candidate `start` and the rows from `at` on before it
pub record Passing (asked : Asked) (capacity : ℕ) (rows : List Row) (start at : ℕ) : Type 0 where
  pub ordered : Ordered ticks 0 (drop at rows)
  pub left : first_fit asked capacity rows ≡ answer asked (settled asked capacity start (drop at rows))

pub pass_begins : (asked : Asked) (capacity : ℕ) (rows : List Row) → Ordered ticks 0 rows → asked.usage ≤ capacity
    → Passing asked capacity rows asked.earliest 0
pass_begins asked capacity rows h room = record { ordered = h; left = room_some asked capacity rows room }

module _ {asked : Asked} {capacity : ℕ} {rows : List Row} {start at : ℕ} (p : Passing asked capacity rows start at) where
  -- a candidate past the bounds ends the pass, and so does the last row
  pub pass_late : asked.latest < start → answer asked start ≡ first_fit asked capacity rows
  pass_late h = sym (p.left ∙ answer_late asked capacity start (drop at rows) h)

  pub pass_ends : length rows ≤ at → answer asked start ≡ first_fit asked capacity rows
  unfolding settled
  pass_ends h = sym (rw (drop_of_length-le rows h) at p.left)

  module _ (lt : at < length rows) where
    split : Ordered ticks 0 (row_at rows at ∷ drop (at + 1) rows)
    split = rw (drop_more rows at no_row lt) at p.ordered

    pub row_ends : (row_at rows at).end + 1 < 2 ^ 32
    unfolding Ordered
    row_ends = omega (arith, split.2)

    -- a row behind the run ends it too
    pub pass_stops : start + asked.run ≤ (row_at rows at).start → answer asked start ≡ first_fit asked capacity rows
    unfolding Ordered
    pass_stops h =
        let rest = settled_before asked capacity ticks (row_at rows at).start start (row_at rows at ∷ drop (at + 1) rows) (omega arith, split.1, split.2, split.3) h in
        sym (p.left ∙ ap (answer asked) (rw (drop_more rows at no_row lt) rest))

    -- any other row moves the candidate, or leaves it where it is
    pub pass_on : (next : ℕ) → next ≡ moved asked capacity start (row_at rows at) → Passing asked capacity rows next (at + 1)
    unfolding Ordered settled
    pass_on next e =
        rw e
        record {
          ordered = ordered_from ticks 0 ((row_at rows at).end + 1) (drop (at + 1) rows) (omega arith) split.3;
          left = rw (drop_more rows at no_row lt) at p.left;
        }
