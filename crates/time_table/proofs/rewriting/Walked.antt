-- A step on its way through rows: what is written, and what the step makes of the rows that are not read yet, are all that it makes.
-- Assumes nothing.
use mathlib.Core.Logic.{◌⊎◌, inl, inr, ⊎_elim}
use Rattle.std.proofs.Common.{◌≡◌, true, sym, ap, ◌∙◌, List, [], ◌∷◌, ◌++◌, ℕ, ◌+◌, ◌^◌, ◌≤◌, ◌<◌, max, length, arith, append_assoc, length-append}
use Rattle.time_table.specs.declared.Row.{Row}
use Rattle.time_table.specs.declared.part_by_part.Step.{Step}
use Rattle.time_table.specs.Order.{Each, Ordered, ticks}
use Rattle.time_table.specs.PartByPart.{part_of, stepped, pieces_of, behind, made_last, untouched, Changeable, CanStep}
use Rattle.time_table.specs.Rewriting.{Rewritten, Starts, Walks}
use Rattle.time_table.proofs.rewriting.StepsOverRows.{stepped_nil, stepped_cons, untouched_late, changeable_behind, behind_low, behind_some, late_behind, pieces_over, stepped_early, ordered_behind, each_behind}

-- a removal has written one row more than it has read only where it has come to the part
pub record Walked (whole : List Row) (s : Step) (now : Rewritten) : Type 0 where
  pub joins : now.written ++ stepped s now.unread ≡ whole
  pub some : (part_of s).from ≤ (part_of s).until
  pub lo : ℕ
  pub ordered : Ordered ticks lo now.unread
  pub each : Each (Changeable s) now.unread
  pub late : Each (λ (r : Row). (part_of s).from ≤ r.end) now.unread
  pub lead : ((part_of s).from < (part_of s).until) × (length now.written + length now.unread ≤ 128) ⊎ ((part_of s).from ≤ lo)

module _ {whole : List Row} {s : Step} {now : Rewritten} (w : Walked whole s now) where
  -- no row is left
  pub walked_all : now.unread ≡ [] → now.written ++ made_last s ≡ whole
  walked_all e = ap (λ (l : List Row). now.written ++ l) (sym (ap (stepped s) e ∙ stepped_nil s)) ∙ w.joins

  -- the next row, and those that follow
  module _ (r : Row) (rest : List Row) (first : now.unread ≡ r ∷ rest) where
    ordered : Ordered ticks w.lo (r ∷ rest)
    ordered = rw first at w.ordered

    pub row_changes : Changeable s r
    unfolding Each
    row_changes = (rw first at w.each).0

    row_late : (part_of s).from ≤ r.end
    unfolding Each
    row_late = (rw first at w.late).0

    pub row_ends : r.end + 1 < 2 ^ 32
    unfolding Ordered
    row_ends = omega (arith, ordered.2)

    -- they stay
    pub stays : untouched s r ≡ true → now.written ++ (r ∷ rest) ++ made_last s ≡ whole
    stays e =
        let start : ((part_of s).from < (part_of s).until) ⊎ ((part_of s).from ≤ w.lo) = ⊎_elim (λ l. inl l.0) (λ l. inr l) w.lead in
        rw append_assoc
        (ap (λ (l : List Row). now.written ++ l) (sym (ap (stepped s) first ∙ untouched_late s w.lo r rest w.some start row_late ordered e)) ∙ w.joins)

    pub stays_over : untouched s r ≡ true → 129 < length now.written + 1 + max 1 (length rest) → 128 < length whole
    stays_over e over = omega (arith, over, simp length-append at (ap length (stays e)))

    -- or the first falls into pieces
    falls : now.written ++ pieces_of s r ++ stepped (behind s r) rest ≡ whole
    falls = rw append_assoc (ap (λ (l : List Row). now.written ++ l) (sym (ap (stepped s) first ∙ stepped_cons s r rest)) ∙ w.joins)

    pub walked_on : (next : Rewritten) → next.written ≡ now.written ++ pieces_of s r → next.unread ≡ rest → Walked whole (behind s r) next
    unfolding Ordered Each
    walked_on next written unread =
        record {
          joins = rw (written, unread) falls;
          some = behind_some s r w.some;
          lo = r.end + 1;
          ordered = rw unread ordered.3;
          each = rw unread (changeable_behind s r rest w.some (rw first at w.each).1);
          late = rw unread (late_behind s r rest row_late ordered.3);
          lead = inr (behind_low s r row_late);
        }

    pub falls_over : length now.written + length now.unread ≤ 129 → 129 < length now.written + length (pieces_of s r) + max 1 (length rest) → 128 < length whole
    falls_over few over =
        let lead : (length now.written + (1 + length rest) ≤ 128) ⊎ ((part_of s).from ≤ w.lo) = ⊎_elim (λ l. inl (omega (arith, ap length first, l.1))) (λ l. inr l) w.lead in
        let long = pieces_over s w.lo (length now.written) r rest w.some row_late ordered (omega (arith, ap length first)) lead over in
        omega (arith, long, simp length-append at (ap length falls), simp length-append at long)

-- A step that starts over with rows that it can be made of.
module _ {s : Step} {rows : List Row} {now : Rewritten} (can : CanStep s rows) (start : Starts rows (part_of s).from now) where
  pub starts_walk : Walks s now
  starts_walk =
      record {
        some = can.some;
        lo = 0;
        ordered = ordered_behind 0 now.written now.unread (rw (← start.joins) at can.ordered);
        each = each_behind _ now.written now.unread (rw (← start.joins) at can.each);
        late = start.late;
        few = omega (arith, start.few, ap length start.joins, length-append now.written now.unread);
      }

  pub start_skips : stepped s rows ≡ now.written ++ stepped s now.unread
  start_skips =
      ap (stepped s) (sym start.joins) ∙ stepped_early s 0 now.written now.unread (omega (arith, can.some)) (rw (← start.joins) at can.ordered) start.early

  -- what the walk has written, the rows that are left and what lies behind them are all
  pub start_whole : (left : Step) (walked rest : Rewritten) (piece : List Row) → walked.written ++ walked.unread ++ made_last left ≡ now.written ++ stepped s now.unread
      → (rest.written ≡ walked.written ++ walked.unread) × (rest.unread ≡ []) → piece ≡ made_last left → rest.written ++ piece ≡ stepped s rows
  start_whole left walked rest piece on kept last = rw (last, kept.0) (on ∙ sym start_skips)
