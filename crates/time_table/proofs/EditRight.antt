-- Rows that are right stay right: a part of a task can be put in where the task does not run, and taken out where it does.
-- Assumes nothing.
use mathlib.Core.Path.{◌≡◌, refl, sym, ap, ◌∙◌}
use mathlib.Core.Bool.{Bool, true, false, cond}
use mathlib.Core.List.{List, [], ◌∷◌}
use Prim.Native.Nat.{ℕ, ◌+◌, ◌≤◌, ◌<◌, max}
use native.Mathlib.Omega.{arith}
use borrow.Author.Tests.{eq-eqb}
use lib.ListN.{length}
use Rattle.time_table.specs.declared.Row.{Row}
use Rattle.time_table.specs.declared.Part.{Part}
use Rattle.time_table.specs.Rows.{tasks, row_at}
use Rattle.time_table.specs.Order.{Each, ticks}
use Rattle.time_table.specs.Insertion.{Insertable, insertion}
use Rattle.time_table.specs.Removal.{position, taken_out, without, Removable, removal}
use Rattle.time_table.specs.Meaning.{bit, has, summed, one, total, occurs, tally, height_at, Sound, Right, Within, PartOf, With}
use Rattle.time_table.proofs.Sums.{has_in}
use Rattle.time_table.proofs.AtRow.{each_at, each_of, summed_const, summed_zero, ordered_at, summed_at}
use Rattle.time_table.proofs.Pigeon.{fewer, occurs_position}
use Rattle.time_table.proofs.Totals.{total_bound, total_taken, total_without}
use Rattle.time_table.proofs.InsertionMeaning.{insertion_tally}
use Rattle.time_table.proofs.RowsInOrder.{insertion_ordered, removal_ordered}
use Rattle.time_table.proofs.RowSound.{insertion_sound, removal_sound}
use Rattle.time_table.proofs.RemovalSum.{Lessens, removal_sum}
use Rattle.time_table.proofs.Bits.{bit_le, bit_true, bit_false}

-- no member, where each has a share and the sum is 0
total_none : (u : ℕ → ℕ) (xs : List ℕ) → total u xs ≡ 0 → ((x : ℕ) → 0 < occurs x xs → 0 < u x) → xs ≡ []
unfolding total
total_none u [] e pos = refl
total_none u (x ∷ xs) e pos =
    let here : one x x ≡ 1 = rw (eq-eqb x x refl) in
    let some : 0 < u x = pos x (omega arith) in
    let no_way : ◌≡◌ {A = ℕ} 0 1 = omega arith in
    absurd (omega (arith, no_way))

occurs_more : (x : ℕ) (ts : List ℕ) (id : ℕ) → position id ts < length ts → 0 < occurs x (taken_out id ts) → 0 < occurs x ts
occurs_more x ts id at some = omega (arith, total_taken (one x) id ts at)

total_empty : (i : ℕ) (ts : List ℕ) (id : ℕ) → position id ts < length ts → taken_out id ts ≡ [] → occurs i ts ≡ one i id
unfolding total
total_empty i ts id at gone = omega (arith, total_taken (one i) id ts at, ap (total (one i)) gone)

-- where the part is, the task runs in the one and not in the other
module _ (p : Part) (small big : ℕ → ℕ → Bool) (with : With p small big) (t : ℕ) (l : p.from ≤ t) (r : t < p.until) where
  counts : bit (big p.id t) ≡ bit (small p.id t) + 1
  counts = rw (has_in p.from p.until t l r, eq-eqb p.id p.id refl) at (with t p.id)

  pub runs_in : big p.id t ≡ true
  runs_in = bit_true (big p.id t) (omega (arith, counts))

  pub free_in : small p.id t ≡ false
  free_in = bit_false (small p.id t) (omega (arith, counts, bit_le (big p.id t)))

module _ (runs : ℕ → ℕ → Bool) (usage : ℕ → ℕ) (rows : List Row) (right : Right runs usage rows) (k : ℕ) (lt : k < length rows) where
  -- the row lists exactly the tasks that run at each of its instants, each once
  pub lists : (t i : ℕ) → (row_at rows k).start ≤ t → t ≤ (row_at rows k).end → occurs i (tasks (row_at rows k)) ≡ bit (runs i t)
  lists t i l r = sym (summed_at (λ (r : Row). occurs i (tasks r)) t ticks 0 rows k lt right.ordered l r) ∙ right.exact t i

  -- where a task does not run its part can be put in
  insertable : (p : Part) → Within runs usage → PartOf usage p → (big : ℕ → ℕ → Bool) → With p runs big → Insertable p (row_at rows k)
  insertable p within of big with =
      let r = row_at rows k in
      let w = ordered_at ticks 0 rows k lt right.ordered in
      let s = each_at (Sound usage) rows k lt right.sound in
      record {
        listed = s.listed;
        room = omega arith;
        there = λ meet.
            let t = max p.from r.start in
            let here : (i : ℕ) → occurs i (tasks r) ≡ bit (runs i t) = λ i. lists t i (omega arith) (omega arith) in
            let free = free_in p runs big with t (omega arith) (omega arith) in
            let short : length (tasks r) < 32 =
            fewer (tasks r) (λ i. rw (here i) (bit_le (runs i t))) p.id 32
            (here p.id ∙ rw free) of.task (λ i le. here i ∙ rw (within.few i t le)) in
            (omega (arith, s.listed.counts), omega (arith, s.high, of.same, within.small p.id, total_bound usage 134217727 (λ i. omega (arith, within.small i)) (tasks r)));
      }

  -- and where it runs its part can be taken out
  removable : (p : Part) → PartOf usage p → (small : ℕ → ℕ → Bool) → With p small runs → Removable p (row_at rows k)
  removable p of small with =
      let r = row_at rows k in
      let w = ordered_at ticks 0 rows k lt right.ordered in
      let s = each_at (Sound usage) rows k lt right.sound in
      record {
        listed = s.listed;
        room = omega arith;
        there = λ meet.
            let t = max p.from r.start in
            let there = runs_in p small runs with t (omega arith) (omega arith) in
            let here : occurs p.id (tasks r) ≡ 1 = lists t p.id (omega arith) (omega arith) ∙ rw there in
            let at = occurs_position p.id (tasks r) (omega arith) in
            (omega (arith, at, s.listed.counts), omega (arith, of.same, s.high, total_taken usage p.id (tasks r) at));
      }

  -- how its list shrinks
  lessens : (p : Part) → p.usage ≡ usage p.id → Removable p (row_at rows k) → Within runs usage
      → (i : ℕ) → Lessens (λ (r : Row). occurs i (tasks r)) (one i p.id) p (row_at rows k)
  lessens p same can within i =
      let r = row_at rows k in
      let ts = tasks r in
      let s = each_at (Sound usage) rows k lt right.sound in
      record {
        falls = λ meet. total_without (one i) r p.id p.usage (omega (arith, can.there meet, s.listed.counts));
        flat = λ meet e.
            let t = max p.from r.start in
            let at : position p.id ts < length ts = omega (arith, can.there meet, s.listed.counts) in
            let left : total usage (taken_out p.id ts) ≡ 0 = omega (arith, total_taken usage p.id ts at, s.high, e, same) in
            let gone : taken_out p.id ts ≡ [] =
            total_none usage (taken_out p.id ts) left (λ x some.
            within.draws x t (bit_true _ (rw (lists t x (omega arith) (omega arith)) at (occurs_more x ts p.id at some)))) in
            total_empty i ts p.id at gone;
      }

module _ (runs runs' : ℕ → ℕ → Bool) (usage : ℕ → ℕ) (rows : List Row) (right : Right runs usage rows) (within : Within runs usage)
    (p : Part) (of : PartOf usage p) where
  pub each_insertable : With p runs runs' → Each (Insertable p) rows
  each_insertable with = each_of (Insertable p) rows (λ k lt. insertable runs usage rows right k lt p within of runs' with)

  pub each_removable : With p runs' runs → Each (Removable p) rows
  each_removable with = each_of (Removable p) rows (λ k lt. removable runs usage rows right k lt p of runs' with)

  -- an insertion is right where the part runs besides
  pub insertion_right : With p runs runs' → Right runs' usage (insertion p rows)
  insertion_right with =
      let some : p.from ≤ p.until = omega (arith, of.some) in
      record {
        ordered = insertion_ordered p ticks 0 p.from rows right.ordered some of.top (omega arith);
        sound = insertion_sound usage p of.same p.from rows (omega arith) right.sound (each_insertable with);
        exact = λ t i. omega (arith, insertion_tally p ticks 0 t rows right.ordered some i, right.exact t i, with t i);
      }

  -- where the part is, a row is
  covered : (t v : ℕ) → With p runs' runs → summed (λ (r : Row). cond (has p.from p.until t) v 0) t rows ≡ cond (has p.from p.until t) v 0
  covered t v with = go (has p.from p.until t) refl
    where
      here : one p.id p.id ≡ 1
      here = rw (eq-eqb p.id p.id refl)

      some : has p.from p.until t ≡ true → 0 < tally t p.id rows
      some e = omega (arith, right.exact t p.id, rw (e, here) at (with t p.id))

      go : (b : Bool) → has p.from p.until t ≡ b → summed (λ (r : Row). cond b v 0) t rows ≡ cond b v 0
      go true e = summed_const (λ (r : Row). occurs p.id (tasks r)) t v ticks 0 rows right.ordered (some e)
      go false e = summed_zero t rows

  -- a removal takes the task away where the part is, and its usage, and changes nothing elsewhere
  pub removal_tally : With p runs' runs → (t i : ℕ) → tally t i (removal p rows) + cond (has p.from p.until t) (one i p.id) 0 ≡ tally t i rows
  removal_tally with t i =
      let f : Row → ℕ = λ r. occurs i (tasks r) in
      let can = each_removable with in
      let all = each_of (Lessens f (one i p.id) p) rows (λ k lt. lessens runs usage rows right k lt p of.same (each_at (Removable p) rows k lt can) within i) in
      omega (arith, removal_sum f t (one i p.id) p (λ r x y. refl) rows (omega (arith, of.some)) all, covered t (one i p.id) with)

  pub removal_height : With p runs' runs → (t : ℕ) → height_at t (removal p rows) + cond (has p.from p.until t) p.usage 0 ≡ height_at t rows
  unfolding without
  removal_height with t =
      let f : Row → ℕ = λ r. r.height in
      let can = each_removable with in
      let all = each_of (Lessens f p.usage p) rows (λ k lt.
      record { falls = λ meet. omega (arith, (each_at (Removable p) rows k lt can).there meet); flat = λ meet e. e }) in
      omega (arith, removal_sum f t p.usage p (λ r x y. refl) rows (omega (arith, of.some)) all, covered t p.usage with)

  -- and is right where the part does not run any more
  pub removal_right : With p runs' runs → Right runs' usage (removal p rows)
  removal_right with =
      let some : p.from ≤ p.until = omega (arith, of.some) in
      record {
        ordered = removal_ordered p ticks 0 rows right.ordered some;
        sound = removal_sound usage p of.same rows right.sound (each_removable with);
        exact = λ t i. omega (arith, removal_tally with t i, right.exact t i, with t i);
      }
