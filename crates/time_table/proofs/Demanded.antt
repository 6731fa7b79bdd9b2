-- Rows that are right are what demand 3 says: an instant lies in one row at most, that row's list has each running task once, and a row
-- lists some task.
-- Assumes nothing.
use mathlib.Core.Path.{◌≡◌, refl, sym, ◌∙◌}
use mathlib.Core.Bool.{Bool, false, true≢false}
use mathlib.Core.Logic.{⊎_elim}
use mathlib.Core.List.{List, [], ◌∷◌}
use Prim.Native.Nat.{ℕ, zero, suc, ◌≤◌, ◌<◌}
use native.Mathlib.Nat.{not-suc-le-zero}
use native.Mathlib.Omega.{arith}
use borrow.Author.Tests.{eq-eqb}
use lib.ListN.{length}
use Rattle.time_table.specs.declared.Row.{Row}
use Rattle.time_table.specs.Rows.{tasks, row_at}
use Rattle.time_table.specs.Order.{ticks}
use Rattle.time_table.specs.Meaning.{bit, summed, one, total, occurs, height_at, Sound, Right}
use Rattle.time_table.specs.Demand.{draw_at, In, Demanded}
use Rattle.time_table.proofs.AtRow.{row_or_none, each_at, ordered_at, summed_at, ordered_apart}
use Rattle.time_table.proofs.Draws.{total_drawn}
use Rattle.time_table.proofs.EditRight.{lists}
use Rattle.time_table.proofs.Bits.{bit_false}

-- a list that is not empty has some number
some_member : (xs : List ℕ) → ((i : ℕ) → occurs i xs ≡ 0) → 0 < length xs → ⊥
unfolding total
some_member [] none lt = not-suc-le-zero lt
some_member (x ∷ xs) none lt =
    let here : one x x ≡ 1 = rw (eq-eqb x x refl) in
    omega (arith, none x)

draw_none : (runs : ℕ → ℕ → Bool) (usage : ℕ → ℕ) (n t : ℕ) → ((i : ℕ) → runs i t ≡ false) → draw_at runs usage n t ≡ 0
unfolding draw_at
draw_none runs usage zero t none = refl
draw_none runs usage (suc n) t none = rw (none n, draw_none runs usage n t none)

module _ (runs : ℕ → ℕ → Bool) (usage : ℕ → ℕ) (n : ℕ) (rows : List Row) (right : Right runs usage rows) (few : (i t : ℕ) → n ≤ i → runs i t ≡ false) where
  lists_at : (k t i : ℕ) → In rows k t → occurs i (tasks (row_at rows k)) ≡ bit (runs i t)
  lists_at k t i w = lists runs usage rows right k w.one_of t i w.from w.to

  sums_at : (k t : ℕ) → In rows k t → (row_at rows k).height ≡ draw_at runs usage n t
  sums_at k t w =
      (each_at (Sound usage) rows k w.one_of right.sound).high
      ∙ total_drawn runs usage t (tasks (row_at rows k)) (λ i. lists_at k t i w) n (λ i le. few i t le)

  idle : (t : ℕ) → ((f : Row → ℕ) → summed f t rows ≡ 0) → (i : ℕ) → runs i t ≡ false
  idle t none i = bit_false (runs i t) (omega (arith, right.exact t i, none (λ r. occurs i (tasks r))))

  -- the rows are as high at every instant as the running tasks draw
  pub height_drawn : (t : ℕ) → height_at t rows ≡ draw_at runs usage n t
  height_drawn t =
      ⊎_elim
      (λ w. summed_at (λ (r : Row). r.height) t ticks 0 rows w.place w.there.one_of right.ordered w.there.from w.there.to ∙ sums_at w.place t w.there)
      (λ none. none (λ r. r.height) ∙ sym (draw_none runs usage n t (idle t none)))
      (row_or_none t rows)

  pub demanded : Demanded runs usage n rows
  demanded =
      record {
        sorted = λ j k lt in-it. ordered_apart ticks 0 rows j k right.ordered lt in-it;
        proper = λ k in-it. (ordered_at ticks 0 rows k in-it right.ordered).1;
        lists = lists_at;
        sums = sums_at;
        covered = λ t i e. ⊎_elim (λ w. w) (λ none. absurd (true≢false (sym e ∙ idle t none i))) (row_or_none t rows);
        bare = λ t none w.
            let s = each_at (Sound usage) rows w.place w.there.one_of right.sound in
            some_member (tasks (row_at rows w.place)) (λ i. lists_at w.place t i w.there ∙ rw (none i)) (omega (arith, s.some, s.listed.counts));
      }
