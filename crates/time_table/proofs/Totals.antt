-- A sum over a list's members: of two lists, after a store, and without one of its members.
-- Assumes nothing.
use mathlib.Core.Path.{◌≡◌, refl, sym, ap, ◌∙◌}
use mathlib.Core.Bool.{Bool, true, false, cond}
use mathlib.Core.List.{List, [], ◌∷◌, ◌++◌}
use Prim.Native.Nat.{ℕ, zero, suc, ◌+◌, ◌-◌, ◌<◌, ◌*◌, ◌≤◌}
use native.Mathlib.Nat.{zero-add, add_assoc, add-zero, not-suc-le-zero, le_of_suc-le-suc}
use native.Mathlib.Decide.{ℕ_discrete}
use native.Mathlib.Omega.{arith}
use lib.Dec.{eqb}
use lib.ListN.{length, take, get_or, set, length-set}
use lib.Seq.{take-suc, take_all, get_or-set_same, get_or-set_other, take-append_seam}
use borrow.Author.Tests.{eqb-true}
use Rattle.time_table.specs.declared.Row.{Row}
use Rattle.time_table.specs.Rows.{tasks, row_of}
use Rattle.time_table.specs.Insertion.{joined}
use Rattle.time_table.specs.Removal.{position, taken_out, without}
use Rattle.time_table.specs.Meaning.{total}

module _ (u : ℕ → ℕ) where
  pub total_append : (xs ys : List ℕ) → total u (xs ++ ys) ≡ total u xs + total u ys
  unfolding total
  total_append [] ys = sym (zero-add _)
  total_append (x ∷ xs) ys = rw (total_append xs ys) (sym (add_assoc _ _ _))

  pub total_set : (xs : List ℕ) (k v : ℕ) → k < length xs → total u (set xs k v) + u (get_or xs k 0) ≡ total u xs + u v
  unfolding total
  total_set [] k v lt = absurd (not-suc-le-zero lt)
  total_set (x ∷ xs) zero v lt = omega arith
  total_set (x ∷ xs) (suc k) v lt = omega (arith, total_set xs k v (le_of_suc-le-suc lt))

  pub total_last : (xs : List ℕ) (k : ℕ) → length xs ≡ suc k → total u (take k xs) + u (get_or xs k 0) ≡ total u xs
  unfolding total
  total_last xs k e =
      let split : xs ≡ take k xs ++ get_or xs k 0 ∷ [] = sym (take_all (suc k) xs (omega arith)) ∙ take-suc xs k 0 (omega arith) in
      omega (arith, total_append (take k xs) (get_or xs k 0 ∷ []), ap (total u) split)

-- shares that are at most m, and that are 1
pub total_bound : (u : ℕ → ℕ) (m : ℕ) → ((x : ℕ) → u x ≤ m) → (xs : List ℕ) → total u xs ≤ length xs * m
unfolding total
total_bound u m le [] = omega arith
total_bound u m le (x ∷ xs) = omega (arith, le x, total_bound u m le xs)

pub total_ones : (xs : List ℕ) → total (λ (x : ℕ). 1) xs ≡ length xs
unfolding total
total_ones [] = refl
total_ones (x ∷ xs) = omega (arith, total_ones xs)

-- the first `id` of a list is at its position
pub position_is : (id : ℕ) (xs : List ℕ) → position id xs < length xs → get_or xs (position id xs) 0 ≡ id
position_is id [] lt = absurd (not-suc-le-zero lt)
position_is id (x ∷ xs) lt = go (position_is id xs) (eqb x id) refl lt
  where
    go : (position id xs < length xs → get_or xs (position id xs) 0 ≡ id) → (b : Bool) → eqb x id ≡ b → cond b 0 (suc (position id xs)) < suc (length xs) → get_or (x ∷ xs) (cond b 0 (suc (position id xs))) 0 ≡ id
    go later true e l = eqb-true x id e
    go later false e l = later (le_of_suc-le-suc l)

moved_last : (xs : List ℕ) (k m : ℕ) → k < length xs → get_or (set xs k (get_or xs m 0)) m 0 ≡ get_or xs m 0
moved_last xs k m lt =
    elim (ℕ_discrete m k) [
      | yes e ↦ rw e (get_or-set_same xs k _ 0 lt)
      | no ne ↦ get_or-set_other xs k m _ 0 ne
    ]

-- a list without one `id` is less by the `id`'s share
pub total_taken : (u : ℕ → ℕ) (id : ℕ) (xs : List ℕ) → position id xs < length xs → total u (taken_out id xs) + u id ≡ total u xs
total_taken u id xs lt =
    let k = position id xs in
    let m = length xs - 1 in
    let v = get_or xs m 0 in
    let full : length (set xs k v) ≡ suc m = rw length-set (omega arith) in
    omega (arith, total_last u (set xs k v) m full, ap u (moved_last xs k m lt), total_set u xs k v lt, ap u (position_is id xs lt))

-- the same of a row's tasks
pub tasks_row_of : (s e h : ℕ) (ts : List ℕ) → tasks (row_of s e h ts) ≡ ts
tasks_row_of s e h ts = take-append_seam ts _

pub total_joined : (u : ℕ → ℕ) (r : Row) (id usage : ℕ) → total u (tasks (joined r id usage)) ≡ total u (tasks r) + u id
unfolding joined total
total_joined u r id usage =
    rw (tasks_row_of r.start r.end (r.height + usage) (tasks r ++ id ∷ []), total_append u (tasks r) (id ∷ []), add-zero)

pub total_without : (u : ℕ → ℕ) (r : Row) (id usage : ℕ) → position id (tasks r) < length (tasks r)
    → total u (tasks (without r id usage)) + u id ≡ total u (tasks r)
unfolding without
total_without u r id usage lt =
    rw (tasks_row_of r.start r.end (r.height - usage) (taken_out id (tasks r))) (total_taken u id (tasks r) lt)
