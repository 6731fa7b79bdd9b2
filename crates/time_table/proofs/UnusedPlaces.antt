-- Unused places: of a row's 32 ids they are 0, and of a table's 128 rows they are rows of zeros, since an array is its list and then one value to its end.
-- Assumes nothing.
use mathlib.Core.Path.{◌≡◌, refl, ◌∙◌}
use mathlib.Core.List.{List}
use Prim.Native.Nat.{ℕ, ◌+◌, ◌-◌, ◌≤◌, ◌<◌}
use native.Mathlib.Omega.{arith}
use lib.ListN.{length, get_or, replicate, get_or-replicate}
use lib.Seq.{get_or-append-add}
use Rattle.time_table.specs.declared.Row.{Row}
use Rattle.time_table.specs.declared.Table.{Table}
use Rattle.time_table.specs.Held.{Held}
use Rattle.time_table.specs.Rows.{empty_row, AllZero, Listed, Clean, no_row, row_at}
use Rattle.time_table.proofs.Held.{held_length}

-- an array that holds a list is blank from the count on
held_blank : {A : Type 0} {cap n : ℕ} {blank : A} {arr l : List A} → Held cap blank arr n l → (d : A) (k : ℕ) → n ≤ k → k < cap → get_or arr k d ≡ blank
held_blank {A} {cap} {n} {blank} {arr} {l} h d k le lt =
    let place : k ≡ length l + (k - length l) = omega (arith, h.counts) in
    (λ i. get_or (h.is i) (place i) d) ∙ get_or-append-add l (replicate (cap - length l) blank) (k - length l) d
    ∙ get_or-replicate (cap - length l) (k - length l) blank d (omega (arith, h.counts))

pub empty_zero : AllZero empty_row
empty_zero = record { start = refl; end = refl; height = refl; count = refl; ids = λ k lt. get_or-replicate 32 k 0 1 lt }

module _ (r : Row) (h : Listed r) where
  pub ids_places : length r.ids ≡ 32
  ids_places = held_length h

  pub unused_ids : (k : ℕ) → r.count ≤ k → k < 32 → get_or r.ids k 1 ≡ 0
  unused_ids k le lt = held_blank h 1 k le lt

module _ (t : Table) (h : Clean t) where
  pub rows_places : length t.rows ≡ 128
  rows_places = held_length h

  pub unused_rows : (k : ℕ) → t.count ≤ k → k < 128 → AllZero (row_at t.rows k)
  unused_rows k le lt = rw (held_blank h no_row k le lt) empty_zero
