-- A row is its numbers and its list, since its array is the list and then zeros; with the last id in a task's place and a zero in the last one, the array
-- holds the list without the task.
-- Assumes nothing.
use mathlib.Core.Path.{◌≡◌}
use mathlib.Core.List.{List}
use Prim.Native.Nat.{ℕ, ◌-◌, ◌<◌}
use native.Mathlib.Omega.{arith}
use lib.ListN.{take, get_or, set}
use Rattle.time_table.specs.declared.Row.{Row}
use Rattle.time_table.specs.Held.{Held}
use Rattle.time_table.specs.Rows.{row_of}
use Rattle.time_table.specs.Removal.{position, taken_out}
use Rattle.time_table.proofs.Held.{held_as, held_set, held_pop, held_get}

-- a row whose array holds a list is the row of that list
pub row_held : (s e h : ℕ) {ids ts : List ℕ} {n : ℕ} → Held 32 0 ids n ts
    → ◌≡◌ {A = Row} (record { start = s; end = e; height = h; ids = ids; count = n }) (row_of s e h ts)
row_held s e h k = λ i. record { start = s; end = e; height = h; ids = k.is i; count = k.counts i }

-- the last of the list at the task's place, and a 0 in the last place
pub held_taken : {ids ts : List ℕ} {n : ℕ} → Held 32 0 ids n ts → (id at : ℕ) → at ≡ position id ts → at < n
    → Held 32 0 (set (set ids at (get_or ids (n - 1) 0)) (n - 1) 0) (n - 1) (taken_out id ts)
held_taken {ids} {ts} {n} h id at e lt =
    let popped = held_pop (held_set h at (get_or ids (n - 1) 0) lt) (n - 1) (omega arith) in
    let same : take (n - 1) (set ts at (get_or ids (n - 1) 0)) ≡ taken_out id ts = cc (held_get h 0 (n - 1) (omega arith), h.counts) in
    held_as popped same
