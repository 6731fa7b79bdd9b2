-- A known id is not negative and below the count; and whole structs from their lists.
-- Assumes nothing.
use mathlib.Core.Path.{◌≡◌, sym}
use mathlib.Core.Bool.{true}
use mathlib.Core.List.{List}
use Prim.Native.Nat.{ℕ, ◌<◌}
use borrow.Author.Tests.{ltb-true}
use lib.Dec.{ltb}
use lib.IntN.{ℤ, pos}
use lib.Signed.{le_z}
use lib.Seq.{take-append_seam}
use Rattle.time_table.proofs.Bits.{both}
use Rattle.sweep.specs.declared.Tasks.{Tasks}
use Rattle.sweep.specs.Tasks.{tasks_of, tasks_with, HeldTasks}
use Rattle.sweep.specs.declared.Task.{Task}
use Rattle.planner.specs.Instants.{amount}
use Rattle.planner.specs.Updates.{known}

pub known_true : (count : ℕ) (id : ℤ) → known count id ≡ true → (le_z (pos 0) id ≡ true) × (amount id < count)
unfolding known
known_true count id e =
    let w = both (le_z (pos 0) id) (ltb (amount id) count) e in
    (w.0, ltb-true (amount id) count w.1)

pub tasks_self : (ts : Tasks) → HeldTasks ts → tasks_with (tasks_of ts) ≡ ts
tasks_self ts h = λ i. record { list = sym h.is i; count = sym h.counts i }

pub tasks_of_lem : (l : List Task) → tasks_of (tasks_with l) ≡ l
tasks_of_lem l = take-append_seam l _
