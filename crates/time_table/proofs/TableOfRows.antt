-- A table of rows has those rows, and a clean table is that of its rows: a table is its rows, and then empty ones.
-- Assumes nothing.
use mathlib.Core.Path.{◌≡◌, refl, sym}
use mathlib.Core.List.{List}
use Prim.Native.Nat.{◌≤◌}
use lib.ListN.{length}
use lib.Seq.{take-append_seam}
use Rattle.time_table.specs.declared.Row.{Row}
use Rattle.time_table.specs.declared.Table.{Table}
use Rattle.time_table.specs.Rows.{rows_of, table_of, Clean}
use Rattle.time_table.proofs.Held.{held_as}

-- a table of rows has those rows, and a clean table is that of its rows
pub rows_of_lem : (l : List Row) → rows_of (table_of l) ≡ l
rows_of_lem l = take-append_seam l _

pub clean_of : (l : List Row) → length l ≤ 128 → Clean (table_of l)
clean_of l le = held_as (record { is = refl; counts = refl; fits = le }) (sym (rows_of_lem l))

pub table_self : (t : Table) → Clean t → table_of (rows_of t) ≡ t
table_self t h = λ i. record { rows = sym h.is i; count = sym h.counts i }
