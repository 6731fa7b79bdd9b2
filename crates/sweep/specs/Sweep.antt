-- The sweep: the maximal runs of instants with one unchanging, non-empty set of covering tasks.
-- The time line is cut where parts start and end, and between two cuts the covering tasks do not change.
use Rattle.std.specs.Prelude.{cond, Option, Some, None, Result, Ok, Err, List, [], ◌∷◌, ℕ, zero, suc, ◌-◌, ltb, length}
use Rattle.time_table.specs.declared.Row.{Row}
use Rattle.time_table.specs.declared.Table.{Table}
use Rattle.time_table.specs.Rows.{row_of, table_of}
use Rattle.time_table.specs.Meaning.{total}
use Rattle.time_table.specs.Overload.{conflict_in}
use Rattle.sweep.specs.declared.Task.{Task}
use Rattle.sweep.specs.Tasks.{task_at, latest_of, usage_of, run_end, runs}
use Rattle.sweep.specs.Sorting.{ordered}

-- the tasks that cover t, by latest start and then by id
unfoldable pub ids_at : List Task → ℕ → List ℕ
ids_at ts t = ordered (λ (i : ℕ). runs ts i t) (λ (i j : ℕ). ltb (latest_of ts i) (latest_of ts j)) (length ts)

-- a number at its place among ascending numbers, unless it is there
unfoldable pub insert_cut : ℕ → List ℕ → List ℕ
insert_cut x [] = x ∷ []
insert_cut x (y ∷ ys) = let rest = insert_cut x ys in cond (ltb x y) (x ∷ y ∷ ys) (cond (ltb y x) (y ∷ rest) (y ∷ ys))

-- the starts and ends of the parts of the tasks below n, of those that are not empty
unfoldable pub cuts_below : List Task → ℕ → List ℕ
cuts_below ts zero = []
cuts_below ts (suc n) =
    let rest = cuts_below ts n in
    cond (ltb (latest_of ts n) (run_end (task_at ts n))) (insert_cut (latest_of ts n) (insert_cut (run_end (task_at ts n)) rest)) rest

unfoldable pub cuts : List Task → List ℕ
cuts ts = cuts_below ts (length ts)

-- a row for the instants from a up to but without b and these tasks, unless there are none
unfoldable pub laid : (ℕ → ℕ) → ℕ → ℕ → List ℕ → List Row → List Row
laid usage a b [] rows = rows
laid usage a b (i ∷ is) rows = row_of a (b - 1) (total usage (i ∷ is)) (i ∷ is) ∷ rows

-- the rows from the cut a on, where those behind it are given
unfoldable pub rows_from : List Task → ℕ → List ℕ → List Row
rows_from ts a [] = []
rows_from ts a (b ∷ bs) = laid (usage_of ts) a b (ids_at ts a) (rows_from ts b bs)

unfoldable pub rows_by : List Task → List ℕ → List Row
rows_by ts [] = []
rows_by ts (a ∷ bs) = rows_from ts a bs

unfoldable pub sweep : List Task → List Row
sweep ts = rows_by ts (cuts ts)

-- the answer: overloaded with the earliest row that is too high, if there is one, and else the table of the rows
abbrev pub swept_by : Option Row → List Row → Result Table Row
swept_by (Some r) rows = Err r
swept_by None rows = Ok (table_of rows)

abbrev pub swept : ℕ → List Task → Result Table Row
swept capacity ts = swept_by (conflict_in capacity (sweep ts)) (sweep ts)
