-- Removal of a part. Untouched left and right pieces stay. A covered piece loses the task, the last list member taking its
-- place; a piece whose height becomes 0 disappears. Rows are never joined.
use Rattle.std.specs.Prelude.{cond, List, [], ◌∷◌, ◌++◌, ℕ, suc, ◌+◌, ◌-◌, ◌≤◌, ◌<◌, ◌^◌, min, max, eqb, length, take, get_or, set}
use Rattle.time_table.specs.declared.Row.{Row}
use Rattle.time_table.specs.declared.Part.{Part}
use Rattle.time_table.specs.Rows.{row_of, tasks, Listed, cut}
use Rattle.time_table.specs.Pieces.{before_part, after_part}

-- the place of the first `id` in a list, and the list's length if it has none
abbrev pub position : ℕ → List ℕ → ℕ
position id [] = 0
position id (x ∷ xs) = cond (eqb x id) 0 (suc (position id xs))

-- a list without its first `id`: the last member takes its place
abbrev pub taken_out : ℕ → List ℕ → List ℕ
taken_out id xs = take (length xs - 1) (set xs (position id xs) (get_or xs (length xs - 1) 0))

-- a row without a task
unfoldable pub without : Row → ℕ → ℕ → Row
without r id usage = row_of r.start r.end (r.height - usage) (taken_out id (tasks r))

-- the covered piece, without the task: nothing where no height is left
unfoldable pub lessened : Part → Row → List Row
lessened p r =
    cond (eqb r.height p.usage) []
    (cut (without r p.id p.usage) (max p.from r.start) (min p.until (r.end + 1)))

-- what becomes of a row
abbrev pub reduced : Part → Row → List Row
reduced p r = before_part p r ++ lessened p r ++ after_part p r

unfoldable pub removal : Part → List Row → List Row
removal p [] = []
removal p (r ∷ rs) = reduced p r ++ removal p rs

-- a part can be taken out of a row: where the two meet the row lists the task, and is as high as the task's usage
pub record Removable (p : Part) (r : Row) : Type 0 where
  pub listed : Listed r
  pub room : r.end + 1 < 2 ^ 32
  pub there : max p.from r.start < min p.until (r.end + 1) → (position p.id (tasks r) < r.count) × (p.usage ≤ r.height)
