-- What rows say of an instant: how often they list a task there, and how high they are there.
use Rattle.std.specs.Prelude.{Bool, true, false, cond, ◌&&◌, ◌≡◌, List, [], ◌∷◌, ℕ, ◌+◌, ◌≤◌, ◌<◌, ◌^◌, ltb, leb, eqb}
use Rattle.time_table.specs.declared.Row.{Row}
use Rattle.time_table.specs.declared.Part.{Part}
use Rattle.time_table.specs.Rows.{room_for_ids, tasks, Listed}
use Rattle.time_table.specs.Order.{Each, Ordered, ticks}

-- the instant t lies in the interval from x up to but without y
unfoldable pub has : ℕ → ℕ → ℕ → Bool
has x y t = leb x t && ltb t y

-- 1 where something holds, and else 0
abbrev pub bit : Bool → ℕ
bit b = cond b 1 0

-- the sum of f over the rows that contain the instant t
unfoldable pub summed : (Row → ℕ) → ℕ → List Row → ℕ
summed f t [] = 0
summed f t (r ∷ rs) = cond (has r.start (r.end + 1) t) (f r) 0 + summed f t rs

-- the sum of u over a list's members; how often a list has a number
unfoldable pub total : (ℕ → ℕ) → List ℕ → ℕ
total u [] = 0
total u (x ∷ xs) = u x + total u xs

abbrev pub one : ℕ → ℕ → ℕ
one i x = bit (eqb x i)

abbrev pub occurs : ℕ → List ℕ → ℕ
occurs i xs = total (one i) xs

-- how often the rows list the task i at t, and how high they are there
abbrev pub tally : ℕ → ℕ → List Row → ℕ
tally t i rows = summed (λ (r : Row). occurs i (tasks r)) t rows

abbrev pub height_at : ℕ → List Row → ℕ
height_at t rows = summed (λ (r : Row). r.height) t rows

-- a row by itself is right: its array, its height, which is the sum of its tasks' usages, and that it lists some task
pub record Sound (usage : ℕ → ℕ) (r : Row) : Type 0 where
  pub listed : Listed r
  pub high : r.height ≡ total usage (tasks r)
  pub some : 0 < r.count

-- which task must run at which instant
abbrev pub Runs : Type 0
Runs = ℕ → ℕ → Bool

-- the rows are right where `runs i t` says whether the task i must run at the instant t:
-- they are sorted and disjoint, and at each instant they list each running task once, and no other
pub record Right (runs : Runs) (usage : ℕ → ℕ) (rows : List Row) : Type 0 where
  pub ordered : Ordered ticks 0 rows
  pub sound : Each (Sound usage) rows
  pub exact : (t i : ℕ) → tally t i rows ≡ bit (runs i t)

-- what a table can hold: only 32 tasks ever run, a task that runs draws something, and 32 draws fit a height
pub record Within (runs : Runs) (usage : ℕ → ℕ) : Type 0 where
  pub few : (i t : ℕ) → room_for_ids ≤ i → runs i t ≡ false
  pub draws : (i t : ℕ) → runs i t ≡ true → 0 < usage i
  pub small : (i : ℕ) → usage i < 2 ^ 27

-- a part, of some instants, of one of those tasks
pub record PartOf (usage : ℕ → ℕ) (p : Part) : Type 0 where
  pub some : p.from < p.until
  pub top : p.until ≤ ticks
  pub task : p.id < room_for_ids
  pub same : p.usage ≡ usage p.id

-- `big` has all that runs in `small`, and the part p besides, which is not in `small`
abbrev pub With : Part → Runs → Runs → Type 0
With p small big = (t i : ℕ) → bit (big i t) ≡ bit (small i t) + cond (has p.from p.until t) (one i p.id) 0
