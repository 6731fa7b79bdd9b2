-- What an insertion and a removal are to be, in the document's words and not by how they are found: rows that do not overlap the part stay. With no
-- overlapping row, an insertion puts one new row at its sorted place. Otherwise the overlapping rows are replaced, left to right, by their pieces. The pieces
-- are said here anew, so that these sentences judge the definitions that the code follows.
use Rattle.std.specs.Prelude.{◌≡◌, cond, ℕ, ◌+◌, ◌-◌, ◌≤◌, ◌<◌, min, max, eqb}
use mathlib.Core.List.{List, [], ◌∷◌, ◌++◌, flat_map}
use Rattle.time_table.specs.declared.Row.{Row}
use Rattle.time_table.specs.declared.Part.{Part}
use Rattle.time_table.specs.Rows.{row_of, tasks, cut}
use Rattle.time_table.specs.Order.{Each}

-- a row ends before a part, overlaps it, or starts at its end or later
abbrev pub Before : Part → Row → Type 0
Before p r = r.end < p.from

abbrev pub Overlapping : Part → Row → Type 0
Overlapping p r = (p.from ≤ r.end) × (r.start < p.until)

abbrev pub Behind : Part → Row → Type 0
Behind p r = p.until ≤ r.start

-- the rows are `early`, before the part, then `over`, which overlap it, then `late`, behind it
pub record Around (p : Part) (rows early over late : List Row) : Type 0 where
  pub is : rows ≡ early ++ over ++ late
  pub before : Each (Before p) early
  pub overlaps : Each (Overlapping p) over
  pub behind : Each (Behind p) late

-- some such lists are the rows
pub record Split (p : Part) (rows : List Row) : Type 0 where
  pub early : List Row
  pub over : List Row
  pub late : List Row
  pub around : Around p rows early over late

-- the one new row, of the whole part
abbrev pub new_row : Part → Row
new_row p = row_of p.from (p.until - 1) p.usage (p.id ∷ [])

-- an uncovered piece or a gap, from x up to but without y: it carries the task alone, and there is none where it has no instants
abbrev pub uncovered : Part → ℕ → ℕ → List Row
uncovered p x y = cut (row_of 0 0 p.usage (p.id ∷ [])) x y

-- the untouched left piece of a row; the covered piece, with this height and this list; the untouched right piece
abbrev pub left_piece : Part → Row → List Row
left_piece p r = cut r r.start (min p.from (r.end + 1))

abbrev pub covered_piece : Part → Row → ℕ → List ℕ → List Row
covered_piece p r height list = cut (row_of r.start r.end height list) (max p.from r.start) (min p.until (r.end + 1))

abbrev pub right_piece : Part → Row → List Row
right_piece p r = cut r (max p.until r.start) (r.end + 1)

-- the pieces of a row into which a part is put: the covered piece has the task last in its list
abbrev pub pieces : Part → Row → List Row
pieces p r = left_piece p r ++ covered_piece p r (r.height + p.usage) (tasks r ++ p.id ∷ []) ++ right_piece p r

-- the overlapping rows, of which r is the first: the pieces of each, with the gaps between them, and the uncovered piece after the last
unfoldable pub replaced : Part → Row → List Row → List Row
replaced p r [] = pieces p r ++ uncovered p (r.end + 1) p.until
replaced p r (q ∷ qs) = pieces p r ++ uncovered p (r.end + 1) q.start ++ replaced p q qs

-- what an insertion puts in the place of the overlapping rows: with none, one new row; otherwise the uncovered piece before the first, then the rows as
-- they are replaced
unfoldable pub inserted : Part → List Row → List Row
inserted p [] = new_row p ∷ []
inserted p (r ∷ rs) = uncovered p p.from r.start ++ replaced p r rs

-- of the list x ∷ xs the last member, and the others
unfoldable pub last_of : ℕ → List ℕ → ℕ
last_of x [] = x
last_of x (y ∷ ys) = last_of y ys

unfoldable pub all_but_last : ℕ → List ℕ → List ℕ
all_but_last x [] = []
all_but_last x (y ∷ ys) = x ∷ all_but_last y ys

-- a list that loses a member, whose place the last one takes
unfoldable pub losing : ℕ → List ℕ → List ℕ
losing id [] = []
losing id (x ∷ []) = []
losing id (x ∷ y ∷ ys) = cond (eqb x id) (last_of y ys ∷ all_but_last y ys) (x ∷ losing id (y ∷ ys))

-- the pieces of a row from which a part is taken: the covered piece loses the task, and disappears if its height becomes 0
abbrev pub pieces_left : Part → Row → List Row
pieces_left p r =
    left_piece p r ++ cond (eqb r.height p.usage) [] (covered_piece p r (r.height - p.usage) (losing p.id (tasks r))) ++ right_piece p r

-- what a removal puts in the place of the overlapping rows
abbrev pub removed : Part → List Row → List Row
removed p over = flat_map (λ (r : Row). pieces_left p r) over
