-- A copy of a plan's rows to a lent slice: what it answers, and what the slice holds afterwards.
use Rattle.std.specs.Prelude.{◌≡◌, cond, Result, Ok, Err, List, ℕ, zero, suc, ◌≤◌, ◌<◌, leb, length, get_or, set, take, drop}
use Rattle.planner.specs.declared.RowRecord.{RowRecord}
use Rattle.planner.specs.declared.Rows.{Rows}
use Rattle.planner.specs.declared.Refusal.{Refusal}
use Rattle.planner.specs.declared.Refusal.TheVariants.{ShortSlice}
use Rattle.planner.specs.Refusals.{Verdict, admitted, refused, verdict}
use Rattle.planner.specs.Questions.{shown_rows}
use Rattle.planner.specs.Records.{no_row}

-- the answer of a copy to a slice with so many places, checks 9, 10: how many rows are copied, all or none
unfoldable pub copy_answer : Result Rows Refusal → ℕ → Result ℕ Refusal
copy_answer (Ok rows) places = cond (leb rows.count places) (Ok rows.count) (Err ShortSlice)
copy_answer (Err why) places = Err why

-- how many rows are copied; refused, none
abbrev pub copied_count : Result ℕ Refusal → ℕ
copied_count (Ok n) = n
copied_count (Err why) = 0

-- the row that goes to the place i
abbrev pub row_for : List RowRecord → ℕ → RowRecord
row_for xs i = get_or xs i no_row

-- ys with the first n rows of xs in its first n places
abbrev pub copied : List RowRecord → ℕ → List RowRecord → List RowRecord
copied xs zero ys = ys
copied xs (suc i) ys = set (copied xs i ys) i (row_for xs i)

-- an answer as it is heard: admitted or refused with a number, and how many rows are copied
abbrev pub CopyJudged : Result ℕ Refusal → Verdict → ℕ → Type 0
CopyJudged r v n = (verdict r ≡ v) × (copied_count r ≡ n)

-- the table of refusals 9 and 10: with which number a copy of these rows is refused, and when all are copied. It is judged exactly so, which is
-- proved (proofs/CopyGiven.antt)
pub data CopyGiven (shown : Result Rows Refusal) (places : ℕ) : Verdict → ℕ → Type 0 where
  stale : verdict shown ≡ refused 9 → CopyGiven shown places (refused 9) 0
  short : {rows : Rows} → shown ≡ Ok rows → places < rows.count → CopyGiven shown places (refused 10) 0
  all : {rows : Rows} → shown ≡ Ok rows → rows.count ≤ places → CopyGiven shown places admitted rows.count

-- what a caller finds in the slice
pub record CopyPlaces (shown : Result Rows Refusal) (before : List RowRecord) (r : Result ℕ Refusal) (after : List RowRecord) : Type 0 where
  pub same_length : length after ≡ length before
  -- accepted: the first places, as many as are counted, hold the rows in order
  pub first : (n : ℕ) → r ≡ Ok n → take n after ≡ shown_rows shown
  pub counted : (n : ℕ) → r ≡ Ok n → length (shown_rows shown) ≡ n
  -- the other places hold what they held; refused, all do
  pub others : drop (copied_count r) after ≡ drop (copied_count r) before
  pub untouched : (why : Refusal) → r ≡ Err why → after ≡ before
