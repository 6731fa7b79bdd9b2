-- The rows of demand 3 as they are printed: what `T` prints is split again, line by line and field by field.
use Rattle.std.specs.Prelude.{◌≡◌, true, false, List, [], ◌∷◌, map, ℕ, ◌+◌, ◌<◌, ℤ, pos, length, get_or}
use Rattle.planner.specs.declared.RowRecord.{RowRecord}
use Rattle.planner.specs.Records.{ids_of, no_record}
use Rattle.planner.specs.Answers.{fresh_plan}
use Rattle.planner.specs.History.{Call}
use Rattle.planner.specs.Stale.{stale_after}
use Rattle.planner.specs.Demand.{DemandedAfter}
use Rattle.command.specs.Grammar.{fields_of}
use Rattle.command.specs.Lines.{lines_of}
use Rattle.command.specs.PrintedNumbers.{SpellsAll, LetterLine, Ended}

-- a row's numbers: start, end, height and the ids in list order
abbrev pub row_numbers : RowRecord → List ℤ
row_numbers r = r.start ∷ r.end ∷ pos r.height ∷ map pos (ids_of r)

-- the text is a line for each row, in order, and then `E` and how many there are
pub record ListsRows (rows : List RowRecord) (text : List ℕ) : Type 0 where
  pub count : length (lines_of text) ≡ length rows + 1
  pub row : (k : ℕ) → k < length rows → SpellsAll (fields_of (get_or (lines_of text) k [])) (row_numbers (get_or rows k no_record))
  pub last : LetterLine 69 (pos (length rows) ∷ []) (get_or (lines_of text) (length rows) [])
  pub ended : Ended text

-- what `T` prints after some calls: `R 9` while the answers that were heard say that the table is stale, and else the rows that demand 3 wants
pub data PrintedByT (calls : List Call) (text : List ℕ) : Type 0 where
  refused_9 : stale_after fresh_plan false calls ≡ true → text ≡ 82 ∷ 32 ∷ 57 ∷ 10 ∷ [] → PrintedByT calls text
  listed : stale_after fresh_plan false calls ≡ false → (rows : List RowRecord) → DemandedAfter calls rows → ListsRows rows text → PrintedByT calls text
