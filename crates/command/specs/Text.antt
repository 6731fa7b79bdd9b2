-- The text of answers: decimal numbers with their sign, single spaces, one line feed a line.
use mathlib.Core.List.{List, [], ◌∷◌, ◌++◌, flat_map}
use Rattle.std.specs.Prelude.{Option, Some, None, Result, Ok, Err, ℕ, ◌+◌, ◌*◌, ℤ}
use Rattle.planner.specs.declared.RowRecord.{RowRecord}
use Rattle.planner.specs.declared.Refusal.{Refusal}
use Rattle.planner.specs.declared.Answer.{Answer}
use Rattle.planner.specs.declared.Rows.{Rows}
use Rattle.planner.specs.Refusals.{number_of}
use Rattle.planner.specs.Records.{ids_of}
use Rattle.planner.specs.Questions.{records_of}
use Rattle.command.specs.Decimal.{decimal, signed_text}

-- a text after a space
abbrev pub spaced : List ℕ → List ℕ
spaced text = (32 ∷ []) ++ text

-- a letter alone, and a letter with a number
abbrev pub letter_text : ℕ → List ℕ
letter_text letter = (letter ∷ []) ++ 10 ∷ []

abbrev pub number_text : ℕ → ℤ → List ℕ
number_text letter z = (letter ∷ []) ++ spaced (signed_text z) ++ 10 ∷ []

unfoldable pub count_text : ℕ → ℕ → List ℕ
count_text letter n = (letter ∷ []) ++ spaced (decimal n) ++ 10 ∷ []

-- `R` with the number of a refusal
unfoldable pub refusal_text : Refusal → List ℕ
refusal_text why = count_text 82 (number_of why)

-- the start, the end and the height of a row
abbrev pub stretch_text : RowRecord → List ℕ
stretch_text r = signed_text r.start ++ spaced (signed_text r.end) ++ spaced (decimal r.height)

-- `O` with start, end and height
unfoldable pub overload_text : RowRecord → List ℕ
overload_text r = (79 ∷ []) ++ spaced (signed_text r.start) ++ spaced (signed_text r.end) ++ spaced (decimal r.height) ++ 10 ∷ []

-- what a load and an update print: `F`, or `O` with the row, or `R` with the number
unfoldable pub answer_text : Result Answer Refusal → RowRecord → List ℕ
answer_text (Ok Answer.Fits) r = letter_text 70
answer_text (Ok Answer.Overloaded) r = overload_text r
answer_text (Err why) r = refusal_text why

-- what a question for the first fit prints: `S` with the start, or `N`, or `R` with the number
unfoldable pub start_text : ℤ → List ℕ
start_text z = (83 ∷ []) ++ spaced (signed_text z) ++ 10 ∷ []

unfoldable pub fit_text : Result (Option ℤ) Refusal → List ℕ
fit_text (Ok (Some z)) = start_text z
fit_text (Ok None) = letter_text 78
fit_text (Err why) = refusal_text why

-- a row as start, end, height and the ids in list order
abbrev pub id_text : ℕ → List ℕ
id_text i = spaced (decimal i)

abbrev pub ids_text : List ℕ → List ℕ
ids_text ids = flat_map id_text ids

unfoldable pub row_text : RowRecord → List ℕ
row_text r =
    signed_text r.start ++ spaced (signed_text r.end) ++ spaced (decimal r.height) ++ ids_text (ids_of r) ++ 10 ∷ []

abbrev pub rows_text : List RowRecord → List ℕ
rows_text rows = flat_map row_text rows

-- what a question for the rows prints: each row, then `E` and the row count, or `R` with the number
unfoldable pub table_text : Result Rows Refusal → List ℕ
table_text (Ok rows) = rows_text (records_of rows) ++ count_text 69 rows.count
table_text (Err why) = refusal_text why

-- the bytes that a line without ids takes at most, a row's numbers without ids, an id, a row, all rows, and an answer
abbrev pub line_room : ℕ
line_room = 64

abbrev pub stretch_room : ℕ
stretch_room = 35

abbrev pub id_room : ℕ
id_room = 11

abbrev pub row_room : ℕ
row_room = 400

abbrev pub rows_room : ℕ
rows_room = 128 * row_room

abbrev pub longest : ℕ
longest = rows_room + 100
