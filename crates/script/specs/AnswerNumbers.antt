-- The numbers of an answer: 0 fits; 1 start end height, overloaded; 2 number, refused; 3 start; 4 nowhere;
-- 5 count and then the rows, each as start end height count ids.
use Rattle.std.specs.Prelude.{cond, Option, Some, None, Result, Ok, Err, List, [], ◌∷◌, map, flat_map, ℕ, min, ltb, ℤ, pos}
use Rattle.planner.specs.declared.Refusal.{Refusal}
use Rattle.planner.specs.declared.Refusal.TheVariants.{TooManyJobs}
use Rattle.planner.specs.declared.Answer.{Answer}
use Rattle.planner.specs.declared.Answer.TheVariants.{Fits, Overloaded}
use Rattle.planner.specs.declared.RowRecord.{RowRecord}
use Rattle.planner.specs.declared.Rows.{Rows}
use Rattle.planner.specs.Refusals.{number_of}
use Rattle.planner.specs.Records.{ids_of}
use Rattle.planner.specs.Questions.{records_of}

-- an amount, at most the greatest signed number of 32 bits
unfoldable pub capped : ℕ → ℤ
capped n = pos (min n 2147483647)

-- a refusal
abbrev pub refusal_numbers : Refusal → List ℤ
refusal_numbers why = pos 2 ∷ pos (number_of why) ∷ []

-- a row
abbrev pub row_numbers : RowRecord → List ℤ
row_numbers r = r.start ∷ r.end ∷ capped r.height ∷ capped r.count ∷ map capped (ids_of r)

-- the numbers of one row after those of another
abbrev pub each : List RowRecord → List ℤ
each rows = flat_map row_numbers rows

-- the answer of a question for the rows
abbrev pub rows_numbers : Result Rows Refusal → List ℤ
rows_numbers (Ok rows) = pos 5 ∷ capped rows.count ∷ each (records_of rows)
rows_numbers (Err why) = refusal_numbers why

-- the answer of a load or an update
abbrev pub answer_numbers : Result Answer Refusal → RowRecord → List ℤ
answer_numbers (Ok Fits) row = pos 0 ∷ []
answer_numbers (Ok Overloaded) row = pos 1 ∷ row.start ∷ row.end ∷ capped row.height ∷ []
answer_numbers (Err why) row = refusal_numbers why

-- the answer of a question for the first fit
abbrev pub fit_numbers : Result (Option ℤ) Refusal → List ℤ
fit_numbers (Ok (Some start)) = pos 3 ∷ start ∷ []
fit_numbers (Ok None) = pos 4 ∷ []
fit_numbers (Err why) = refusal_numbers why

-- a job that is kept beside so many others has no answer; a 33rd is refused
unfoldable pub keep_numbers : ℕ → List ℤ
keep_numbers count = cond (ltb count 32) [] (refusal_numbers TooManyJobs)
