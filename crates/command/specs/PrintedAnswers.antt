-- What is printed for the planner's answers, in document 01's words: `F`, or `O` with start, end and height, or `R` with the number; `S start` or `N`.
use Rattle.std.specs.Prelude.{Option, Some, None, Result, Ok, Err, List, [], ◌∷◌, ℕ, ℤ, pos}
use Rattle.planner.specs.declared.RowRecord.{RowRecord}
use Rattle.planner.specs.declared.Answer.{Answer}
use Rattle.planner.specs.declared.Refusal.{Refusal}
use Rattle.planner.specs.Refusals.{number_of}
use Rattle.command.specs.PrintedNumbers.{OneLine}

-- `R` is 82
abbrev pub RefusalPrinted : Refusal → List ℕ → Type 0
RefusalPrinted why text = OneLine 82 (pos (number_of why) ∷ []) text

-- `F` is 70, `O` 79
abbrev pub AnswerPrinted : Result Answer Refusal → RowRecord → List ℕ → Type 0
AnswerPrinted (Ok Answer.Fits) r text = OneLine 70 [] text
AnswerPrinted (Ok Answer.Overloaded) r text = OneLine 79 (r.start ∷ r.end ∷ pos r.height ∷ []) text
AnswerPrinted (Err why) r text = RefusalPrinted why text

-- `S` is 83, `N` 78
abbrev pub FitPrinted : Result (Option ℤ) Refusal → List ℕ → Type 0
FitPrinted (Ok (Some z)) text = OneLine 83 (z ∷ []) text
FitPrinted (Ok None) text = OneLine 78 [] text
FitPrinted (Err why) text = RefusalPrinted why text
