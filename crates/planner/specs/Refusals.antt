-- Document 01's number of each refusal, and what a caller hears of a check.
use Rattle.std.specs.Prelude.{Result, Ok, Err, ℕ}
use Rattle.planner.specs.declared.Refusal.{Refusal}
use Rattle.planner.specs.declared.Refusal.TheVariants.{TooManyJobs, CapacityOutOfRange, BoundOutOfRange, BoundsCrossed, DurationOutOfRange, UsageOutOfRange, UnknownTask, TooManyRows, Stale, ShortSlice, Unreadable}

abbrev pub number_of : Refusal → ℕ
number_of TooManyJobs = 1
number_of CapacityOutOfRange = 2
number_of BoundOutOfRange = 3
number_of BoundsCrossed = 4
number_of DurationOutOfRange = 5
number_of UsageOutOfRange = 6
number_of UnknownTask = 7
number_of TooManyRows = 8
number_of Stale = 9
number_of ShortSlice = 10
number_of Unreadable = 11

-- admitted, or refused with a number
pub data Verdict : Type 0 where
  admitted : Verdict
  refused : ℕ → Verdict

abbrev pub verdict : {A : Type 0} → Result A Refusal → Verdict
verdict (Ok _) = admitted
verdict (Err why) = refused (number_of why)
