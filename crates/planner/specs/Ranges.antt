-- The limits of document 01, and the ranges of the numbers that a caller hands in. Ends of range are allowed.
use Rattle.std.specs.Prelude.{◌≡◌, Bool, true, ◌&&◌, ℕ, ◌+◌, ℤ, pos, neg_ℤ}
use Rattle.std.specs.Int.Signed.{le_z}

abbrev pub max_bound : ℕ
max_bound = 1000000000

abbrev pub max_duration : ℕ
max_duration = 1000000000

abbrev pub max_usage : ℕ
max_usage = 1000000

abbrev pub max_capacity : ℕ
max_capacity = 1000000000

-- in ticks, of which the least start bound is the first: the greatest start bound, and where the last run ends
abbrev pub last_start : ℕ
last_start = max_bound + max_bound

abbrev pub last_end : ℕ
last_end = last_start + max_duration

pub record Range : Type 0 where
  pub lo : ℤ
  pub hi : ℤ

abbrev pub bounds : Range
bounds = record { lo = neg_ℤ (pos max_bound); hi = pos max_bound }

abbrev pub durations : Range
durations = record { lo = pos 0; hi = pos max_duration }

abbrev pub usages : Range
usages = record { lo = pos 0; hi = pos max_usage }

abbrev pub capacities : Range
capacities = record { lo = pos 0; hi = pos max_capacity }

-- a number is in a range: the test, and the fact
unfoldable pub in_range : Range → ℤ → Bool
in_range r z = le_z r.lo z && le_z z r.hi

pub record InRange (r : Range) (z : ℤ) : Type 0 where
  pub low : le_z r.lo z ≡ true
  pub high : le_z z r.hi ≡ true
