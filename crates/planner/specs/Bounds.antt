-- Start bounds in ticks, of the two numbers that a caller hands in.
use Rattle.std.specs.Prelude.{◌≡◌, Result, Ok, Err, MatchResult, ℤ}
use Rattle.planner.specs.declared.Bounds.{Bounds}
use Rattle.planner.specs.declared.Refusal.{Refusal}
use Rattle.planner.specs.Instants.{tick}
use Rattle.planner.specs.Checks.{bounds_checked}

-- the bounds of two numbers that are accepted, and else the refusal
abbrev pub BoundsOf : ℤ → ℤ → Result Bounds Refusal → Type 0
BoundsOf earliest latest r =
    MatchResult r (λ b. (bounds_checked earliest latest ≡ Ok tt) × (b.earliest ≡ tick earliest) × (b.latest ≡ tick latest)) (λ why. bounds_checked earliest latest ≡ Err why)
