-- A row meets a part if it starts before the part's end and does not end before its start.
use Rattle.std.specs.Prelude.{Bool, ◌&&◌, ℕ, ◌≤◌, ◌<◌, ltb, leb}

-- the instants from lower up to but without upper meet those from start to end
abbrev pub overlaps : ℕ → ℕ → ℕ → ℕ → Bool
overlaps lower upper start end = ltb start upper && leb lower end

-- an instant that is in both
pub record Shared (lower upper start end : ℕ) : Type 0 where
  pub instant : ℕ
  pub from : lower ≤ instant
  pub until : instant < upper
  pub first : start ≤ instant
  pub last : instant ≤ end
