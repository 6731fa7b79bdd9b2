-- A row cut to an interval, where the interval has instants and where it has none.
-- Assumes nothing.
use mathlib.Core.Path.{◌≡◌}
use mathlib.Core.List.{[], ◌∷◌}
use Prim.Native.Nat.{ℕ, ◌≤◌, ◌<◌}
use borrow.Author.Tests.{lt-ltb, le-ltb}
use Rattle.time_table.specs.declared.Row.{Row}
use Rattle.time_table.specs.Rows.{spanned, cut}

module _ (r : Row) (x y : ℕ) where
  pub cut_none : y ≤ x → cut r x y ≡ []
  unfolding cut
  cut_none h = simp (le-ltb x y h)

  pub cut_some : x < y → cut r x y ≡ spanned r x y ∷ []
  unfolding cut
  cut_some h = simp (lt-ltb x y h)
