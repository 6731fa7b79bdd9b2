-- Worked examples of the definitions, by computation.
-- Assumes nothing.
use mathlib.Core.Path.{◌≡◌, refl}
use mathlib.Core.List.{[], ◌∷◌}
use Prim.Native.Nat.{ℕ}
use Rattle.time_table.specs.declared.Part.{Part}
use Rattle.time_table.specs.Rows.{row_of, cut}
use Rattle.time_table.specs.Insertion.{joined, insertion}
use Rattle.time_table.specs.Removal.{without, lessened, removal}

part : ℕ → ℕ → ℕ → ℕ → Part
part id usage from until = record { from = from; until = until; id = id; usage = usage }

-- the load of the listing, by insertions; then 0..3 of task 1 taken out and 4..7 put in
listing : insertion (part 0 3 2 6) (insertion (part 1 2 0 4) []) ≡ row_of 0 1 2 (1 ∷ []) ∷ row_of 2 3 5 (1 ∷ 0 ∷ []) ∷ row_of 4 5 3 (0 ∷ []) ∷ []
unfolding part insertion cut joined
listing = refl

moved : insertion (part 1 2 4 7) (removal (part 1 2 0 3) (insertion (part 0 3 2 6) (insertion (part 1 2 0 4) [])))
    ≡ row_of 2 2 3 (0 ∷ []) ∷ row_of 3 3 5 (1 ∷ 0 ∷ []) ∷ row_of 4 5 5 (0 ∷ 1 ∷ []) ∷ row_of 6 6 2 (1 ∷ []) ∷ []
unfolding part insertion removal cut joined without lessened
moved = refl
