-- A row that a part does not meet stays as it is.
-- Assumes nothing.
use mathlib.Core.Path.{◌≡◌, refl, ◌∙◌}
use mathlib.Core.List.{[], ◌∷◌, ◌++◌, append-nil}
use Prim.Native.Nat.{ℕ, ◌+◌, ◌-◌, ◌≤◌, ◌<◌, min, max}
use native.Mathlib.Omega.{arith}
use Rattle.time_table.specs.declared.Row.{Row}
use Rattle.time_table.specs.declared.Part.{Part}
use Rattle.time_table.specs.Rows.{cut}
use Rattle.time_table.specs.Insertion.{alone, joined, grown, started_at}
use Rattle.time_table.specs.Removal.{reduced}
use Rattle.time_table.proofs.Cut.{cut_none, cut_some}
use Rattle.time_table.proofs.CoveredPiece.{lessened_apart}

-- a row cut to all of itself
cut_whole : (r : Row) (x y : ℕ) → r.start ≤ r.end → x ≡ r.start → y ≡ r.end + 1 → cut r x y ≡ r ∷ []
cut_whole r x y le e f =
    let last : y - 1 ≡ r.end = omega arith in
    cut_some r x y (omega arith) ∙ (λ i. record { start = e i; end = last i; height = r.height; ids = r.ids; count = r.count } ∷ [])

module _ (p : Part) where
  pub reduced_early : (r : Row) → p.from ≤ p.until → r.start ≤ r.end → r.end < p.from → reduced p r ≡ r ∷ []
  reduced_early r some le lt =
      rw (cut_whole r r.start (min p.from (r.end + 1)) le refl (omega arith), lessened_apart p r (omega arith), cut_none r (max p.until r.start) (r.end + 1) (omega arith))

  pub reduced_late : (r : Row) → p.from ≤ p.until → r.start ≤ r.end → p.until ≤ r.start → reduced p r ≡ r ∷ []
  reduced_late r some le lt =
      rw (cut_none r r.start (min p.from (r.end + 1)) (omega arith), lessened_apart p r (omega arith), cut_whole r (max p.until r.start) (r.end + 1) le (omega arith) refl)

  -- the same of an insertion, for the part from x on
  pub grown_early : (r : Row) → p.from ≤ p.until → r.start ≤ r.end → r.end < p.from → grown p r ≡ r ∷ []
  grown_early r some le lt =
      rw (
        cut_none (alone p) p.from (min p.until r.start) (omega arith),
        cut_whole r r.start (min p.from (r.end + 1)) le refl (omega arith),
        cut_none (joined r p.id p.usage) (max p.from r.start) (min p.until (r.end + 1)) (omega arith),
        cut_none r (max p.until r.start) (r.end + 1) (omega arith),
      )

  pub grown_late : (r : Row) (x : ℕ) → x ≤ p.until → r.start ≤ r.end → p.until ≤ r.start → grown (started_at p x) r ≡ cut (alone p) x p.until ++ r ∷ []
  grown_late r x some le lt =
      let top : min p.until r.start ≡ p.until = omega arith in
      rw (
        top,
        cut_none r r.start (min x (r.end + 1)) (omega arith),
        cut_none (joined r p.id p.usage) (max x r.start) (min p.until (r.end + 1)) (omega arith),
        cut_whole r (max p.until r.start) (r.end + 1) le (omega arith) refl,
        append-nil,
        append-nil,
      )
