-- The adjustments as the document's table, and not by how they are found: what of a part is left where another is not. The removed parts are what is left of
-- the old part where the new one is not, the added ones what is left of the new part where the old one is not. That they are just these is proved
-- (proofs/AdjustmentTable.antt).
use Rattle.std.specs.Prelude.{List, [], ◌∷◌, ◌⊎◌, ℕ, ◌≤◌, ◌<◌}
use Rattle.time_table.specs.declared.Part.{Part}

-- the instants of p from x up to but without y
abbrev pub within : Part → ℕ → ℕ → Part
within p x y = record { from = x; until = y; id = p.id; usage = p.usage }

-- the other part is empty, or the two are disjoint or merely touch
abbrev pub Separate : Part → Part → Type 0
Separate p q = (q.until ≤ q.from) ⊎ ((p.until ≤ q.from) ⊎ (q.until ≤ p.from))

-- both have instants, and they share one
pub record Overlap (p q : Part) : Type 0 where
  pub some : p.from < p.until
  pub others : q.from < q.until
  pub ahead : p.from < q.until
  pub behind : q.from < p.until

pub data LeftParts (p q : Part) : List Part → Type 0 where
  -- of an empty part nothing is left, and of one that lies apart all
  nothing : p.until ≤ p.from → LeftParts p q []
  whole : p.from < p.until → Separate p q → LeftParts p q (within p p.from p.until ∷ [])
  -- overlapping: first the difference at the right end, then the one at the left end; equal ends give nothing
  both_ends : Overlap p q → q.until < p.until → p.from < q.from → LeftParts p q (within p q.until p.until ∷ within p p.from q.from ∷ [])
  right_end : Overlap p q → q.until < p.until → q.from ≤ p.from → LeftParts p q (within p q.until p.until ∷ [])
  left_end : Overlap p q → p.until ≤ q.until → p.from < q.from → LeftParts p q (within p p.from q.from ∷ [])
  inside : Overlap p q → p.until ≤ q.until → q.from ≤ p.from → LeftParts p q []
