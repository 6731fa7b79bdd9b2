-- The covered piece of a row: there is none where the part does not meet the row, nor where a removal leaves no height; and what is left of a part can
-- still be put in.
-- Assumes nothing.
use mathlib.Core.Path.{◌≡◌}
use mathlib.Core.List.{[]}
use Prim.Native.Nat.{◌+◌, ◌≤◌, min, max, ℕ}
use lib.Dec.{eqb}
use borrow.Author.Tests.{eq-eqb, ne_eqb}
use Rattle.time_table.specs.declared.Row.{Row}
use Rattle.time_table.specs.declared.Part.{Part}
use Rattle.time_table.specs.Rows.{cut}
use Rattle.time_table.specs.Removal.{without, lessened}
use Rattle.time_table.proofs.Cut.{cut_none}
use Rattle.time_table.proofs.Bits.{cond_same}
use native.Mathlib.Omega.{arith}
use Rattle.time_table.specs.Insertion.{heightened, started_at, Insertable}

module _ (p : Part) (r : Row) where
  pub lessened_flat : r.height ≡ p.usage → lessened p r ≡ []
  unfolding lessened
  lessened_flat e = simp (eq-eqb r.height p.usage e)

  pub lessened_apart : min p.until (r.end + 1) ≤ max p.from r.start → lessened p r ≡ []
  unfolding lessened
  lessened_apart h = rw (cut_none _ _ _ h) (cond_same (eqb r.height p.usage) [])

  pub lessened_is : (r.height ≡ p.usage → ⊥)
      → lessened p r ≡ cut (without r p.id p.usage) (max p.from r.start) (min p.until (r.end + 1))
  unfolding lessened
  lessened_is ne = simp (ne_eqb r.height p.usage ne)

pub heightened_apart : (p : Part) (r : Row) → min p.until (r.end + 1) ≤ max p.from r.start → heightened p r ≡ []
heightened_apart p r h = cut_none _ _ _ h

-- a part that starts later can still be put in
pub insertable_later : (p : Part) (r : Row) (x : ℕ) → p.from ≤ x → Insertable p r → Insertable (started_at p x) r
insertable_later p r x le can = record { listed = can.listed; room = can.room; there = λ lt. can.there (omega arith) }
