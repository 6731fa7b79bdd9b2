-- What a removal takes from the sums at each instant: v where the part is and a row is, and nothing elsewhere.
-- Assumes nothing.
use mathlib.Core.Path.{◌≡◌, refl, sym}
use mathlib.Core.Bool.{cond}
use mathlib.Core.Logic.{⊎_elim}
use mathlib.Core.List.{List, [], ◌∷◌}
use Prim.Native.Nat.{ℕ, ◌+◌, ◌-◌, ◌≤◌, ◌<◌, min, max}
use native.Mathlib.Decide.{ℕ_discrete}
use native.Mathlib.Omega.{arith}
use Rattle.time_table.specs.declared.Row.{Row}
use Rattle.time_table.specs.declared.Part.{Part}
use Rattle.time_table.specs.Rows.{spanned}
use Rattle.time_table.specs.Order.{Each}
use Rattle.time_table.specs.Removal.{without, lessened, reduced, removal}
use Rattle.time_table.specs.Meaning.{has, summed}
use Rattle.time_table.proofs.Sums.{summed_append, summed_cut, three, lt_or_le, by_place, has_in, has_below, has_above, has_none}
use Rattle.time_table.proofs.CoveredPiece.{lessened_flat, lessened_apart, lessened_is}
use Rattle.time_table.proofs.Bits.{cond_same}

-- where a part meets a row, f falls by v without the task, and a row that has no height left is v high in f
pub record Lessens (f : Row → ℕ) (v : ℕ) (p : Part) (r : Row) : Type 0 where
  pub falls : max p.from r.start < min p.until (r.end + 1) → f (without r p.id p.usage) + v ≡ f r
  pub flat : max p.from r.start < min p.until (r.end + 1) → r.height ≡ p.usage → f r ≡ v

module _ (f : Row → ℕ) (t v : ℕ) (p : Part) (kept : (r : Row) (x y : ℕ) → f (spanned r x y) ≡ f r) where
  lessened_sum : (r : Row) → Lessens f v p r
      → summed f t (lessened p r) ≡ cond (has (max p.from r.start) (min p.until (r.end + 1)) t) (f r - v) 0
  unfolding summed
  lessened_sum r l =
      let x = max p.from r.start in
      let y = min p.until (r.end + 1) in
      ⊎_elim
      (λ lt. elim (ℕ_discrete r.height p.usage) [
        | yes e ↦
            let flat : f r ≡ v = l.flat lt e in
            let none_left : f r - v ≡ 0 = omega arith in
            rw (lessened_flat p r e, none_left) (sym (cond_same (has x y t) 0))
        | no ne ↦
            let less : f (without r p.id p.usage) ≡ f r - v = omega (arith, l.falls lt) in
            rw (lessened_is p r ne, summed_cut f t kept (without r p.id p.usage) x y, less)
      ])
      (λ ge. rw (lessened_apart p r ge, has_none x y t ge))
      (lt_or_le x y)

  -- what is left of a row, and v where the part goes through it, are the row
  back : (r : Row) → Lessens f v p r
      → cond (has r.start (r.end + 1) t) (cond (has p.from p.until t) (f r - v) (f r)) 0
      + cond (has r.start (r.end + 1) t) (cond (has p.from p.until t) v 0) 0
      ≡ cond (has r.start (r.end + 1) t) (f r) 0
  back r l =
      let s = r.start in
      let e = r.end + 1 in
      let a = p.from in
      let b = p.until in
      by_place s e t
      (λ h. rw (has_below s e t h))
      (λ h k. by_place a b t
      (λ m. rw (has_in s e t h k, has_below a b t m) (omega arith))
      (λ m n. rw (has_in s e t h k, has_in a b t m n) (omega (arith, l.falls (omega arith))))
      (λ m. rw (has_in s e t h k, has_above a b t m) (omega arith)))
      (λ h. rw (has_above s e t h))

  pub removal_sum : (rows : List Row) → p.from ≤ p.until → Each (Lessens f v p) rows
      → summed f t (removal p rows) + summed (λ (r : Row). cond (has p.from p.until t) v 0) t rows ≡ summed f t rows
  unfolding removal summed Each
  removal_sum [] le o = refl
  removal_sum (r ∷ rs) le o =
      let s = r.start in
      let e = r.end + 1 in
      let g : summed f t (reduced p r)
      ≡ cond (has s (min p.from e) t) (f r) 0 + cond (has (max p.from s) (min p.until e) t) (f r - v) 0
      + cond (has (max p.until s) e t) (f r) 0 =
      simp (summed_append, summed_cut f t kept, lessened_sum r o.0) in
      rw summed_append
      (omega (arith, g, three s p.from p.until e t (f r) (f r - v) le, back r o.0, removal_sum rs le o.1))
