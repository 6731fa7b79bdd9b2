-- Sums over the rows at an instant: of two lists, of a cut row, and of a row that a part goes through.
-- Assumes nothing.
use mathlib.Core.Path.{◌≡◌, sym}
use mathlib.Core.Bool.{true, false, cond, and-false}
use mathlib.Core.Logic.{◌⊎◌, inl, inr, ⊎_elim}
use mathlib.Core.List.{List, [], ◌∷◌, ◌++◌}
use Prim.Native.Nat.{ℕ, ◌+◌, ◌≤◌, ◌<◌, min, max}
use native.Mathlib.Nat.{zero-add, add_assoc, add-zero}
use native.Mathlib.Decide.{dec_lt}
use native.Mathlib.Omega.{arith}
use borrow.Author.Tests.{lt-ltb, le-ltb, le-leb, lt-leb}
use Rattle.time_table.specs.declared.Row.{Row}
use Rattle.time_table.specs.Rows.{spanned, cut}
use Rattle.time_table.specs.Meaning.{has, summed}
use Rattle.time_table.proofs.Cut.{cut_none, cut_some}

module _ (x y t : ℕ) where
  pub has_in : x ≤ t → t < y → has x y t ≡ true
  unfolding has
  has_in l r = rw (le-leb x t l, lt-ltb t y r)

  pub has_below : t < x → has x y t ≡ false
  unfolding has
  has_below h = rw (lt-leb x t h)

  pub has_above : y ≤ t → has x y t ≡ false
  unfolding has
  has_above h = rw (le-ltb t y h, and-false)

-- where an instant lies
pub lt_or_le : (m n : ℕ) → (m < n) ⊎ (n ≤ m)
lt_or_le m n = elim (dec_lt m n) [ yes h ↦ inl h | no h ↦ inr (omega arith) ]

pub by_place : {P : Type 0} (x y t : ℕ) → (t < x → P) → (x ≤ t → t < y → P) → (y ≤ t → P) → P
by_place x y t below inside above =
    ⊎_elim below (λ l. ⊎_elim (λ r. inside l r) above (lt_or_le t y)) (lt_or_le t x)

pub has_none : (x y t : ℕ) → y ≤ x → has x y t ≡ false
has_none x y t le = by_place x y t (has_below x y t) (λ l r. has_below x y t (omega arith)) (has_above x y t)

-- an interval from s to e that one from a to b goes through: what lies before it, in it and after it
module _ (s a b e t v w : ℕ) (ordered : a ≤ b) where
  pub three : cond (has s (min a e) t) v 0 + cond (has (max a s) (min b e) t) w 0 + cond (has (max b s) e t) v 0
      ≡ cond (has s e t) (cond (has a b t) w v) 0
  three =
      by_place s e t
      (λ h. simp (has_below s e t h, has_below s (min a e) t h, has_below (max a s) (min b e) t (omega arith), has_below (max b s) e t (omega arith)))
      (λ l r. by_place a b t
      (λ h. simp (has_in s e t l r, has_below a b t h, has_in s (min a e) t l (omega arith), has_below (max a s) (min b e) t (omega arith), has_below (max b s) e t (omega arith)) (omega arith))
      (λ h k. simp (has_in s e t l r, has_in a b t h k, has_above s (min a e) t (omega arith), has_in (max a s) (min b e) t (omega arith) (omega arith), has_below (max b s) e t (omega arith)) (omega arith))
      (λ h. simp (has_in s e t l r, has_above a b t h, has_above s (min a e) t (omega arith), has_above (max a s) (min b e) t (omega arith), has_in (max b s) e t (omega arith) r) (omega arith)))
      (λ h. simp (has_above s e t h, has_above s (min a e) t (omega arith), has_above (max a s) (min b e) t (omega arith), has_above (max b s) e t h))

  -- what of a..b lies before s, in s..e, and after e
  pub around : s ≤ e → cond (has a (min b s) t) v 0 + cond (has s e t) (cond (has a b t) (w + v) w) 0 + cond (has (max a (min b e)) b t) v 0
      ≡ cond (has s e t) w 0 + cond (has a b t) v 0
  around le =
      by_place a b t
      (λ h. simp (has_below a b t h, has_below a (min b s) t h, has_below (max a (min b e)) b t (omega arith)) (omega arith))
      (λ l r. by_place s e t
      (λ h. simp (has_in a b t l r, has_below s e t h, has_in a (min b s) t l (omega arith), has_below (max a (min b e)) b t (omega arith)) (omega arith))
      (λ h k. simp (has_in a b t l r, has_in s e t h k, has_above a (min b s) t (omega arith), has_below (max a (min b e)) b t (omega arith)) (omega arith))
      (λ h. simp (has_in a b t l r, has_above s e t h, has_above a (min b s) t (omega arith), has_in (max a (min b e)) b t (omega arith) r) (omega arith)))
      (λ h. simp (has_above a b t h, has_above a (min b s) t (omega arith), has_above (max a (min b e)) b t h) (omega arith))

module _ (f : Row → ℕ) (t : ℕ) where
  pub summed_append : (xs ys : List Row) → summed f t (xs ++ ys) ≡ summed f t xs + summed f t ys
  unfolding summed
  summed_append [] ys = sym (zero-add _)
  summed_append (r ∷ xs) ys = rw (summed_append xs ys) (sym (add_assoc _ _ _))

  -- f goes by what a row holds, and not by where it lies
  pub summed_cut : ((r : Row) (x y : ℕ) → f (spanned r x y) ≡ f r) → (r : Row) (x y : ℕ) → summed f t (cut r x y) ≡ cond (has x y t) (f r) 0
  unfolding summed
  summed_cut kept r x y =
      ⊎_elim
      (λ lt.
      let last : (spanned r x y).end + 1 ≡ y = omega arith in
      rw (cut_some r x y lt, kept r x y, last, add-zero))
      (λ le. rw (cut_none r x y le)
      (rw (has_none x y t le)))
      (lt_or_le x y)
