-- The first elements of a list through a function, one more: what they gave before, and then what the next gives.
-- Assumes nothing.
use mathlib.Core.Path.{◌≡◌, refl, sym, ap, ◌∙◌}
use mathlib.Core.List.{List, [], ◌∷◌, ◌++◌, map, map-append, flat_map, append_assoc, append-nil}
use Prim.Native.Nat.{ℕ, ◌+◌, ◌<◌}
use native.Mathlib.Numerals.{add-one}
use lib.ListN.{length, take, get_or}
use lib.Seq.{take-suc}

pub map_take : {A B : Type 0} (f : A → B) (l : List A) (i : ℕ) (d : A) → i < length l → map f (take (i + 1) l) ≡ map f (take i l) ++ f (get_or l i d) ∷ []
map_take f l i d lt = rw (add-one i, take-suc l i d lt) (map-append f (take i l) (get_or l i d ∷ []))

module _ {A B : Type 0} (f : A → List B) where
  flat_append : (xs ys : List A) → flat_map f (xs ++ ys) ≡ flat_map f xs ++ flat_map f ys
  unfolding flat_map
  flat_append [] ys = refl
  flat_append (x ∷ xs) ys = ap (λ (l : List B). f x ++ l) (flat_append xs ys) ∙ sym (append_assoc (f x) _ _)

  pub flat_take : (l : List A) (i : ℕ) (d : A) → i < length l → flat_map f (take (i + 1) l) ≡ flat_map f (take i l) ++ f (get_or l i d)
  unfolding flat_map
  flat_take l i d lt = rw (add-one i, take-suc l i d lt) (flat_append (take i l) (get_or l i d ∷ []) ∙ ap (λ (t : List B). flat_map f (take i l) ++ t) (append-nil (f (get_or l i d))))
