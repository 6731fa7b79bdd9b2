-- A list that is kept in the front of an array: what a store at the count, a store before it and a cut at the end make of it.
-- Assumes nothing.
use mathlib.Core.Path.{◌≡◌, sym, ap, ◌∙◌}
use mathlib.Core.List.{List, [], ◌∷◌, ◌++◌}
use Prim.Native.Nat.{ℕ, suc, ◌+◌, ◌-◌, ◌≤◌, ◌<◌}
use native.Mathlib.Omega.{arith}
use native.Mathlib.Numerals.{add-one}
use lib.ListN.{length, take, drop, get_or, drop_of_length-le, set, replicate, length-append, length-replicate, length-set, get_or-append}
use lib.Seq.{drop-cons, take_at, set_at, set-append_left, take-suc, take_all, length-take-le, append_snoc}
use Rattle.time_table.specs.Held.{Held}

module _ {A : Type 0} {cap n : ℕ} {blank : A} {arr l : List A} where
  -- the array has `cap` places, and its first `n` are the list
  pub held_length : Held cap blank arr n l → length arr ≡ cap
  held_length h = rw (h.is, length-append, length-replicate) (omega arith)

  pub held_list : Held cap blank arr n l → take n arr ≡ l
  held_list h = rw h.is (take_at l _ n (sym h.counts))

  pub held_as : {l' : List A} → Held cap blank arr n l → l ≡ l' → Held cap blank arr n l'
  held_as h e = rw e at h

  pub held_self : Held cap blank arr n l → Held cap blank arr n (take n arr)
  held_self h = held_as h (sym (held_list h))

  pub held_get : Held cap blank arr n l → (d : A) (i : ℕ) → i < n → get_or arr i d ≡ get_or l i d
  held_get h d i lt =
      let lt' : i < length l = omega arith in
      rw h.is (get_or-append l _ d i lt')

  -- the list from a place on: what stands there, and what follows; and nothing from the count on
  pub held_next : Held cap blank arr n l → (d : A) (i : ℕ) → i < n → drop i l ≡ get_or arr i d ∷ drop (i + 1) l
  held_next h d i lt =
      let inside : i < length l = omega arith in
      rw (add-one i, held_get h d i lt) (drop-cons l i d inside)

  pub held_end : Held cap blank arr n l → (i : ℕ) → n ≤ i → drop i l ≡ []
  held_end h i le =
      let past : length l ≤ i = omega arith in
      drop_of_length-le l past

  -- a store at the count puts one more at the list's end
  pub held_push : Held cap blank arr n l → (x : A) → n < cap → Held cap blank (set arr n x) (n + 1) (l ++ x ∷ [])
  held_push h x lt =
      let longer : length (l ++ x ∷ []) ≡ length l + 1 = length-append l (x ∷ []) in
      let room : cap - length l ≡ suc (cap - (length l + 1)) = omega arith in
      record {
        is = rw (h.is, room, longer) (set_at l blank _ x n (sym h.counts) ∙ sym (append_snoc l x _));
        counts = omega arith;
        fits = omega arith;
      }

  -- a store before the count is a store in the list
  pub held_set : Held cap blank arr n l → (k : ℕ) (x : A) → k < n → Held cap blank (set arr k x) n (set l k x)
  held_set h k x lt =
      let lt' : k < length l = omega arith in
      record { is = rw (h.is, length-set) (set-append_left l _ k x lt'); counts = rw length-set h.counts; fits = h.fits }

  -- a blank in the last place takes the last away
  pub held_pop : Held cap blank arr n l → (k : ℕ) → n ≡ suc k → Held cap blank (set arr k blank) k (take k l)
  held_pop h k e =
      let shorter : length (take k l) ≡ k = length-take-le k l (omega arith) in
      let split : l ≡ take k l ++ get_or l k blank ∷ [] =
      sym (take_all (suc k) l (omega arith)) ∙ take-suc l k blank (omega arith) in
      let room : suc (cap - length l) ≡ cap - k = omega arith in
      record {
        is =
            rw (h.is, shorter, ← room)
            (ap (λ (m : List A). set (m ++ replicate (cap - length l) blank) k blank) split
            ∙ rw append_snoc (set_at (take k l) _ _ blank k shorter));
        counts = sym shorter;
        fits = omega arith;
      }
