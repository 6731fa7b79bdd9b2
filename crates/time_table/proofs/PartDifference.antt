-- What is left of a part where another is not: two stretches at most, and every instant of the part is in one of them or in the other part,
-- and in no two.
-- Assumes nothing.
use mathlib.Core.Path.{◌≡◌, refl, ◌∙◌}
use mathlib.Core.Bool.{Bool, true, false, cond, ◌&&◌, and-false}
use mathlib.Core.List.{[], ◌∷◌, ◌++◌, append-nil}
use Prim.Native.Nat.{ℕ, ◌≤◌, ◌<◌, ◌+◌}
use borrow.Author.Tests.{lt-ltb, le-ltb, le-leb, lt-leb}
use Rattle.time_table.specs.declared.Part.{Part}
use lib.Dec.{ltb, leb}
use Rattle.std.specs.Prelude.{None, option_to_list}
use Rattle.time_table.specs.Adjustments.{stretch, apart, left_of, cut_part, ends_of, parts_there}
use mathlib.Core.Logic.{⊎_elim}
use native.Mathlib.Omega.{arith}
use Rattle.time_table.specs.Meaning.{bit, has}
use Rattle.time_table.proofs.Bits.{some_if}
use Rattle.time_table.proofs.Sums.{has_in, has_below, has_above, has_none, lt_or_le, by_place}

module _ (p : Part) (x y : ℕ) where
  pub stretch_none : y ≤ x → stretch p x y ≡ []
  unfolding stretch
  stretch_none h = simp (le-ltb x y h)

  pub stretch_some : x < y → stretch p x y ≡ record { from = x; until = y; id = p.id; usage = p.usage } ∷ []
  unfolding stretch
  stretch_some h = simp (lt-ltb x y h)

-- the parts in the places of an adjustment are those of the list
cut_there : (p : Part) (x y : ℕ) → option_to_list (cut_part p x y) ≡ stretch p x y
unfolding stretch
cut_there p x y = some_if (ltb x y) _

pub ends_there : (p q : Part) → parts_there (ends_of p q) ≡ left_of p q
unfolding left_of
ends_there p q = go (apart p q) (leb p.until p.from)
  where
    go : (a b : Bool)
        → parts_there (cond a (cut_part p p.from p.until ∷ None ∷ []) (cond b (None ∷ None ∷ []) (cut_part p q.until p.until ∷ cut_part p p.from q.from ∷ [])))
        ≡ cond a (stretch p p.from p.until) (cond b [] (stretch p q.until p.until ++ stretch p p.from q.from))
    go true b = append-nil _ ∙ cut_there p p.from p.until
    go false true = refl
    go false false = rw (append-nil, cut_there, cut_there) refl

module _ (p q : Part) where
  pub left_apart : apart p q ≡ true → left_of p q ≡ stretch p p.from p.until
  unfolding left_of
  left_apart e = rw e

  pub left_empty : apart p q ≡ false → p.until ≤ p.from → left_of p q ≡ []
  unfolding left_of
  left_empty e h = rw (e, le-leb p.until p.from h)

  pub left_ends : apart p q ≡ false → p.from < p.until → left_of p q ≡ stretch p q.until p.until ++ stretch p p.from q.from
  unfolding left_of
  left_ends e h = rw (e, lt-leb p.until p.from h)

pub record Left (p q : Part) : Type 0 where
  pub a : ℕ
  pub b : ℕ
  pub c : ℕ
  pub d : ℕ
  pub is : left_of p q ≡ stretch p a b ++ stretch p c d
  pub first : b ≤ p.until
  pub second : d ≤ p.until
  pub counts : (t : ℕ)
      → bit (has a b t) + bit (has c d t) + bit (has p.from p.until t && has q.from q.until t)
      ≡ bit (has p.from p.until t)

-- intervals that no instant can be in both of
disjoint : (x y v w : ℕ) → ((t : ℕ) → x ≤ t → t < y → v ≤ t → t < w → ⊥) → (t : ℕ) → has x y t && has v w t ≡ false
disjoint x y v w never t =
    by_place x y t
    (λ h. rw (has_below x y t h))
    (λ h k. by_place v w t (λ m. rw (has_below v w t m, and-false)) (λ m n. absurd (never t h k m n)) (λ m. rw (has_above v w t m, and-false)))
    (λ h. rw (has_above x y t h))

module _ (p q : Part) where
  -- no instant is in both, so all of p is left
  whole : apart p q ≡ true → ((t : ℕ) → has p.from p.until t && has q.from q.until t ≡ false) → Left p q
  whole e none =
      record {
        a = p.from;
        b = p.until;
        c = 0;
        d = 0;
        is = rw (stretch_none p 0 0 (omega arith), append-nil) (left_apart p q e);
        first = omega arith;
        second = omega arith;
        counts = λ t. rw (none t, has_none 0 0 t (omega arith)) (omega arith);
      }

  nowhere : apart p q ≡ false → p.until ≤ p.from → Left p q
  nowhere e h =
      record {
        a = 0;
        b = 0;
        c = 0;
        d = 0;
        is = rw (stretch_none p 0 0 (omega arith)) (left_empty p q e h);
        first = omega arith;
        second = omega arith;
        counts = λ t. rw (has_none 0 0 t (omega arith), has_none p.from p.until t h);
      }

  ends : apart p q ≡ false → p.from < p.until → q.from < q.until → q.from < p.until → p.from < q.until → Left p q
  ends e some other l r =
      record {
        a = q.until;
        b = p.until;
        c = p.from;
        d = q.from;
        is = left_ends p q e some;
        first = omega arith;
        second = omega arith;
        counts = λ t.
            let x = p.from in
            let y = p.until in
            let v = q.from in
            let w = q.until in
            by_place x y t
            (λ h. simp (has_below x y t h, has_below w y t (omega arith), has_below x v t h))
            (λ h k. by_place v w t
            (λ m. simp (has_in x y t h k, has_below v w t m, has_below w y t (omega arith), has_in x v t h m))
            (λ m n. simp (has_in x y t h k, has_in v w t m n, has_below w y t n, has_above x v t m))
            (λ m. simp (has_in x y t h k, has_above v w t m, has_in w y t m k, has_above x v t (omega arith))))
            (λ h. simp (has_above x y t h, has_above w y t h, has_above x v t (omega arith)));
      }

  pub left : Left p q
  unfolding apart
  left =
      let x = p.from in
      let y = p.until in
      let v = q.from in
      let w = q.until in
      ⊎_elim
      (λ some. ⊎_elim
      (λ l. ⊎_elim
      (λ r.
      let meet : apart p q ≡ false = rw (lt-leb w v some, lt-leb y v l, lt-leb w x r) in
      ⊎_elim (λ mine. ends meet mine some l r) (λ h. nowhere meet h) (lt_or_le x y))
      (λ h. whole (rw (lt-leb w v some, lt-leb y v l, le-leb w x h)) (disjoint x y v w (λ t a b c d. omega arith)))
      (lt_or_le x w))
      (λ h. whole (rw (lt-leb w v some, le-leb y v h)) (disjoint x y v w (λ t a b c d. omega arith)))
      (lt_or_le v y))
      (λ h. whole (rw (le-leb w v h)) (disjoint x y v w (λ t a b c d. omega arith)))
      (lt_or_le v w)
