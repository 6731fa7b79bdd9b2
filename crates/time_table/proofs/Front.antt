-- Rows written over others in their place, from the front on: what is written, and then what was there.
-- Assumes nothing.
use mathlib.Core.Path.{◌≡◌, sym, ap, ◌∙◌}
use mathlib.Core.List.{List, [], ◌∷◌, ◌++◌}
use Prim.Native.Nat.{ℕ, ◌+◌, ◌-◌, ◌≤◌, ◌<◌}
use native.Mathlib.Omega.{arith}
use native.Mathlib.Numerals.{add-one}
use lib.ListN.{length, drop, get_or, set, length-append}
use lib.Seq.{drop-cons, set_at, append_snoc, get_or-append-add, get_or-drop}

-- the first n of a list of `cap` are `done`, and from there on it is another list
pub record Front {A : Type 0} (cap : ℕ) (source rows : List A) (n : ℕ) (done : List A) : Type 0 where
  pub is : rows ≡ done ++ drop n source
  pub counts : n ≡ length done
  pub size : length source ≡ cap
  pub fits : n ≤ cap

module _ {A : Type 0} {cap n : ℕ} {source rows done : List A} (f : Front cap source rows n done) where
  pub front_as : {l : List A} → done ≡ l → Front cap source rows n l
  front_as e = rw e at f

  pub opened : (d : A) → n < cap → rows ≡ done ++ get_or source n d ∷ drop (n + 1) source
  opened d lt =
      let inside : n < length source = omega (arith, f.size) in
      f.is ∙ rw (add-one n) (ap (λ (l : List A). done ++ l) (drop-cons source n d inside))

  longer : (x : A) → n + 1 ≡ length (done ++ x ∷ [])
  longer x = rw length-append (omega (arith, f.counts))

  -- one more stored
  pub front_store : n < cap → (x : A) → Front cap source (set rows n x) (n + 1) (done ++ x ∷ [])
  front_store lt x =
      record {
        is = rw (opened x lt, append_snoc) (set_at done _ _ x n (sym f.counts));
        counts = longer x;
        size = f.size;
        fits = omega arith;
      }

  -- what is behind is as it was
  pub front_behind : (d : A) (x : ℕ) → n ≤ x → get_or rows x d ≡ get_or source x d
  front_behind d x le =
      let past : x ≡ length done + (x - n) = omega (arith, f.counts) in
      let there : n + (x - n) ≡ x = omega arith in
      (λ i. get_or (f.is i) (past i) d) ∙ get_or-append-add done (drop n source) (x - n) d ∙ get_or-drop n source (x - n) d ∙ ap (λ (k : ℕ). get_or source k d) there
