-- The removed and the added parts are those of the document's table: each row of the table leads to its parts, and some row always holds.
-- Assumes nothing.
use mathlib.Core.Path.{◌≡◌, refl, sym, ◌∙◌, subst}
use mathlib.Core.Bool.{Bool, true, false, or-true}
use mathlib.Core.List.{List, ◌++◌}
use mathlib.Core.Logic.{◌⊎◌, inl, inr, ⊎_elim}
use borrow.Author.Tests.{le-leb, lt-leb}
use lib.Dec.{leb}
use Rattle.time_table.specs.declared.Part.{Part}
use Rattle.time_table.specs.Adjustments.{stretch, apart, left_of, removed_parts, added_parts, parts_there, adjustments}
use Rattle.time_table.specs.AdjustmentTable.{Separate, Overlap, LeftParts, nothing, whole, both_ends, right_end, left_end, inside}
use Rattle.time_table.proofs.Sums.{lt_or_le}
use Rattle.time_table.proofs.PartDifference.{stretch_none, stretch_some, left_apart, left_empty, left_ends, ends_there}

module _ (p q : Part) where
  is_apart : Separate p q → apart p q ≡ true
  unfolding apart
  is_apart (inl h) = rw (le-leb q.until q.from h)
  is_apart (inr (inl h)) = rw (le-leb p.until q.from h) (or-true (leb q.until q.from))
  is_apart (inr (inr h)) = rw (le-leb q.until p.from h, or-true (leb p.until q.from)) (or-true (leb q.until q.from))

  not_apart : Overlap p q → apart p q ≡ false
  unfolding apart
  not_apart o = rw (lt-leb q.until q.from o.others, lt-leb p.until q.from o.behind, lt-leb q.until p.from o.ahead)

  ends_are : Overlap p q → left_of p q ≡ stretch p q.until p.until ++ stretch p p.from q.from
  ends_are o = left_ends p q (not_apart o) o.some

  -- each row of the table leads to its parts
  left_is : {l : List Part} → LeftParts p q l → left_of p q ≡ l
  left_is (nothing h) =
      ⊎_elim
      (λ e. left_apart p q e ∙ stretch_none p p.from p.until h)
      (λ e. left_empty p q e h)
      (either (apart p q))
    where
      either : (b : Bool) → (b ≡ true) ⊎ (b ≡ false)
      either true = inl refl
      either false = inr refl
  left_is (whole some s) = left_apart p q (is_apart s) ∙ stretch_some p p.from p.until some
  left_is (both_ends o r l) = ends_are o ∙ rw (stretch_some p q.until p.until r, stretch_some p p.from q.from l) refl
  left_is (right_end o r l) = ends_are o ∙ rw (stretch_some p q.until p.until r, stretch_none p p.from q.from l) refl
  left_is (left_end o r l) = ends_are o ∙ rw (stretch_none p q.until p.until r, stretch_some p p.from q.from l) refl
  left_is (inside o r l) = ends_are o ∙ rw (stretch_none p q.until p.until r, stretch_none p p.from q.from l) refl

  held : {l : List Part} → LeftParts p q l → LeftParts p q (left_of p q)
  held g = subst (LeftParts p q) (sym (left_is g)) g

  -- some row holds
  overlapping : Overlap p q → LeftParts p q (left_of p q)
  overlapping o =
      ⊎_elim
      (λ r. ⊎_elim (λ l. held (both_ends o r l)) (λ l. held (right_end o r l)) (lt_or_le p.from q.from))
      (λ r. ⊎_elim (λ l. held (left_end o r l)) (λ l. held (inside o r l)) (lt_or_le p.from q.from))
      (lt_or_le q.until p.until)

  left_table : LeftParts p q (left_of p q)
  left_table =
      ⊎_elim
      (λ some. ⊎_elim
      (λ others. ⊎_elim
      (λ behind. ⊎_elim
      (λ ahead. overlapping (record { some = some; others = others; ahead = ahead; behind = behind }))
      (λ h. held (whole some (inr (inr h))))
      (lt_or_le p.from q.until))
      (λ h. held (whole some (inr (inl h))))
      (lt_or_le q.from p.until))
      (λ h. held (whole some (inl h)))
      (lt_or_le q.from q.until))
      (λ h. held (nothing h))
      (lt_or_le p.from p.until)

-- the parts that an adjustment has in its places, in their order, are the removed and the added parts; these, and no other lists, are the table's
module _ (old new : Part) where
  pub removed_there : parts_there (adjustments old new).removed ≡ removed_parts old new
  removed_there = ends_there old new

  pub added_there : parts_there (adjustments old new).added ≡ added_parts old new
  added_there = ends_there new old

  pub removed_are : LeftParts old new (removed_parts old new)
  removed_are = left_table old new

  pub added_are : LeftParts new old (added_parts old new)
  added_are = left_table new old

  pub removed_unique : (l : List Part) → LeftParts old new l → l ≡ removed_parts old new
  removed_unique l g = sym (left_is old new g)

  pub added_unique : (l : List Part) → LeftParts new old l → l ≡ added_parts old new
  added_unique l g = sym (left_is new old g)
