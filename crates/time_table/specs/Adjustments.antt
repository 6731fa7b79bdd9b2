-- Old and new part give removed and added parts. Both empty: nothing. One empty: the other whole. Disjoint or merely touching: the
-- old removed whole, the new added whole. Overlapping: first the difference at the right end, then the one at the left end, each
-- added or removed; equal ends give nothing.
use Rattle.std.specs.Prelude.{Bool, cond, ◌||◌, List, [], ◌∷◌, ◌++◌, ℕ, ltb, leb, Option, None, Some, option_to_list, flat_map}
use Rattle.time_table.specs.declared.Part.{Part}
use Rattle.time_table.specs.declared.mandatory_part_adjustments.MandatoryPartAdjustments.{MandatoryPartAdjustments}

-- a part cut to the instants from x up to but without y: nothing where there are none
unfoldable pub stretch : Part → ℕ → ℕ → List Part
stretch p x y = cond (ltb x y) (record { from = x; until = y; id = p.id; usage = p.usage } ∷ []) []

-- the other part is empty, or the two are disjoint or merely touch
unfoldable pub apart : Part → Part → Bool
apart p q = leb q.until q.from || (leb p.until q.from || leb q.until p.from)

-- what of p is left where q is not: all of it where they are apart, and else first at the right end, then at the left;
-- nothing where p is empty
unfoldable pub left_of : Part → Part → List Part
left_of p q =
    cond (apart p q) (stretch p p.from p.until)
    (cond (leb p.until p.from) [] (stretch p q.until p.until ++ stretch p p.from q.from))

abbrev pub removed_parts : Part → Part → List Part
removed_parts old new = left_of old new

abbrev pub added_parts : Part → Part → List Part
added_parts old new = left_of new old

-- such a part, if it has instants
abbrev pub cut_part : Part → ℕ → ℕ → Option Part
cut_part p x y = cond (ltb x y) (Some (record { from = x; until = y; id = p.id; usage = p.usage })) None

-- what of p is left where q is not, in two places: its right end, or all of it, and then its left end, where there are such
abbrev pub ends_of : Part → Part → List (Option Part)
ends_of p q =
    cond (apart p q) (cut_part p p.from p.until ∷ None ∷ [])
    (cond (leb p.until p.from) (None ∷ None ∷ []) (cut_part p q.until p.until ∷ cut_part p p.from q.from ∷ []))

-- the parts that stand in places, in their order
abbrev pub parts_there : List (Option Part) → List Part
parts_there places = flat_map option_to_list places

abbrev pub adjustments : Part → Part → MandatoryPartAdjustments
adjustments old new = record { removed = ends_of old new; added = ends_of new old }
