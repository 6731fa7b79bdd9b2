-- `steps` meets its contract: each place of the adjustments is made a step.
-- Assumes nothing.
use Rattle.std.proofs.Common.{◌≡◌, refl, List, [], ◌∷◌, Bool, true, false, cond, Option, None, get_or, map, rules}
use Rattle.std.specs.Option.{option_map}
use lib.Dec.{leb}
use Rattle.time_table.specs.declared.Part.{Part}
use Rattle.time_table.specs.declared.part_by_part.Step.{Step}
use Rattle.time_table.specs.declared.part_by_part.Step.TheVariants.{Remove, Add}
use Rattle.time_table.specs.Adjustments.{apart, ends_of}
use Rattle.time_table.proofs.time_table_over_interval_incremental.steps.Goals as goal

-- the steps of two places
places : (K : Part → Step) (p q : Part) → map (option_map K) (ends_of p q) ≡ option_map K (get_or (ends_of p q) 0 None) ∷ option_map K (get_or (ends_of p q) 1 None) ∷ []
places K p q = go (apart p q) (leb p.until p.from) _ _ _
  where
    go : (a b : Bool) (r s t : Option Part)
        → let l : List (Option Part) = cond a (r ∷ None ∷ []) (cond b (None ∷ None ∷ []) (s ∷ t ∷ [])) in
        map (option_map K) l ≡ option_map K (get_or l 0 None) ∷ option_map K (get_or l 1 None) ∷ []
    go true b r s t = refl
    go false true r s t = refl
    go false false r s t = refl

pub returns : goal.returns
returns c =
    let old = c.args.old in
    let new = c.args.new in
    let a = c.get_mandatory_part_adjustments-adjustments in
    let first : c.map.result ≡ option_map Remove (get_or a.result.removed 0 None) = search rules in
    let second : c.map-2.result ≡ option_map Remove (get_or a.result.removed 1 None) = search rules in
    let third : c.map-3.result ≡ option_map Add (get_or a.result.added 0 None) = search rules in
    let fourth : c.map-4.result ≡ option_map Add (get_or a.result.added 1 None) = search rules in
    rw (first, second, third, fourth, a.ensures, places Remove old new, places Add new old) refl
