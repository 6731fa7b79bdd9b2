-- The ends of document 01's ranges are those of the definitions: a load is heard as its checks say, and those compute to the table.
-- Assumes nothing.
use mathlib.Core.Path.{◌≡◌, refl, ◌∙◌}
use mathlib.Core.List.{[], ◌∷◌, map}
use Rattle.planner.specs.Refusals.{verdict}
use Rattle.planner.specs.Ranges.{in_range}
use Rattle.planner.specs.Checks.{capacity_checked, bounds_checked, job_checked, jobs_checked}
use Rattle.planner.specs.Kept.{jobs_with}
use Rattle.planner.specs.Answers.{fresh_plan}
use Rattle.planner.specs.Loads.{load_checked}
use Rattle.planner.specs.Edges.{Edge, hears, edges}
use Rattle.planner.proofs.Refused.{load_judged}

checked : map (λ (e : Edge). verdict (load_checked (jobs_with (e.job ∷ [])) e.capacity)) edges ≡ map (λ (e : Edge). e.heard) edges
unfolding edges load_checked capacity_checked jobs_checked job_checked bounds_checked in_range
checked = refl

pub ends_of_range : map hears edges ≡ map (λ (e : Edge). e.heard) edges
unfolding hears
ends_of_range = (λ i. map (λ (e : Edge). load_judged fresh_plan (jobs_with (e.job ∷ [])) e.capacity i) edges) ∙ checked
