-- Whether the table is stale, as a caller can tell who only hears the answers. That the rows are refused with 9 exactly then is proved (proofs/HeardStale.antt).
use Rattle.std.specs.Prelude.{Bool, true, false, Result, Ok, Err, List, [], ◌∷◌}
use Rattle.planner.specs.declared.Plan.{Plan}
use Rattle.planner.specs.declared.Answer.{Answer}
use Rattle.planner.specs.declared.Refusal.{Refusal}
use Rattle.planner.specs.declared.Answer.TheVariants.{Fits, Overloaded}
use Rattle.planner.specs.History.{Call, load, update, outcome}

-- a load that is overloaded makes the table stale, and one that fits makes it live; an update of a stale table makes it live if it fits, and one of a live
-- table leaves it live; a refused call changes nothing
abbrev pub stale_by : Call → Result Answer Refusal → Bool → Bool
stale_by (load jobs capacity) (Ok Fits) stale = false
stale_by (load jobs capacity) (Ok Overloaded) stale = true
stale_by (load jobs capacity) (Err why) stale = stale
stale_by (update id earliest latest) (Ok Fits) stale = false
stale_by (update id earliest latest) (Ok Overloaded) stale = stale
stale_by (update id earliest latest) (Err why) stale = stale

-- after some calls of a plan
abbrev pub stale_after : Plan → Bool → List Call → Bool
stale_after plan stale [] = stale
stale_after plan stale (c ∷ cs) = stale_after (outcome plan c).plan (stale_by c (outcome plan c).answer stale) cs
