-- A step of an update takes a part out of the rows, or puts it into them, and goes from row to row. Behind a row what is left of a part to put in is the part
-- of the next step.
use Rattle.std.specs.Prelude.{Bool, not, List, [], ◌++◌, ◌<◌, leb, map, Option, option_map}
use Rattle.time_table.specs.declared.Row.{Row}
use Rattle.time_table.specs.declared.Part.{Part}
use Rattle.time_table.specs.declared.part_by_part.Step.{Step}
use Rattle.time_table.specs.declared.part_by_part.Step.TheVariants.{Remove, Add}
use Rattle.time_table.specs.Rows.{cut}
use Rattle.time_table.specs.Adjustments.{ends_of}
use Rattle.time_table.specs.Order.{Each, Ordered, ticks}
use Rattle.time_table.specs.Overlap.{overlaps}
use Rattle.time_table.specs.Pieces.{before_part, after_part}
use Rattle.time_table.specs.Insertion.{alone, gap_before, heightened, started_at, past_row, insertion, Insertable}
use Rattle.time_table.specs.Removal.{lessened, removal, Removable}

abbrev pub part_of : Step → Part
part_of (Remove p) = p
part_of (Add p) = p

-- what a step makes of rows
abbrev pub stepped : Step → List Row → List Row
stepped (Remove p) rows = removal p rows
stepped (Add p) rows = insertion p rows

-- the pieces that it makes of a row: what of a part to put in lies before the row, the untouched left piece, the covered piece and the untouched right piece
abbrev pub gap_of : Step → Row → List Row
gap_of (Remove p) r = []
gap_of (Add p) r = gap_before p r

abbrev pub covered_of : Step → Row → List Row
covered_of (Remove p) r = lessened p r
covered_of (Add p) r = heightened p r

abbrev pub pieces_of : Step → Row → List Row
pieces_of s r = gap_of s r ++ before_part (part_of s) r ++ covered_of s r ++ after_part (part_of s) r

-- the step behind a row
abbrev pub behind : Step → Row → Step
behind (Remove p) r = Remove p
behind (Add p) r = Add (started_at p (past_row p r))

-- what it lays behind the last row
abbrev pub made_last : Step → List Row
made_last (Remove p) = []
made_last (Add p) = cut (alone p) p.from p.until

-- of rows that do not end before the part: one that stays, as do all behind it
abbrev pub untouched : Step → Row → Bool
untouched (Remove p) r = not (overlaps p.from p.until r.start r.end)
untouched (Add p) r = leb p.until p.from

-- the steps of an update, in four places: the parts that are removed, and then those that are added
abbrev pub steps_of : Part → Part → List (Option Step)
steps_of old new = map (option_map Remove) (ends_of old new) ++ map (option_map Add) (ends_of new old)

-- a part can be taken out of a row, or put into it
abbrev pub Changeable : Step → Row → Type 0
Changeable (Remove p) r = Removable p r
Changeable (Add p) r = Insertable p r

-- a step can be made of rows
pub record CanStep (s : Step) (rows : List Row) : Type 0 where
  pub some : (part_of s).from < (part_of s).until
  pub ordered : Ordered ticks 0 rows
  pub each : Each (Changeable s) rows
