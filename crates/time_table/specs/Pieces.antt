-- The pieces of a row that a part which goes through it leaves untouched.
-- An interval is a first instant and an end that is not in it; a row's own `end` is in it.
use Rattle.std.specs.Prelude.{List, ◌+◌, min, max}
use Rattle.time_table.specs.declared.Row.{Row}
use Rattle.time_table.specs.declared.Part.{Part}
use Rattle.time_table.specs.Rows.{cut}

-- the untouched left piece of a row, and the untouched right piece
abbrev pub before_part : Part → Row → List Row
before_part p r = cut r r.start (min p.from (r.end + 1))

abbrev pub after_part : Part → Row → List Row
after_part p r = cut r (max p.until r.start) (r.end + 1)
