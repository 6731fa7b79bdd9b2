-- The jobs that are kept for a load.
use Rattle.std.specs.Prelude.{cond, List, ◌+◌, ltb, length, set}
use Rattle.time_table.specs.Held.{pad}
use Rattle.planner.specs.declared.Job.{Job}
use Rattle.planner.specs.declared.Jobs.{Jobs}
use Rattle.planner.specs.Given.{no_job}

-- the struct of some jobs, whose unused places are 0
abbrev pub jobs_with : List Job → Jobs
jobs_with js = record { list = pad 32 no_job js; count = length js }

-- a job is kept behind the others, up to the 32nd; one more is only counted
unfoldable pub keeping : Jobs → Job → Jobs
keeping jobs job =
    cond (ltb jobs.count 32)
    (record { list = set jobs.list jobs.count job; count = jobs.count + 1 })
    (record { list = jobs.list; count = 33 })
