-- How long a job runs, where it runs from a start, and where it must be running.
use Rattle.std.specs.Prelude.{◌≡◌, Bool, true, ◌&&◌, ℤ, ◌+ℤ◌}
use Rattle.std.specs.Int.Signed.{le_z, lt_z}
use Rattle.planner.specs.declared.Job.{Job}

-- how long a job runs
abbrev pub run_length : Job → ℤ
run_length j = j.duration

-- t is one of the instants from `from` up to but without `until`
unfoldable pub between : ℤ → ℤ → ℤ → Bool
between from until t = le_z from t && lt_z t until

-- the job, started at s, runs at t
abbrev pub runs_from : Job → ℤ → ℤ → Bool
runs_from j s t = between s (s +ℤ run_length j) t

-- the job must be running at t: its mandatory part is the instants from its latest start up to but without the end of its earliest run
abbrev pub must_run : Job → ℤ → Bool
must_run j t = between j.latest (j.earliest +ℤ run_length j) t

-- s is a start within the job's bounds
pub record StartOf (j : Job) (s : ℤ) : Type 0 where
  pub early : le_z j.earliest s ≡ true
  pub late : le_z s j.latest ≡ true
