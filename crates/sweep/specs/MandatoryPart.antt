-- What a task's mandatory part is to be, in other words: the instants at which the task runs whatever start within its bounds is chosen.
use Rattle.std.specs.Prelude.{ℕ, ◌+◌, ◌≤◌, ◌<◌}
use Rattle.sweep.specs.declared.Task.{Task}
use Rattle.sweep.specs.Tasks.{lasts}

-- from every start within the bounds, the run has the instant t
abbrev pub Unavoidable : Task → ℕ → Type 0
Unavoidable k t = (s : ℕ) → k.earliest ≤ s → s ≤ k.latest → (s ≤ t) × (t < s + lasts k)
