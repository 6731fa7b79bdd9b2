-- What a run promises of its outcome: its `ensures` clauses. No two outcomes meet the promise, which is proved (proofs/Unique.antt).
use Rattle.std.specs.Prelude.{◌≡◌, List, ℕ, min, ℤ, length}
use Rattle.script.specs.Pages.{overlaid}
use Rattle.script.specs.Runs.{run}

-- of a script and the lent slice: what the slice is afterwards, and how many numbers were written
abbrev pub RunPromise : List ℤ → List ℤ → List ℤ → ℕ → Type 0
RunPromise script answers after r = (after ≡ overlaid (run script) answers) × (r ≡ min (length (run script)) (length answers))
