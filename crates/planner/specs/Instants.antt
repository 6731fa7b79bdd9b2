-- Instants and ticks: a tick is its instant plus 1,000,000,000, so that the least start bound is tick 0.
use Rattle.std.specs.Prelude.{ℕ, ℤ, pos, nat_abs, ◌+ℤ◌, ◌-ℤ◌}
use Rattle.planner.specs.Ranges.{max_bound}

-- the instant of a tick
unfoldable pub instant : ℕ → ℤ
instant t = pos t -ℤ pos max_bound

-- the tick of an instant, from the least start bound on
unfoldable pub tick : ℤ → ℕ
tick z = nat_abs (z +ℤ pos max_bound)

-- the number of a duration, a usage or a capacity
unfoldable pub amount : ℤ → ℕ
amount z = nat_abs z
