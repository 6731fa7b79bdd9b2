-- `instant_of` meets its contract: the difference is taken in 64 bits, where a tick is not negative, and fits 32.
-- Assumes nothing.
use mathlib.Core.Path.{◌≡◌, ◌∙◌}
use Prim.Native.Nat.{ℕ, ◌<◌}
use native.Mathlib.Omega.{arith}
use lib.IntN.{ℤ, pos, ◌-ℤ◌}
use mir.Syntax.{w32, w64}
use mir.Val.{SFits, to_z, of_z}
use mir.Facts.{to_z-of_z}
use Rattle.planner.specs.Ranges.{max_bound, last_end}
use Rattle.planner.specs.Instants.{instant}
use Rattle.planner.proofs.Ticks.{instant_small}
use Rattle.planner.proofs.border.instant_of.Goals as goal

-- the two numbers in 64 bits, and their difference
module _ (tick : ℕ) (low : tick < last_end) (t b : ℤ) (t_is : t ≡ pos tick) (b_is : b ≡ pos max_bound) where
  difference : to_z w64 (of_z w64 t) -ℤ to_z w64 (of_z w64 b) ≡ instant tick
  unfolding instant
  difference =
      let read_t : to_z w64 (of_z w64 t) ≡ pos tick = rw t_is (to_z-of_z {w = w64} {z = pos tick} (record { sfits = omega arith })) in
      let read_b : to_z w64 (of_z w64 b) ≡ pos max_bound = rw b_is (to_z-of_z {w = w64} {z = pos max_bound} (record { sfits = omega arith })) in
      λ i. read_t i -ℤ read_b i

  fits_wide : SFits w64 (to_z w64 (of_z w64 t) -ℤ to_z w64 (of_z w64 b))
  fits_wide = rw difference (record { sfits = omega (arith, instant_small tick low) })

  read : to_z w64 (of_z w64 (to_z w64 (of_z w64 t) -ℤ to_z w64 (of_z w64 b))) ≡ instant tick
  read = to_z-of_z fits_wide ∙ difference

  fits : SFits w32 (to_z w64 (of_z w64 (to_z w64 (of_z w64 t) -ℤ to_z w64 (of_z w64 b))))
  fits = rw read (record { sfits = omega (arith, instant_small tick low) })

pub overflow_sub-result : goal.overflow_sub-result
overflow_sub-result c = fits_wide c.args.tick c.requires c.from.result c.from-2.result c.from.ensures c.from-2.ensures

pub overflow_cast-result : goal.overflow_cast-result
overflow_cast-result c = fits c.args.tick c.requires c.from.result c.from-2.result c.from.ensures c.from-2.ensures

pub returns : goal.returns
returns c =
    to_z-of_z (fits c.args.tick c.requires c.from.result c.from-2.result c.from.ensures c.from-2.ensures)
    ∙ read c.args.tick c.requires c.from.result c.from-2.result c.from.ensures c.from-2.ensures
