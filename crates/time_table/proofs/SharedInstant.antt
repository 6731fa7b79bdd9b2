-- A part and a row overlap exactly if they share an instant: the later of their two starts is one.
-- Assumes nothing.
use mathlib.Core.Path.{◌≡◌, refl}
use mathlib.Core.Bool.{true}
use Prim.Native.Nat.{ℕ, ◌≤◌, ◌<◌, max}
use native.Mathlib.Omega.{arith}
use borrow.Author.Tests.{lt-ltb, le-leb, ltb-true, leb-true}
use lib.Dec.{ltb, leb}
use Rattle.time_table.specs.Overlap.{overlaps, Shared}
use Rattle.time_table.proofs.Bits.{both}

module _ (lower upper start end : ℕ) where
  pub shared_overlaps : Shared lower upper start end → overlaps lower upper start end ≡ true
  shared_overlaps s = rw (lt-ltb start upper (omega arith), le-leb lower end (omega arith)) refl

  pub overlaps_shared : lower < upper → start ≤ end → overlaps lower upper start end ≡ true → Shared lower upper start end
  overlaps_shared part row e =
      let b = both (ltb start upper) (leb lower end) e in
      let starts = ltb-true start upper b.0 in
      let ends = leb-true lower end b.1 in
      record { instant = max lower start; from = omega arith; until = omega arith; first = omega arith; last = omega arith }
