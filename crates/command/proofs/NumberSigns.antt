-- Numbers with a sign: the text of each, and a count in the machine's words.
-- Assumes nothing.
use mathlib.Core.Path.{◌≡◌, refl}
use mathlib.Core.Bool.{true, false}
use mathlib.Core.List.{[], ◌∷◌, ◌++◌}
use Prim.Native.Nat.{ℕ, ◌^◌, ◌<◌}
use native.Mathlib.Omega.{arith}
use borrow.Author.Tests.{ltb-true}
use lib.IntN.{ℤ, pos, negsuc, nat_abs}
use lib.Signed.{lt_z}
use mir.Syntax.{w64}
use mir.Val.{to_z}
use mir.Facts.{to_z_pos}
use Rattle.command.specs.Decimal.{decimal, minus_sign, signed_text}

-- the text of a negative number, and of another
pub signed_minus : (z : ℤ) → lt_z z (pos 0) ≡ true → signed_text z ≡ (minus_sign ∷ []) ++ decimal (nat_abs z)
unfolding signed_text
signed_minus (pos n) h = absurd (omega (arith, ltb-true n 0 h))
signed_minus (negsuc n) h = refl

pub signed_plain : (z : ℤ) → lt_z z (pos 0) ≡ false → signed_text z ≡ decimal (nat_abs z)
unfolding signed_text
signed_plain (pos n) h = refl
signed_plain (negsuc n) h = absurd (let e : ◌≡◌ {A = ℕ} 0 1 = cc in omega arith)

-- a count as a number of 64 bits
pub plain_wide : (n : ℕ) → n < 2 ^ 32 → to_z w64 n ≡ pos n
plain_wide n h = to_z_pos w64 (omega arith)
