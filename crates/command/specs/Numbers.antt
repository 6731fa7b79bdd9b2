-- How a number is read: an optional minus, 1 to 10 digits, within 32-bit signed range.
use Rattle.std.specs.Prelude.{Bool, true, false, cond, ◌&&◌, List, [], ◌∷◌, ℕ, ◌+◌, ◌-◌, ◌*◌, leb, eqb, pos, neg_ℤ, length, Option, Some, None, ℤ}

unfoldable pub is_digit : ℕ → Bool
is_digit b = leb 48 b && leb b 57

-- what the digits say after those that say `value`
unfoldable pub magnitude_from : ℕ → List ℕ → Option ℕ
magnitude_from value [] = Some value
magnitude_from value (b ∷ bs) = cond (is_digit b) (magnitude_from (value * 10 + (b - 48)) bs) None

-- the number of a sign and a magnitude, in the range
abbrev pub within : Bool → ℕ → Option ℤ
within true n = cond (leb n 2147483648) (Some (neg_ℤ (pos n))) None
within false n = cond (leb n 2147483647) (Some (pos n)) None

abbrev pub ranged : Bool → Option ℕ → Option ℤ
ranged minus (Some n) = within minus n
ranged minus None = None

-- 1 to 10 digits after a sign
abbrev pub most_digits : ℕ
most_digits = 10

unfoldable pub signed_of : Bool → List ℕ → Option ℤ
signed_of minus bs = cond (leb 1 (length bs) && leb (length bs) most_digits) (ranged minus (magnitude_from 0 bs)) None

unfoldable pub number_of : List ℕ → Option ℤ
number_of [] = None
number_of (b ∷ bs) = cond (eqb b 45) (signed_of true bs) (signed_of false (b ∷ bs))
