-- Decimal numbers as bytes.
use Rattle.std.specs.Prelude.{cond, List, [], ◌∷◌, ◌++◌, ℕ, zero, suc, ◌+◌, ◌/◌, ◌%◌, ltb, ℤ, pos, negsuc}

-- the digits of a number, the most significant first, where it has at most `room` of them
unfoldable pub digits_in : ℕ → ℕ → List ℕ
digits_in zero n = []
digits_in (suc room) n = cond (ltb n 10) ((48 + n) ∷ []) (digits_in room (n / 10) ++ (48 + n % 10) ∷ [])

-- a number has no more digits than it is great, but for 0
unfoldable pub decimal : ℕ → List ℕ
decimal n = digits_in (suc n) n

-- a number with its sign: a minus where it is negative
abbrev pub minus_sign : ℕ
minus_sign = 45

unfoldable pub signed_text : ℤ → List ℕ
signed_text (pos n) = decimal n
signed_text (negsuc n) = minus_sign ∷ decimal (suc n)
