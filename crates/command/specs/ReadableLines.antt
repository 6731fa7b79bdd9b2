-- Which lines can be read, and what each says: a letter, then decimal numbers, single spaces between, an optional minus, 1 to 10 digits, within 32-bit
-- signed range. Nothing here reads: a line is put together from its parts.
use mathlib.Core.List.{List, [], ◌∷◌, flat_map}
use Rattle.std.specs.Prelude.{ℕ, ◌+◌, ◌-◌, ◌*◌, ◌^◌, ◌≤◌, ℤ, pos, neg_ℤ, length}
use Rattle.command.specs.declared.Command.{Command}
use Rattle.command.specs.declared.Command.TheVariants.{Keep, Load, Update, Fit, Rows}

-- each byte is one of the digits 0 to 9
abbrev pub AllDigits : List ℕ → Type 0
AllDigits [] = Unit {0}
AllDigits (d ∷ ds) = (48 ≤ d) × (d ≤ 57) × AllDigits ds

-- the number that they say: each digit counts a power of ten
unfoldable pub value_of : List ℕ → ℕ
value_of [] = 0
value_of (d ∷ ds) = (d - 48) * 10 ^ length ds + value_of ds

pub record Digits (ds : List ℕ) : Type 0 where
  pub all : AllDigits ds
  pub some : 1 ≤ length ds
  pub few : length ds ≤ 10

-- a number's text
pub data Numeral : List ℕ → ℤ → Type 0 where
  plain : {ds : List ℕ} → Digits ds → value_of ds ≤ 2147483647 → Numeral ds (pos (value_of ds))
  minus : {ds : List ℕ} → Digits ds → value_of ds ≤ 2147483648 → Numeral (45 ∷ ds) (neg_ℤ (pos (value_of ds)))

pub data Numerals : List (List ℕ) → List ℤ → Type 0 where
  none : Numerals [] []
  more : {f : List ℕ} {fs : List (List ℕ)} {z : ℤ} {zs : List ℤ} → Numeral f z → Numerals fs zs → Numerals (f ∷ fs) (z ∷ zs)

-- a letter, and each number's text after a space
abbrev pub line_with : ℕ → List (List ℕ) → List ℕ
line_with letter fields = letter ∷ flat_map (λ (f : List ℕ). 32 ∷ f) fields

-- `J earliest latest duration usage`, `L capacity`, `U id earliest latest`, `P id`, `T`
pub data Says : List ℕ → Command → Type 0 where
  keep : {fs : List (List ℕ)} {earliest latest duration usage : ℤ} → Numerals fs (earliest ∷ latest ∷ duration ∷ usage ∷ [])
      → Says (line_with 74 fs) (Keep (record { earliest = earliest; latest = latest; duration = duration; usage = usage }))
  load : {fs : List (List ℕ)} {capacity : ℤ} → Numerals fs (capacity ∷ []) → Says (line_with 76 fs) (Load capacity)
  update : {fs : List (List ℕ)} {id earliest latest : ℤ} → Numerals fs (id ∷ earliest ∷ latest ∷ []) → Says (line_with 85 fs) (Update id earliest latest)
  fit : {fs : List (List ℕ)} {id : ℤ} → Numerals fs (id ∷ []) → Says (line_with 80 fs) (Fit id)
  rows : {fs : List (List ℕ)} → Numerals fs [] → Says (line_with 84 fs) Rows
