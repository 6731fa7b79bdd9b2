-- How a person or a panel reads what the program prints, from document 01 alone: lines end at a line feed, fields are split at single spaces, a number is
-- decimal with an optional minus. It knows nothing of how answers are written.
use Rattle.std.specs.Prelude.{cond, ◌&&◌, List, [], ◌∷◌, ℕ, ◌+◌, ◌-◌, ◌*◌, leb, eqb, ℤ, pos, neg_ℤ}
use Rattle.std.proofs.Math.Option.{Option, none, some, map}

-- what a line says: `F`, `O start end height`, `R number`, `S start`, `N`, a row, `E count`, or nothing of this
pub data Reply : Type 0 where
  fits : Reply
  overloaded : (start end height : ℤ) → Reply
  refused : (number : ℤ) → Reply
  starts_at : (start : ℤ) → Reply
  nowhere : Reply
  row : (start end height : ℤ) (ids : List ℤ) → Reply
  count : (rows : ℤ) → Reply
  garbage : Reply

-- a text split at a byte: what stands before, between and behind
abbrev pub with_first : ℕ → List (List ℕ) → List (List ℕ)
with_first b [] = (b ∷ []) ∷ []
with_first b (piece ∷ pieces) = (b ∷ piece) ∷ pieces

unfoldable pub split_at : ℕ → List ℕ → List (List ℕ)
split_at mark [] = [] ∷ []
split_at mark (b ∷ bs) = cond (eqb b mark) ([] ∷ split_at mark bs) (with_first b (split_at mark bs))

-- digits from the left, behind those that say `value`
unfoldable pub read_digits : ℕ → List ℕ → Option ℕ
read_digits value [] = some value
read_digits value (b ∷ bs) = cond (leb 48 b && leb b 57) (read_digits (value * 10 + (b - 48)) bs) none

-- a number: an optional minus (45), then at least one digit
abbrev pub negative : ℕ → ℤ
negative n = neg_ℤ (pos n)

abbrev pub some_digits : List ℕ → Option ℕ
some_digits [] = none
some_digits (b ∷ bs) = read_digits 0 (b ∷ bs)

unfoldable pub read_number : List ℕ → Option ℤ
read_number [] = none
read_number (b ∷ bs) = cond (eqb b 45) (map negative (some_digits bs)) (map pos (some_digits (b ∷ bs)))

-- fields that are all numbers
abbrev pub number_then : Option ℤ → Option (List ℤ) → Option (List ℤ)
number_then (some z) numbers = map (λ (zs : List ℤ). z ∷ zs) numbers
number_then none numbers = none

unfoldable pub read_numbers : List (List ℕ) → Option (List ℤ)
read_numbers [] = some []
read_numbers (field ∷ fields) = number_then (read_number field) (read_numbers fields)

-- a letter with its numbers: `F` 70 and `N` 78 have none, `R` 82, `S` 83 and `E` 69 one, `O` 79 three
abbrev pub read_letter : ℕ → Option (List ℤ) → Reply
read_letter letter (some []) = cond (eqb letter 70) Reply.fits (cond (eqb letter 78) Reply.nowhere Reply.garbage)
read_letter letter (some (z ∷ [])) =
    cond (eqb letter 82) (Reply.refused z) (cond (eqb letter 83) (Reply.starts_at z) (cond (eqb letter 69) (Reply.count z) Reply.garbage))
read_letter letter (some (start ∷ end ∷ [])) = Reply.garbage
read_letter letter (some (start ∷ end ∷ height ∷ [])) = cond (eqb letter 79) (Reply.overloaded start end height) Reply.garbage
read_letter letter (some (start ∷ end ∷ height ∷ z ∷ zs)) = Reply.garbage
read_letter letter none = Reply.garbage

-- a row is numbers alone: start, end, height, and the ids
abbrev pub read_row : Option (List ℤ) → Reply
read_row (some (start ∷ end ∷ height ∷ ids)) = Reply.row start end height ids
read_row (some (start ∷ end ∷ [])) = Reply.garbage
read_row (some (start ∷ [])) = Reply.garbage
read_row (some []) = Reply.garbage
read_row none = Reply.garbage

-- a line that starts with a capital letter alone (65 to 90), and any other
abbrev pub read_fields : List (List ℕ) → Reply
read_fields [] = Reply.garbage
read_fields ([] ∷ fields) = Reply.garbage
read_fields ((b ∷ []) ∷ fields) = cond (leb 65 b && leb b 90) (read_letter b (read_numbers fields)) (read_row (read_numbers ((b ∷ []) ∷ fields)))
read_fields ((b ∷ c ∷ bs) ∷ fields) = read_row (read_numbers ((b ∷ c ∷ bs) ∷ fields))

unfoldable pub read_line : List ℕ → Reply
read_line line = read_fields (split_at 32 line)

-- a text: each piece before a line feed (10) is a line; what stands behind the last must be nothing
abbrev pub read_last : List ℕ → List Reply
read_last [] = []
read_last (b ∷ bs) = Reply.garbage ∷ []

unfoldable pub read_pieces : List (List ℕ) → List Reply
read_pieces [] = []
read_pieces (last ∷ []) = read_last last
read_pieces (line ∷ piece ∷ pieces) = read_line line ∷ read_pieces (piece ∷ pieces)

unfoldable pub read_answers : List ℕ → List Reply
read_answers text = read_pieces (split_at 10 text)
