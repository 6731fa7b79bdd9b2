-- How numbers are printed, judged by the digits: each counts a power of ten, a 0 in front stands alone, and a minus stands before a negative number.
-- Nothing here writes: a printed line is split again at its spaces.
use Rattle.std.specs.Prelude.{◌≡◌, List, [], ◌∷◌, ℕ, ◌-◌, ◌≤◌, ◌<◌, ℤ, pos, neg_ℤ, length, get_or}
use Rattle.command.specs.Grammar.{fields_of}
use Rattle.command.specs.Lines.{lines_of}
use Rattle.command.specs.ReadableLines.{AllDigits, value_of}

pub record Shortest (ds : List ℕ) : Type 0 where
  pub all : AllDigits ds
  pub some : 1 ≤ length ds
  pub alone : get_or ds 0 0 ≡ 48 → length ds ≡ 1

pub data Spells : List ℕ → ℤ → Type 0 where
  plain : {ds : List ℕ} → Shortest ds → Spells ds (pos (value_of ds))
  minus : {ds : List ℕ} → Shortest ds → 0 < value_of ds → Spells (45 ∷ ds) (neg_ℤ (pos (value_of ds)))

pub data SpellsAll : List (List ℕ) → List ℤ → Type 0 where
  none : SpellsAll [] []
  more : {f : List ℕ} {fs : List (List ℕ)} {z : ℤ} {zs : List ℤ} → Spells f z → SpellsAll fs zs → SpellsAll (f ∷ fs) (z ∷ zs)

-- a line of a letter and numbers
pub record LetterLine (letter : ℕ) (numbers : List ℤ) (line : List ℕ) : Type 0 where
  pub fields : List (List ℕ)
  pub split : fields_of line ≡ (letter ∷ []) ∷ fields
  pub spelled : SpellsAll fields numbers

-- a text's last byte is a line feed
abbrev pub Ended : List ℕ → Type 0
Ended text = get_or text (length text - 1) 0 ≡ 10

-- a text of one such line
pub record OneLine (letter : ℕ) (numbers : List ℤ) (text : List ℕ) : Type 0 where
  pub line : List ℕ
  pub alone : lines_of text ≡ line ∷ []
  pub says : LetterLine letter numbers line
  pub ended : Ended text
