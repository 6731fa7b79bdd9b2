-- Numbers that are written to a list with a bounded number of places.
use Rattle.std.specs.Prelude.{cond, List, [], ◌∷◌, ℕ, ◌+◌, ltb, ℤ, length, set}

-- the first numbers of a list in the first places of another, as far as it has places
unfoldable pub overlaid : List ℤ → List ℤ → List ℤ
overlaid [] old = old
overlaid (x ∷ xs) [] = []
overlaid (x ∷ xs) (y ∷ old) = x ∷ overlaid xs old

-- the same number by number: the places, and how many of them are written
pub record Page : Type 0 where
  pub places : List ℤ
  pub written : ℕ

abbrev pub page_of : List ℤ → ℕ → Page
page_of l n = record { places = l; written = n }

unfoldable pub put : Page → ℤ → Page
put p x =
    record {
      places = set p.places p.written x;
      written = cond (ltb p.written (length p.places)) (p.written + 1) p.written;
    }

unfoldable pub puts : Page → List ℤ → Page
puts p [] = p
puts p (x ∷ xs) = puts (put p x) xs
