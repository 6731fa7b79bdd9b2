-- A text of bytes that are greater than a space is one field, and one whose bytes are greater than a line feed is one line: splitting takes it whole.
-- Assumes nothing.
use mathlib.Core.Path.{◌≡◌, refl, ap, ◌∙◌}
use mathlib.Core.List.{List, [], ◌∷◌, ◌++◌, flat_map, append-nil}
use Prim.Native.Nat.{ℕ, ◌<◌}
use native.Mathlib.Omega.{arith}
use borrow.Author.Tests.{ne_eqb}
use lib.Seq.{append_snoc}
use Rattle.command.specs.Grammar.{fields_of}
use Rattle.command.specs.Lines.{lines_of, NoFeed}
use Rattle.command.proofs.LinesOf.{lines_ended}

-- each byte is greater than a space or, with n = 10, than a line feed
abbrev pub Above : ℕ → List ℕ → Type 0
Above n [] = Unit {0}
Above n (b ∷ bs) = (n < b) × Above n bs

pub above_append : (n : ℕ) (l m : List ℕ) → Above n l → Above n m → Above n (l ++ m)
above_append n [] m p q = q
above_append n (b ∷ l) m p q = (p.0, above_append n l m p.1 q)

pub above_less : (l : List ℕ) → Above 32 l → Above 10 l
above_less [] p = tt
above_less (b ∷ l) p = (omega (arith, p.0), above_less l p.1)

-- the first field ends at a space, and the last with the line
field_last : (l : List ℕ) → Above 32 l → fields_of l ≡ l ∷ []
unfolding fields_of
field_last [] p = refl
field_last (b ∷ l) p = rw (ne_eqb b 32 (λ e. omega (arith, p.0)), field_last l p.1)

field_first : (l rest : List ℕ) → Above 32 l → fields_of (l ++ 32 ∷ rest) ≡ l ∷ fields_of rest
unfolding fields_of
field_first [] rest p = refl
field_first (b ∷ l) rest p = rw (ne_eqb b 32 (λ e. omega (arith, p.0)), field_first l rest p.1)

-- a line ends at a line feed
pub above_feedless : (l : List ℕ) → Above 10 l → NoFeed l
above_feedless [] p = tt
above_feedless (b ∷ l) p = ((λ e. omega (arith, p.0, e)), above_feedless l p.1)

pub line_first : (l rest : List ℕ) → Above 10 l → lines_of ((l ++ 10 ∷ []) ++ rest) ≡ l ∷ lines_of rest
line_first l rest p = ap lines_of (append_snoc l 10 rest) ∙ lines_ended l rest (above_feedless l p)

-- fields that each stand after a space
abbrev pub AllAbove : ℕ → List (List ℕ) → Type 0
AllAbove n [] = Unit {0}
AllAbove n (f ∷ fs) = Above n f × AllAbove n fs

pub fields_joined : (l : List ℕ) (fs : List (List ℕ)) → Above 32 l → AllAbove 32 fs → fields_of (l ++ flat_map (λ (f : List ℕ). 32 ∷ f) fs) ≡ l ∷ fs
unfolding flat_map
fields_joined l [] p q = ap fields_of (append-nil l) ∙ field_last l p
fields_joined l (f ∷ fs) p q = field_first l (f ++ flat_map (λ (g : List ℕ). 32 ∷ g) fs) p ∙ ap (λ (gs : List (List ℕ)). l ∷ gs) (fields_joined f fs q.0 q.1)
