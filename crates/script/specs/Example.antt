-- A script with an answer of each kind, and the numbers that it is to give: negative instants, a row whose ends differ. That the definitions give just these is
-- proved (proofs/Example.antt).
use Rattle.std.specs.Prelude.{List, [], ◌∷◌, ℤ, pos, neg_ℤ}

abbrev minus : ℤ → ℤ
minus z = neg_ℤ z

unfoldable pub asked : List ℤ
asked =
    -- a job that is too much for the supply, loaded; the rows and its first fit; then wider bounds, and its first fit again
    pos 1 ∷ minus (pos 10) ∷ minus (pos 10) ∷ pos 4 ∷ pos 3
    ∷ pos 2 ∷ pos 2
    ∷ pos 5
    ∷ pos 4 ∷ pos 0
    ∷ pos 3 ∷ pos 0 ∷ minus (pos 20) ∷ pos 20
    ∷ pos 4 ∷ pos 0
    -- a job that fits, its first fit and its row
    ∷ pos 1 ∷ minus (pos 5) ∷ minus (pos 3) ∷ pos 10 ∷ pos 1
    ∷ pos 2 ∷ pos 4
    ∷ pos 4 ∷ pos 0
    ∷ pos 5
    -- no command
    ∷ pos 7
    ∷ []

unfoldable pub told : List ℤ
told =
    pos 1 ∷ minus (pos 10) ∷ minus (pos 7) ∷ pos 3  -- overloaded
    ∷ pos 2 ∷ pos 9  -- refused
    ∷ pos 2 ∷ pos 9
    ∷ pos 0  -- fits
    ∷ pos 4  -- nowhere
    ∷ pos 0
    ∷ pos 3 ∷ minus (pos 5)  -- a start
    ∷ pos 5 ∷ pos 1 ∷ minus (pos 3) ∷ pos 4 ∷ pos 1 ∷ pos 1 ∷ pos 0  -- one row
    ∷ pos 2 ∷ pos 11
    ∷ []
