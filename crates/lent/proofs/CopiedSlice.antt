-- A copy of rows to a slice: the slice keeps its length, its first places hold the rows, and its other places hold what they held. Each store adds one row
-- behind those that are there.
-- Assumes nothing.
use mathlib.Core.Path.{◌≡◌, refl, sym, ap, ◌∙◌}
use mathlib.Core.List.{List, [], ◌∷◌, ◌++◌}
use Prim.Native.Nat.{ℕ, zero, suc, ◌≤◌}
use native.Mathlib.Omega.{arith}
use lib.ListN.{length, get_or, take, drop, length-set, take-append-drop}
use lib.Seq.{take-length, take-suc, take-suc-set, drop-set-lt}
use Rattle.planner.specs.declared.RowRecord.{RowRecord}
use Rattle.planner.specs.Records.{no_row}
use Rattle.lent.specs.Copies.{row_for, copied}

pub copied_length : (xs : List RowRecord) (n : ℕ) (ys : List RowRecord) → length (copied xs n ys) ≡ length ys
copied_length xs zero ys = refl
copied_length xs (suc i) ys = length-set (copied xs i ys) i (row_for xs i) ∙ copied_length xs i ys

-- the row for a place is the one at that place
row_for_lem : (xs : List RowRecord) (i : ℕ) → row_for xs i ≡ get_or xs i no_row
row_for_lem xs i = ap (λ (k : ℕ). get_or xs k no_row) (omega arith)

pub copied_first : (xs : List RowRecord) (n : ℕ) (ys : List RowRecord) → n ≤ length xs → n ≤ length ys → take n (copied xs n ys) ≡ take n xs
copied_first xs zero ys l h = refl
copied_first xs (suc i) ys l h =
    take-suc-set (copied xs i ys) i _ (omega (arith, copied_length xs i ys))
    ∙ ap (λ (rows : List RowRecord). rows ++ (row_for xs i ∷ [])) (copied_first xs i ys (omega arith) (omega arith))
    ∙ ap (λ (row : RowRecord). take i xs ++ (row ∷ [])) (row_for_lem xs i)
    ∙ sym (take-suc xs i no_row l)

pub copied_others : (xs : List RowRecord) (n : ℕ) (ys : List RowRecord) (k : ℕ) → n ≤ k → drop k (copied xs n ys) ≡ drop k ys
copied_others xs zero ys k h = refl
copied_others xs (suc i) ys k h = drop-set-lt k (copied xs i ys) i _ h ∙ copied_others xs i ys k (omega arith)

-- so as many rows as there are lie over the first places
pub copied_laid : (xs ys : List RowRecord) → length xs ≤ length ys → copied xs (length xs) ys ≡ xs ++ drop (length xs) ys
copied_laid xs ys h =
    let n = length xs in
    let c = copied xs n ys in
    sym (take-append-drop n c)
    ∙ (λ i. (copied_first xs n ys (omega arith) h ∙ take-length xs) i ++ copied_others xs n ys n (omega arith) i)
