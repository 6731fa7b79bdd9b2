-- A line feed behind bytes that end without one changes no line: the last line then ends at it.
-- Assumes nothing.
use mathlib.Core.Path.{◌≡◌, ap, ◌∙◌, subst}
use mathlib.Core.List.{List, [], ◌∷◌, ◌++◌, append_assoc}
use Prim.Native.Nat.{ℕ, ◌+◌, ◌-◌, ◌<◌}
use native.Mathlib.Omega.{arith}
use lib.ListN.{length, get_or, length-append}
use lib.Seq.{get_or-append-add, append_snoc}
use Rattle.command.specs.Lines.{lines_of, LinesAre, over, rest, ends}
use Rattle.command.specs.PrintedNumbers.{Ended}
use Rattle.command.proofs.LinesOf.{lines_are, lines_unique}
use Rattle.command.proofs.PrintedNumbers.{last_byte}

behind_ended : (l : List ℕ) (b : ℕ) (bs : List ℕ) → Ended (b ∷ bs) → Ended (l ++ b ∷ bs)
behind_ended l b bs e =
    let n = length (b ∷ bs) - 1 in
    let at : length (l ++ b ∷ bs) - 1 ≡ length l + n = omega (arith, length-append l (b ∷ bs)) in
    ap (λ (k : ℕ). get_or (l ++ b ∷ bs) k 0) at ∙ get_or-append-add l (b ∷ bs) n 0 ∙ e

lines_lacking : {bytes : List ℕ} {lines : List (List ℕ)} → LinesAre bytes lines → 0 < length bytes → ¬ (Ended bytes) → LinesAre (bytes ++ 10 ∷ []) lines
lines_lacking over some lacks = absurd (omega arith)
lines_lacking (rest p) some lacks = ends p over
lines_lacking (ends {l = l} {bytes = []} p more) some lacks = absurd (lacks (last_byte l))
lines_lacking (ends {l = l} {bytes = b ∷ bs} p more) some lacks =
    rw (append_assoc l (10 ∷ b ∷ bs) (10 ∷ []))
    (ends p (lines_lacking more (omega arith) (λ e. lacks (subst Ended (append_snoc l 10 (b ∷ bs)) (behind_ended (l ++ 10 ∷ []) b bs e)))))

pub feed_lacking : (bytes : List ℕ) → 0 < length bytes → ¬ (Ended bytes) → lines_of (bytes ++ 10 ∷ []) ≡ lines_of bytes
feed_lacking bytes some lacks = lines_unique (lines_lacking (lines_are bytes) some lacks)
