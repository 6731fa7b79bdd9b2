-- The lines of some bytes are what stands between the line feeds: a byte that is none goes behind the line begun, and a line feed ends it.
-- Assumes nothing.
use mathlib.Core.Path.{◌≡◌, refl, sym, ap, ◌∙◌}
use mathlib.Core.Bool.{Bool, true, false, cond}
use mathlib.Core.List.{List, [], ◌∷◌, ◌++◌, append-nil}
use Prim.Native.Nat.{ℕ}
use borrow.Author.Tests.{eqb-true, eqb-false, ne_eqb}
use lib.Dec.{eqb}
use lib.Seq.{append_snoc}
use Rattle.command.specs.Lines.{last_line, lines_after, lines_of, NoFeed, LinesAre, over, rest, ends}

feedless_append : (l m : List ℕ) → NoFeed l → NoFeed m → NoFeed (l ++ m)
feedless_append [] m p q = q
feedless_append (b ∷ l) m p q = (p.0, feedless_append l m p.1 q)

last_are : (begun : List ℕ) → NoFeed begun → LinesAre begun (last_line begun)
last_are [] p = over
last_are (b ∷ bs) p = rest p

lines_on : (bytes begun : List ℕ) → NoFeed begun → LinesAre (begun ++ bytes) (lines_after begun bytes)
unfolding lines_after
lines_on [] begun p = rw (append-nil begun) (last_are begun p)
lines_on (b ∷ bytes) begun p = go (eqb b 10) refl (lines_on bytes [] tt) (λ other. lines_on bytes (begun ++ b ∷ []) (feedless_append begun (b ∷ []) p (other, tt)))
  where
    go : (feed : Bool) → eqb b 10 ≡ feed → LinesAre bytes (lines_after [] bytes) → (¬ (b ≡ 10) → LinesAre (begun ++ b ∷ [] ++ bytes) (lines_after (begun ++ b ∷ []) bytes))
        → LinesAre (begun ++ b ∷ bytes) (cond feed (begun ∷ lines_after [] bytes) (lines_after (begun ++ b ∷ []) bytes))
    go true t next on = rw (eqb-true b 10 t) (ends p next)
    go false t next on = rw append_snoc at (on (eqb-false b 10 t))

-- and no others are
feed_ends : (begun l bytes : List ℕ) → NoFeed l → lines_after begun (l ++ 10 ∷ bytes) ≡ (begun ++ l) ∷ lines_after [] bytes
unfolding lines_after
feed_ends begun [] bytes p = ap (λ (m : List ℕ). m ∷ lines_after [] bytes) (sym (append-nil begun))
feed_ends begun (b ∷ l) bytes p =
    rw (ne_eqb b 10 p.0) (feed_ends (begun ++ b ∷ []) l bytes p.1 ∙ ap (λ (m : List ℕ). m ∷ lines_after [] bytes) (append_snoc begun b l))

pub lines_ended : (l bytes : List ℕ) → NoFeed l → lines_of (l ++ 10 ∷ bytes) ≡ l ∷ lines_of bytes
lines_ended l bytes p = feed_ends [] l bytes p

rest_whole : (begun l : List ℕ) → NoFeed l → lines_after begun l ≡ last_line (begun ++ l)
unfolding lines_after
rest_whole begun [] p = ap last_line (sym (append-nil begun))
rest_whole begun (b ∷ l) p = rw (ne_eqb b 10 p.0) (rest_whole (begun ++ b ∷ []) l p.1 ∙ ap last_line (append_snoc begun b l))

pub lines_are : (bytes : List ℕ) → LinesAre bytes (lines_of bytes)
lines_are bytes = lines_on bytes [] tt

pub lines_unique : {bytes : List ℕ} {lines : List (List ℕ)} → LinesAre bytes lines → lines_of bytes ≡ lines
unfolding lines_after
lines_unique over = refl
lines_unique (rest {b} {bs} p) = rest_whole [] (b ∷ bs) p
lines_unique (ends {l} {bytes} p more) = lines_ended l bytes p ∙ ap (λ (ls : List (List ℕ)). l ∷ ls) (lines_unique more)
