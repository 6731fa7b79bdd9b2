-- Numbers that are written one after another: those of two lists are those of the one and then of the other, the places stay as many as they were,
-- and all the numbers are laid over the first of them.
-- Assumes nothing.
use mathlib.Core.Path.{◌≡◌, refl, sym, ap, ◌∙◌}
use mathlib.Core.List.{List, [], ◌∷◌, ◌++◌, append_assoc}
use Prim.Native.Nat.{ℕ, ◌+◌, ◌≤◌, ◌<◌, min}
use native.Mathlib.Omega.{arith}
use borrow.Author.Tests.{lt-ltb, le-ltb}
use lib.IntN.{ℤ}
use lib.ListN.{length, set, length-append, length-set}
use lib.Seq.{set_out, set-append_seam}
use Rattle.script.specs.Pages.{overlaid, Page, page_of, put, puts}

-- a number is stored where there is room, and else nothing changes
pub put_room : (l : List ℤ) (n : ℕ) (x : ℤ) → n < length l → put (page_of l n) x ≡ page_of (set l n x) (n + 1)
unfolding put
put_room l n x lt = rw (lt-ltb n (length l) lt)

pub put_full : (l : List ℤ) (n : ℕ) (x : ℤ) → length l ≤ n → put (page_of l n) x ≡ page_of l n
unfolding put
put_full l n x le = rw (le-ltb n (length l) le, set_out l n x le)

-- numbers after numbers, and one number more
pub puts_append : (p : Page) (xs ys : List ℤ) → puts p (xs ++ ys) ≡ puts (puts p xs) ys
unfolding puts
puts_append p [] ys = refl
puts_append p (x ∷ xs) ys = puts_append (put p x) xs ys

pub puts_next : (p : Page) {q : Page} (xs : List ℤ) (x : ℤ) → q ≡ puts p xs → put q x ≡ puts p (xs ++ x ∷ [])
unfolding puts
puts_next p xs x e = ap (λ (r : Page). put r x) e ∙ sym (puts_append p xs (x ∷ []))

-- the places stay as many as they were
pub puts_long : (p : Page) (xs : List ℤ) → length (puts p xs).places ≡ length p.places
unfolding put puts
puts_long p [] = refl
puts_long p (x ∷ xs) = puts_long (put p x) xs ∙ length-set p.places p.written x

-- nothing is laid over no places
overlaid_none : (xs : List ℤ) → overlaid xs [] ≡ []
unfolding overlaid
overlaid_none [] = refl
overlaid_none (x ∷ xs) = refl

-- behind numbers that are written, the others are laid over what follows
behind : (done out old : List ℤ) → puts (page_of (done ++ old) (length done)) out ≡ page_of (done ++ overlaid out old) (length done + min (length out) (length old))
unfolding puts overlaid
behind done [] old = λ i. page_of (done ++ old) (same i)
  where
    same : length done ≡ length done + min 0 (length old)
    same = omega arith
behind done (x ∷ xs) [] =
    rw (put_full (done ++ []) (length done) x (rw (length-append done []) (omega arith)))
    (behind done xs [] ∙ (λ i. page_of (done ++ overlaid_none xs i) (same i)))
  where
    same : length done + min (length xs) 0 ≡ length done + min (length (x ∷ xs)) 0
    same = omega arith
behind done (x ∷ xs) (y ∷ old) =
    rw (put_room (done ++ y ∷ old) (length done) x (rw (length-append done (y ∷ old)) (omega arith)), set-append_seam done y old x)
    ((λ i. puts (page_of (sym (append_assoc done (x ∷ []) old) i) (longer i)) xs)
    ∙ behind (done ++ x ∷ []) xs old
    ∙ (λ i. page_of (append_assoc done (x ∷ []) (overlaid xs old) i) (same i)))
  where
    longer : length done + 1 ≡ length (done ++ x ∷ [])
    longer = rw (length-append done (x ∷ [])) (omega arith)

    same : length (done ++ x ∷ []) + min (length xs) (length old) ≡ length done + min (length (x ∷ xs)) (length (y ∷ old))
    same = rw (length-append done (x ∷ [])) (omega arith)

-- all that is written lies over the first places
pub puts_overlaid : (out old : List ℤ) → puts (page_of old 0) out ≡ page_of (overlaid out old) (min (length out) (length old))
puts_overlaid out old = behind [] out old ∙ (λ i. page_of (overlaid out old) (same i))
  where
    same : 0 + min (length out) (length old) ≡ min (length out) (length old)
    same = omega arith
