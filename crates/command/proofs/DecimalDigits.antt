-- The digits of a number: how they go on, and how many there are.
-- Assumes nothing.
use mathlib.Core.Path.{◌≡◌, sym, ap}
use mathlib.Core.List.{List, [], ◌∷◌, ◌++◌}
use mathlib.Core.Logic.{⊎_elim}
use Prim.Native.Nat.{ℕ, zero, suc, ◌+◌, ◌/◌, ◌%◌, ◌*◌, ◌^◌, ◌≤◌, ◌<◌, max}
use native.Mathlib.Omega.{arith}
use borrow.Author.Tests.{lt-ltb, le-ltb}
use native.Mathlib.Nat.{pow-suc}
use lib.IntN.{ℤ, pos, negsuc}
use lib.Signed.{mag}
use lib.ListN.{length, length-append}
use Rattle.time_table.proofs.Sums.{lt_or_le}
use Rattle.std.specs.Fmt as std
use Rattle.std.proofs.lemmas.Fmt.{decimal_from_appends, length-decimal-le_succ}
use Rattle.command.specs.Decimal.{digits_in, decimal, signed_text}

-- more room than a number is great changes nothing
enough : (a b n : ℕ) → n < a → n < b → digits_in a n ≡ digits_in b n
unfolding digits_in
enough zero b n p q = absurd (omega arith)
enough (suc a) zero n p q = absurd (omega arith)
enough (suc a) (suc b) n p q =
    ⊎_elim
    (λ small. simp (lt-ltb n 10 small))
    (λ great. rw (le-ltb n 10 great) (ap (λ (l : List ℕ). l ++ (48 + n % 10) ∷ []) (enough a b (n / 10) (omega arith) (omega arith))))
    (lt_or_le n 10)

pub decimal_one : (n : ℕ) → n < 10 → decimal n ≡ (48 + n) ∷ []
unfolding decimal digits_in
decimal_one n small = simp (lt-ltb n 10 small)

pub decimal_more : (n : ℕ) → 10 ≤ n → decimal n ≡ decimal (n / 10) ++ (48 + n % 10) ∷ []
unfolding decimal digits_in
decimal_more n great =
    rw (le-ltb n 10 great) (ap (λ (l : List ℕ). l ++ (48 + n % 10) ∷ []) (enough n (suc (n / 10)) (n / 10) (omega arith) (omega arith)))

-- a number below a power of ten has no more digits than the power says
short : (k n : ℕ) → n < 10 ^ suc k → length (decimal n) ≤ suc k
short zero n h = omega (arith, ap length (decimal_one n h))
short (suc k) n h =
    ⊎_elim
    (λ small. omega (arith, ap length (decimal_one n small)))
    (λ great. omega (arith, simp length-append at (ap length (decimal_more n great)), short k (n / 10) (omega (arith, pow-suc 10 (suc k)))))
    (lt_or_le n 10)

pub decimal_short : (n : ℕ) → n < 2 ^ 32 → length (decimal n) ≤ 10
decimal_short n h = short 9 n (omega arith)

signed_within : (k : ℕ) (z : ℤ) → mag z + 1 < 10 ^ suc k → length (signed_text z) ≤ k + 2
unfolding signed_text
signed_within k (pos n) h = omega (arith, short k n (omega arith))
signed_within k (negsuc n) h = omega (arith, short k (suc n) (omega arith))

pub signed_short : (z : ℤ) → mag z < 2 ^ 31 → length (signed_text z) ≤ 11
signed_short z h = signed_within 9 z (omega arith)

pub signed_long : (z : ℤ) → mag z < 2 ^ 63 → length (signed_text z) ≤ 20
signed_long z h = signed_within 18 z (omega arith)

tens_some : (k : ℕ) → 0 < 10 ^ k
tens_some zero = omega arith
tens_some (suc k) = omega (arith, pow-suc 10 k, tens_some k)

-- a number from a power of ten on, and below the next, has one digit more than the power says; 0 counts as 1
pub digits_counted : (k n m : ℕ) → m ≡ max n 1 → 10 ^ k ≤ m → m < 10 * 10 ^ k → length (decimal n) ≡ k + 1
digits_counted zero n m e low high = omega (arith, ap length (decimal_one n (omega arith)))
digits_counted (suc k) n m e low high =
    let some = tens_some k in
    let more = pow-suc 10 k in
    let great : 10 ≤ n = omega arith in
    omega (arith, simp length-append at (ap length (decimal_more n great)), digits_counted k (n / 10) (n / 10) (omega arith) (omega arith) (omega arith))

-- the digits are those that std writes
pub decimal_std : (n : ℕ) → n < 2 ^ 64 → std.decimal n ≡ decimal n
unfolding decimal digits_in
decimal_std n h = sym (decimal_from_appends digits_in (record { one = one; more = more }) (suc n) n h (omega (arith, length-decimal-le_succ n h)))
  where
    one : (k n : ℕ) → n < 10 → digits_in (suc k) n ≡ (48 + n) ∷ []
    one k n small = simp (lt-ltb n 10 small)

    more : (k n : ℕ) → 10 ≤ n → digits_in (suc k) n ≡ digits_in k (n / 10) ++ ((48 + n % 10) ∷ [])
    more k n great = simp (le-ltb n 10 great)
