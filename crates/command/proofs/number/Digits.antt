-- What is left of a field is the byte at its place and the bytes behind, so each byte is one step of the definition.
-- Assumes nothing.
use Rattle.std.proofs.Common.{◌≡◌, ℕ, ◌+◌, ◌-◌, ◌*◌, ◌<◌, ◌≤◌, Bool, cond, List, length, drop, get_or, Some, None, refl, add-one, drop-cons}
use Rattle.std.proofs.Math.ListN.{drop_of_length-le}
use Rattle.command.specs.Numbers.{is_digit, magnitude_from}

pub digit_next : (bs : List ℕ) (i value : ℕ) {t : Bool} → i < length bs → t ≡ is_digit (get_or bs i 0)
    → magnitude_from value (drop i bs) ≡ cond t (magnitude_from (value * 10 + (get_or bs i 0 - 48)) (drop (i + 1) bs)) None
unfolding magnitude_from
digit_next bs i value inside e = rw (drop-cons bs i 0 inside, add-one i, e) refl

pub digit_end : (bs : List ℕ) (i value : ℕ) → length bs ≤ i → magnitude_from value (drop i bs) ≡ Some value
unfolding magnitude_from
digit_end bs i value past = rw (drop_of_length-le bs past)
