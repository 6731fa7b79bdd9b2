-- A line is read exactly if it is one of those that document 01 describes, and as what that says: splitting at the spaces gives back the fields that the
-- line was put together from, and reading digit by digit gives the sum of their powers of ten.
-- Assumes nothing.
use mathlib.Core.Path.{◌≡◌, refl, sym, ap, ◌∙◌, subst}
use mathlib.Core.Bool.{Bool, true, false, cond}
use mathlib.Core.List.{List, [], ◌∷◌, ◌++◌, flat_map}
use mathlib.Core.Logic.{◌⊎◌, inl, inr, ⊎_elim, ◌↔◌}
use Prim.Native.Nat.{ℕ, suc, ◌+◌, ◌-◌, ◌*◌, ◌^◌, ◌≤◌, ◌<◌}
use native.Mathlib.Nat.{add_assoc, add-mul, mul_assoc, pow-succ'}
use native.Mathlib.Omega.{arith}
use borrow.Author.Tests.{ne_eqb, le-leb, leb-true, eqb-true}
use lib.Dec.{leb, eqb}
use lib.IntN.{ℤ, pos, neg_ℤ}
use lib.ListN.{length, length-append}
use Rattle.std.specs.Prelude.{Option, Some, None}
use Rattle.std.proofs.lemmas.Option.{none-some, same_Some}
use Rattle.command.specs.declared.Command.{Command}
use Rattle.command.specs.declared.Command.TheVariants.{Unreadable}
use Rattle.command.specs.Numbers.{is_digit, magnitude_from, within, most_digits, signed_of, number_of}
use Rattle.command.specs.Grammar.{in_first, fields_of, values_of, numbers_taken, command_with, by_letter, asked, asked_by, line_limit, command_of}
use Rattle.command.specs.ReadableLines.{AllDigits, value_of, Digits, Numeral, plain, minus, Numerals, line_with, Says, keep, load, update, fit, rows}
use Rattle.command.specs.ReadableLines.{none as no-numerals, more as numeral-then}
use Rattle.command.proofs.SpacesAndFeeds.{Above, AllAbove, fields_joined}

-- both ways of a test, and of a sum
tested : {A : Type 0} (b : Bool) → (b ≡ true → A) → (b ≡ false → A) → A
tested true p q = p refl
tested false p q = q refl

either : {A B C : Type 0} → A ⊎ B → (A → C) → (B → C) → C
either s f g = ⊎_elim f g s

-- nothing is not something
none_not : {A B : Type 0} {x : B} → None ≡ Some x → A
none_not e = absurd (none-some _ e)

-- digits that are read behind a value, or a byte among them that is none
pub value_more : (v k n w : ℕ) → (v * 10 + k) * 10 ^ n + w ≡ v * 10 ^ suc n + (k * 10 ^ n + w)
value_more v k n w = rw (add-mul (v * 10) k (10 ^ n), mul_assoc v 10 (10 ^ n), pow-succ' 10 n) (add_assoc (v * (10 * 10 ^ n)) (k * 10 ^ n) w)

digits_behind : (ds : List ℕ) (v : ℕ) → AllDigits ds → magnitude_from v ds ≡ Some (v * 10 ^ length ds + value_of ds)
unfolding magnitude_from is_digit value_of
digits_behind [] v p = ap Some (omega arith)
digits_behind (d ∷ ds) v p =
    rw (le-leb 48 d p.0, le-leb d 57 p.1) (digits_behind ds (v * 10 + (d - 48)) p.2 ∙ ap Some (value_more v (d - 48) (length ds) (value_of ds)))

digits_read : (ds : List ℕ) → AllDigits ds → magnitude_from 0 ds ≡ Some (value_of ds)
digits_read ds p = digits_behind ds 0 p ∙ ap Some (omega arith)

digits_or_bad : (ds : List ℕ) (v : ℕ) → AllDigits ds ⊎ (magnitude_from v ds ≡ None)
unfolding magnitude_from is_digit
digits_or_bad [] v = inl tt
digits_or_bad (d ∷ ds) v =
    tested (leb 48 d)
    (λ low. tested (leb d 57)
    (λ high. either (digits_or_bad ds (v * 10 + (d - 48))) (λ p. inl (leb-true 48 d low, leb-true d 57 high, p)) (λ e. inr (rw (low, high) e)))
    (λ high. inr (rw (low, high))))
    (λ low. inr (rw low))

-- a sign and digits
signed_read : (m : Bool) (ds : List ℕ) → Digits ds → signed_of m ds ≡ within m (value_of ds)
unfolding signed_of
signed_read m ds g = rw (le-leb 1 (length ds) g.some, le-leb (length ds) most_digits (omega (arith, g.few)), digits_read ds g.all)

signed_digits : (m : Bool) (ds : List ℕ) (z : ℤ) → signed_of m ds ≡ Some z → Digits ds
unfolding signed_of
signed_digits m ds z e =
    tested (leb 1 (length ds))
    (λ some. tested (leb (length ds) most_digits)
    (λ few. either (digits_or_bad ds 0)
    (λ p. record { all = p; some = leb-true 1 (length ds) some; few = omega (arith, leb-true (length ds) most_digits few) })
    (λ bad. none_not (rw (some, few, bad) at e)))
    (λ few. none_not (rw (some, few) at e)))
    (λ some. none_not (rw some at e))

-- the range
plain_range : (n : ℕ) (z : ℤ) → within false n ≡ Some z → (n ≤ 2147483647) × (pos n ≡ z)
plain_range n z e = tested (leb n 2147483647) (λ t. (leb-true n 2147483647 t, same_Some _ _ (rw t at e))) (λ t. none_not (rw t at e))

minus_range : (n : ℕ) (z : ℤ) → within true n ≡ Some z → (n ≤ 2147483648) × (neg_ℤ (pos n) ≡ z)
minus_range n z e = tested (leb n 2147483648) (λ t. (leb-true n 2147483648 t, same_Some _ _ (rw t at e))) (λ t. none_not (rw t at e))

-- a field is read as a number exactly if it is that number's text
pub numeral_read : {f : List ℕ} {z : ℤ} → Numeral f z → number_of f ≡ Some z
unfolding number_of
numeral_read (plain {ds = []} g small) = absurd (omega (arith, g.some))
numeral_read (plain {ds = d ∷ ds} g small) =
    rw (ne_eqb d 45 (λ e. omega (arith, g.all.0, e))) (signed_read false (d ∷ ds) g ∙ rw (le-leb (value_of (d ∷ ds)) 2147483647 small))
numeral_read (minus {ds = ds} g small) = signed_read true ds g ∙ rw (le-leb (value_of ds) 2147483648 small)

numeral_of : (f : List ℕ) (z : ℤ) → number_of f ≡ Some z → Numeral f z
unfolding number_of
numeral_of [] z e = none_not e
numeral_of (b ∷ bs) z e =
    tested (eqb b 45)
    (λ t.
    let signed = rw t at e in
    let g = signed_digits true bs z signed in
    let r = minus_range (value_of bs) z (sym (signed_read true bs g) ∙ signed) in
    rw (eqb-true b 45 t, ← r.1) (minus g r.0))
    (λ t.
    let signed = rw t at e in
    let g = signed_digits false (b ∷ bs) z signed in
    let r = plain_range (value_of (b ∷ bs)) z (sym (signed_read false (b ∷ bs) g) ∙ signed) in
    rw (← r.1) (plain g r.0))

-- so are all fields
values_read : {fs : List (List ℕ)} {zs : List ℤ} → Numerals fs zs → values_of fs ≡ Some zs
unfolding values_of
values_read no-numerals = refl
values_read (numeral-then n ns) = rw (numeral_read n, values_read ns)

values_of_lem : (fs : List (List ℕ)) (zs : List ℤ) → values_of fs ≡ Some zs → Numerals fs zs
unfolding values_of
values_of_lem [] zs e = rw (← (same_Some _ _ e)) no-numerals
values_of_lem (f ∷ fs) zs e = go (number_of f) (values_of fs) refl refl (λ ms q. values_of_lem fs ms q)
  where
    go : (n : Option ℤ) (v : Option (List ℤ)) → number_of f ≡ n → values_of fs ≡ v → ((ms : List ℤ) → values_of fs ≡ Some ms → Numerals fs ms) → Numerals (f ∷ fs) zs
    go None v p q rest = none_not (rw p at e)
    go (Some z) None p q rest = none_not (rw (p, q) at e)
    go (Some z) (Some ms) p q rest = rw (← (same_Some _ _ (rw (p, q) at e))) (numeral-then (numeral_of f z p) (rest ms q))

-- a number's text has neither a space nor more than 11 bytes
digits_above : (ds : List ℕ) → AllDigits ds → Above 32 ds
digits_above [] p = tt
digits_above (d ∷ ds) p = (omega (arith, p.0), digits_above ds p.2)

numeral_above : {f : List ℕ} {z : ℤ} → Numeral f z → Above 32 f
numeral_above (plain {ds = ds} g small) = digits_above ds g.all
numeral_above (minus {ds = ds} g small) = (omega arith, digits_above ds g.all)

numerals_above : {fs : List (List ℕ)} {zs : List ℤ} → Numerals fs zs → AllAbove 32 fs
numerals_above no-numerals = tt
numerals_above (numeral-then n ns) = (numeral_above n, numerals_above ns)

numeral_short : {f : List ℕ} {z : ℤ} → Numeral f z → length f ≤ 11
numeral_short (plain g small) = omega (arith, g.few)
numeral_short (minus g small) = omega (arith, g.few)

abbrev after_space : List ℕ → List ℕ
after_space f = 32 ∷ f

numerals_short : {fs : List (List ℕ)} {zs : List ℤ} → Numerals fs zs → length (flat_map after_space fs) ≤ 12 * length zs
unfolding flat_map
numerals_short no-numerals = omega arith
numerals_short (numeral-then {f = f} {fs = fs} n ns) = omega (arith, numeral_short n, numerals_short ns, length-append f (flat_map after_space fs))

-- what is said is read
line_said : (letter : ℕ) {fs : List (List ℕ)} {zs : List ℤ} → 32 < letter → length zs ≤ 4 → Numerals fs zs → command_of (line_with letter fs) ≡ by_letter letter zs
unfolding command_of
line_said letter {fs} {zs} dark few ns =
    rw (
      le-leb (length (line_with letter fs)) line_limit (omega (arith, numerals_short ns)),
      fields_joined (letter ∷ []) fs (dark, tt) (numerals_above ns),
      values_read ns,
    )

pub said_read : {line : List ℕ} {c : Command} → Says line c → command_of line ≡ c
unfolding by_letter command_with numbers_taken
said_read (keep ns) = line_said 74 (omega arith) (omega arith) ns
said_read (load ns) = line_said 76 (omega arith) (omega arith) ns
said_read (update ns) = line_said 85 (omega arith) (omega arith) ns
said_read (fit ns) = line_said 80 (omega arith) (omega arith) ns
said_read (rows ns) = line_said 84 (omega arith) (omega arith) ns

-- a line is its fields, one behind the other with a space between
abbrev whole : List (List ℕ) → List ℕ
whole [] = []
whole (f ∷ fs) = f ++ flat_map after_space fs

first_whole : (b : ℕ) (fs : List (List ℕ)) → whole (in_first b fs) ≡ b ∷ whole fs
unfolding flat_map
first_whole b [] = refl
first_whole b (f ∷ fs) = refl

space_whole : (l : List ℕ) → flat_map after_space (fields_of l) ≡ 32 ∷ whole (fields_of l)
unfolding flat_map fields_of
space_whole [] = refl
space_whole (b ∷ bs) = go (eqb b 32) (fields_of bs)
  where
    go : (t : Bool) (fs : List (List ℕ)) → flat_map after_space (cond t ([] ∷ fs) (in_first b fs)) ≡ 32 ∷ whole (cond t ([] ∷ fs) (in_first b fs))
    go true fs = refl
    go false [] = refl
    go false (f ∷ fs) = refl

whole_line : (l : List ℕ) → whole (fields_of l) ≡ l
unfolding flat_map fields_of
whole_line [] = refl
whole_line (b ∷ bs) = go (eqb b 32) refl (whole_line bs)
  where
    go : (t : Bool) → eqb b 32 ≡ t → whole (fields_of bs) ≡ bs → whole (cond t ([] ∷ fields_of bs) (in_first b (fields_of bs))) ≡ b ∷ bs
    go true space h = space_whole bs ∙ ap (λ (l : List ℕ). 32 ∷ l) h ∙ ap (λ (n : ℕ). n ∷ bs) (sym (eqb-true b 32 space))
    go false other h = first_whole b (fields_of bs) ∙ ap (λ (l : List ℕ). b ∷ l) h

-- what is read is said: a letter with as many numbers as it takes
module _ (fs : List (List ℕ)) where
  keep_said : (zs : List ℤ) → length zs ≡ 4 → Numerals fs zs → Says (line_with 74 fs) (by_letter 74 zs)
  unfolding by_letter command_with numbers_taken
  keep_said [] e ns = absurd (omega arith)
  keep_said (a ∷ []) e ns = absurd (omega arith)
  keep_said (a ∷ b ∷ []) e ns = absurd (omega arith)
  keep_said (a ∷ b ∷ c ∷ []) e ns = absurd (omega arith)
  keep_said (a ∷ b ∷ c ∷ d ∷ []) e ns = keep ns
  keep_said (a ∷ b ∷ c ∷ d ∷ x ∷ zs) e ns = absurd (omega arith)

  update_said : (zs : List ℤ) → length zs ≡ 3 → Numerals fs zs → Says (line_with 85 fs) (by_letter 85 zs)
  unfolding by_letter command_with numbers_taken
  update_said [] e ns = absurd (omega arith)
  update_said (a ∷ []) e ns = absurd (omega arith)
  update_said (a ∷ b ∷ []) e ns = absurd (omega arith)
  update_said (a ∷ b ∷ c ∷ []) e ns = update ns
  update_said (a ∷ b ∷ c ∷ d ∷ zs) e ns = absurd (omega arith)

  load_said : (zs : List ℤ) → length zs ≡ 1 → Numerals fs zs → Says (line_with 76 fs) (by_letter 76 zs)
  unfolding by_letter command_with numbers_taken
  load_said [] e ns = absurd (omega arith)
  load_said (a ∷ []) e ns = load ns
  load_said (a ∷ b ∷ zs) e ns = absurd (omega arith)

  fit_said : (zs : List ℤ) → length zs ≡ 1 → Numerals fs zs → Says (line_with 80 fs) (by_letter 80 zs)
  unfolding by_letter command_with numbers_taken
  fit_said [] e ns = absurd (omega arith)
  fit_said (a ∷ []) e ns = fit ns
  fit_said (a ∷ b ∷ zs) e ns = absurd (omega arith)

  rows_said : (zs : List ℤ) → length zs ≡ 0 → Numerals fs zs → Says (line_with 84 fs) (by_letter 84 zs)
  unfolding by_letter command_with numbers_taken
  rows_said [] e ns = rows ns
  rows_said (a ∷ zs) e ns = absurd (omega arith)

  -- whatever the letter
  module _ (zs : List ℤ) (ns : Numerals fs zs) where
    abbrev Read : ℕ → Type 0
    Read letter = (by_letter letter zs ≡ Unreadable) ⊎ Says (line_with letter fs) (by_letter letter zs)

    at_letter : (letter k : ℕ) → eqb letter k ≡ true → Read k → Read letter
    at_letter letter k t r = subst Read (sym (eqb-true letter k t)) r

    counted : (k : ℕ) → (length zs ≡ numbers_taken k → Says (line_with k fs) (by_letter k zs)) → Read k
    unfolding by_letter
    counted k said = tested (eqb (length zs) (numbers_taken k)) (λ t. inr (said (eqb-true (length zs) (numbers_taken k) t))) (λ t. inl (rw t))

    other_letter : (letter : ℕ) → eqb letter 74 ≡ false → eqb letter 76 ≡ false → eqb letter 85 ≡ false → eqb letter 80 ≡ false → eqb letter 84 ≡ false
        → by_letter letter zs ≡ Unreadable
    unfolding by_letter command_with
    other_letter letter j l u p t = tested (eqb (length zs) (numbers_taken letter)) (λ n. rw (n, j, l, u, p, t)) (λ n. rw n)

    by_letter_lem : (letter : ℕ) → Read letter
    unfolding numbers_taken
    by_letter_lem letter =
        tested (eqb letter 74) (λ e. at_letter letter 74 e (counted 74 (λ n. keep_said zs n ns)))
        (λ j. tested (eqb letter 76) (λ e. at_letter letter 76 e (counted 76 (λ n. load_said zs n ns)))
        (λ l. tested (eqb letter 85) (λ e. at_letter letter 85 e (counted 85 (λ n. update_said zs n ns)))
        (λ u. tested (eqb letter 80) (λ e. at_letter letter 80 e (counted 80 (λ n. fit_said zs n ns)))
        (λ p. tested (eqb letter 84) (λ e. at_letter letter 84 e (counted 84 (λ n. rows_said zs n ns)))
        (λ t. inl (other_letter letter j l u p t))))))

-- whatever the fields
abbrev ReadAs : List ℕ → Command → Type 0
ReadAs line c = (c ≡ Unreadable) ⊎ Says line c

by_values : (letter : ℕ) (fs : List (List ℕ)) (v : Option (List ℤ)) → values_of fs ≡ v → ReadAs (line_with letter fs) (asked letter v)
by_values letter fs (Some zs) e = by_letter_lem fs zs (values_of_lem fs zs e) letter
by_values letter fs None e = inl refl

by_fields : (fs : List (List ℕ)) → ReadAs (whole fs) (asked_by fs)
by_fields [] = inl refl
by_fields ([] ∷ fs) = inl refl
by_fields ((letter ∷ []) ∷ fs) = by_values letter fs (values_of fs) refl
by_fields ((letter ∷ b ∷ bs) ∷ fs) = inl refl

read_said : (line : List ℕ) → ReadAs line (command_of line)
unfolding command_of
read_said line =
    tested (leb (length line) line_limit)
    (λ t. rw t (subst (λ (l : List ℕ). ReadAs l (asked_by (fields_of line))) (whole_line line) (by_fields (fields_of line))))
    (λ t. inl (rw t))

says_readable : {line : List ℕ} {c : Command} → Says line c → ¬ (c ≡ Unreadable)
says_readable (keep ns) e = let clash : ◌≡◌ {A = ℕ} 0 1 = cc in omega arith
says_readable (load ns) e = let clash : ◌≡◌ {A = ℕ} 0 1 = cc in omega arith
says_readable (update ns) e = let clash : ◌≡◌ {A = ℕ} 0 1 = cc in omega arith
says_readable (fit ns) e = let clash : ◌≡◌ {A = ℕ} 0 1 = cc in omega arith
says_readable (rows ns) e = let clash : ◌≡◌ {A = ℕ} 0 1 = cc in omega arith

module _ (line : List ℕ) where
  pub says_exactly : (c : Command) → ¬ (c ≡ Unreadable) → (command_of line ≡ c) ↔ Says line c
  says_exactly c readable = (λ e. either (read_said line) (λ u. absurd (readable (sym e ∙ u))) (λ s. rw e at s), said_read)

  pub unreadable_exactly : (command_of line ≡ Unreadable) ↔ ((c : Command) → ¬ Says line c)
  unreadable_exactly = (λ u c s. says_readable s (sym (said_read s) ∙ u), λ unsaid. either (read_said line) (λ u. u) (λ s. absurd (unsaid _ s)))
