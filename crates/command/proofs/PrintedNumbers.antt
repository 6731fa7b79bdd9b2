-- A number is printed by its digits: the text of n / 10 and then the digit n % 10, so its value is ten times the one and the other; a number that is
-- not 0 starts with another digit. A line of a letter and numbers, split at its spaces, gives them back.
-- Assumes nothing.
use mathlib.Core.Path.{◌≡◌, refl, sym, ap, ◌∙◌, subst}
use mathlib.Core.Bool.{Bool, true, false, cond}
use mathlib.Core.List.{List, [], ◌∷◌, ◌++◌, map, flat_map, append-nil, append_assoc}
use Prim.Native.Nat.{ℕ, zero, suc, ◌+◌, ◌-◌, ◌*◌, ◌/◌, ◌%◌, ◌^◌, ◌≤◌, ◌<◌}
use native.Mathlib.Nat.{add_assoc, add-mul, mul_assoc, pow-suc}
use native.Mathlib.Numerals.{add-one}
use native.Mathlib.Omega.{arith}
use borrow.Author.Tests.{ltb-true, ltb-false}
use lib.Dec.{ltb}
use lib.IntN.{ℤ, pos, negsuc, neg_ℤ}
use lib.ListN.{length, get_or, length-append, get_or-append}
use lib.Seq.{get_or_at}
use Rattle.planner.specs.declared.RowRecord.{RowRecord}
use Rattle.planner.specs.declared.Refusal.{Refusal}
use Rattle.planner.specs.Refusals.{number_of}
use Rattle.command.specs.Decimal.{digits_in, decimal, signed_text}
use Rattle.command.specs.Text.{spaced, letter_text, count_text, refusal_text, overload_text, start_text}
use Rattle.command.specs.Lines.{lines_after, lines_of}
use Rattle.command.specs.ReadableLines.{AllDigits, value_of, line_with}
use Rattle.command.specs.PrintedNumbers.{Shortest, Spells, plain, minus, SpellsAll, none, more, LetterLine, Ended, OneLine}
use Rattle.command.proofs.SpacesAndFeeds.{Above, above_append, above_less, AllAbove, fields_joined, line_first}

-- one digit more
value_behind : (ds : List ℕ) (b : ℕ) → value_of (ds ++ b ∷ []) ≡ value_of ds * 10 + (b - 48)
unfolding value_of
value_behind [] b = omega arith
value_behind (d ∷ ds) b =
    let n = 10 ^ length ds in
    rw (length-append ds (b ∷ []), add-one (length ds), pow-suc 10 (length ds), value_behind ds b)
    (sym (rw (add-mul ((d - 48) * n) (value_of ds) 10, mul_assoc (d - 48) n 10) (add_assoc ((d - 48) * (n * 10)) (value_of ds * 10) (b - 48))))

all_append : (ds es : List ℕ) → AllDigits ds → AllDigits es → AllDigits (ds ++ es)
all_append [] es p q = q
all_append (d ∷ ds) es p q = (p.0, p.1, all_append ds es p.2 q)

-- the digits in some room, where it is enough
record Spelled (n : ℕ) (ds : List ℕ) : Type 0 where
  all : AllDigits ds
  value : value_of ds ≡ n
  some : 1 ≤ length ds
  first : 0 < n → 48 < get_or ds 0 0
  nothing : n ≡ 0 → length ds ≡ 1

one_digit : (n : ℕ) → n < 10 → Spelled n ((48 + n) ∷ [])
unfolding value_of
one_digit n small = record { all = (omega arith, omega arith, tt); value = omega arith; some = omega arith; first = λ h. omega arith; nothing = λ h. omega arith }

digit_behind : (n : ℕ) (ds : List ℕ) → 10 ≤ n → Spelled (n / 10) ds → Spelled n (ds ++ (48 + n % 10) ∷ [])
digit_behind n ds great s =
    record {
      all = all_append ds _ s.all (omega arith, omega arith, tt);
      value = value_behind ds (48 + n % 10) ∙ omega (arith, s.value);
      some = rw length-append (omega arith);
      first = λ h. rw (get_or-append ds ((48 + n % 10) ∷ []) 0 0 (omega (arith, s.some))) (s.first (omega arith));
      nothing = λ h. absurd (omega arith);
    }

digits_spelled : (room n : ℕ) → n < room → Spelled n (digits_in room n)
unfolding digits_in
digits_spelled zero n h = absurd (omega arith)
digits_spelled (suc room) n h = go (ltb n 10) refl (λ g. digits_spelled room (n / 10) (omega (arith, g)))
  where
    go : (small : Bool) → ltb n 10 ≡ small → (10 ≤ n → Spelled (n / 10) (digits_in room (n / 10)))
        → Spelled n (cond small ((48 + n) ∷ []) (digits_in room (n / 10) ++ (48 + n % 10) ∷ []))
    go true t rest = one_digit n (ltb-true n 10 t)
    go false t rest = let great = ltb-false n 10 t in digit_behind n (digits_in room (n / 10)) great (rest great)

decimal_spelled : (n : ℕ) → Spelled n (decimal n)
unfolding decimal
decimal_spelled n = digits_spelled (suc n) n (omega arith)

pub shortest : (n : ℕ) → Shortest (decimal n)
shortest zero = let s = decimal_spelled 0 in record { all = s.all; some = s.some; alone = λ e. s.nothing refl }
shortest (suc n) = let s = decimal_spelled (suc n) in record { all = s.all; some = s.some; alone = λ e. absurd (omega (arith, s.first (omega arith), e)) }

pub decimal_value : (n : ℕ) → value_of (decimal n) ≡ n
decimal_value n = (decimal_spelled n).value

pub decimal_spells : (n : ℕ) → Spells (decimal n) (pos n)
decimal_spells n = subst (λ (m : ℕ). Spells (decimal n) (pos m)) (decimal_value n) (plain (shortest n))

pub signed_spells : (z : ℤ) → Spells (signed_text z) z
unfolding signed_text
signed_spells (pos n) = decimal_spells n
signed_spells (negsuc n) =
    let v = decimal_value (suc n) in
    subst (λ (m : ℕ). Spells (45 ∷ decimal (suc n)) (neg_ℤ (pos m))) v (minus (shortest (suc n)) (omega (arith, v)))

pub ids_spell : (ids : List ℕ) → SpellsAll (map decimal ids) (map pos ids)
ids_spell [] = none
ids_spell (i ∷ ids) = more (decimal_spells i) (ids_spell ids)

-- a printed number has neither a space nor a line feed
digits_above : (ds : List ℕ) → AllDigits ds → Above 32 ds
digits_above [] p = tt
digits_above (d ∷ ds) p = (omega (arith, p.0), digits_above ds p.2)

pub spells_above : {f : List ℕ} {z : ℤ} → Spells f z → Above 32 f
spells_above (plain {ds = ds} s) = digits_above ds s.all
spells_above (minus {ds = ds} s h) = (omega arith, digits_above ds s.all)

pub all_above : {fs : List (List ℕ)} {zs : List ℤ} → SpellsAll fs zs → AllAbove 32 fs
all_above none = tt
all_above (more s ss) = (spells_above s, all_above ss)

abbrev pub after_space : List ℕ → List ℕ
after_space f = 32 ∷ f

pub spaces_above : (fs : List (List ℕ)) → AllAbove 32 fs → Above 10 (flat_map after_space fs)
unfolding flat_map
spaces_above [] p = tt
spaces_above (f ∷ fs) p = above_append 10 (32 ∷ f) (flat_map after_space fs) (omega arith, above_less f p.0) (spaces_above fs p.1)

pub last_byte : (l : List ℕ) → Ended (l ++ 10 ∷ [])
last_byte l = get_or_at l 10 [] 0 (length (l ++ 10 ∷ []) - 1) (rw length-append (omega arith))

-- a letter and numbers
pub letter_line : (letter : ℕ) {fs : List (List ℕ)} {zs : List ℤ} → 32 < letter → SpellsAll fs zs → LetterLine letter zs (line_with letter fs)
letter_line letter {fs} dark ss = record { fields = fs; split = fields_joined (letter ∷ []) fs (dark, tt) (all_above ss); spelled = ss }

one_line : (letter : ℕ) {fs : List (List ℕ)} {zs : List ℤ} (text : List ℕ) → 32 < letter → SpellsAll fs zs → text ≡ line_with letter fs ++ 10 ∷ [] → OneLine letter zs text
unfolding lines_after
one_line letter {fs} text dark ss e =
    let line = line_with letter fs in
    let above : Above 10 line = (omega (arith, dark), spaces_above fs (all_above ss)) in
    record {
      line = line;
      alone = ap lines_of (e ∙ sym (append-nil (line ++ 10 ∷ []))) ∙ line_first line [] above;
      says = letter_line letter dark ss;
      ended = subst Ended (sym e) (last_byte line);
    }

-- `F` and `N`, `R` with its number, `O` with start, end and height, `S` with the start
pub letter_printed : (letter : ℕ) → 32 < letter → OneLine letter [] (letter_text letter)
unfolding flat_map
letter_printed letter dark = one_line letter (letter_text letter) dark none refl

one_field : (letter : ℕ) (a : List ℕ) → (letter ∷ []) ++ spaced a ++ 10 ∷ [] ≡ line_with letter (a ∷ []) ++ 10 ∷ []
unfolding flat_map
one_field letter a = ap (λ (l : List ℕ). letter ∷ 32 ∷ (l ++ 10 ∷ [])) (sym (append-nil a))

pub count_printed : (letter n : ℕ) → 32 < letter → OneLine letter (pos n ∷ []) (count_text letter n)
unfolding count_text
count_printed letter n dark = one_line letter (count_text letter n) dark (more (decimal_spells n) none) (one_field letter (decimal n))

pub refusal_printed : (why : Refusal) → OneLine 82 (pos (number_of why) ∷ []) (refusal_text why)
unfolding refusal_text
refusal_printed why = count_printed 82 (number_of why) (omega arith)

three_fields : (letter : ℕ) (a b c : List ℕ) → (letter ∷ []) ++ spaced a ++ spaced b ++ spaced c ≡ line_with letter (a ∷ b ∷ c ∷ [])
unfolding flat_map
three_fields letter a b c = rw (append-nil c) (ap (λ (l : List ℕ). letter ∷ 32 ∷ l) (append_assoc a (32 ∷ b) (32 ∷ c)))

pub overload_printed : (r : RowRecord) → OneLine 79 (r.start ∷ r.end ∷ pos r.height ∷ []) (overload_text r)
unfolding overload_text
overload_printed r =
    one_line 79 (overload_text r) (omega arith) (more (signed_spells r.start) (more (signed_spells r.end) (more (decimal_spells r.height) none)))
    (ap (λ (l : List ℕ). l ++ 10 ∷ []) (three_fields 79 (signed_text r.start) (signed_text r.end) (decimal r.height)))

pub start_printed : (z : ℤ) → OneLine 83 (z ∷ []) (start_text z)
unfolding start_text
start_printed z = one_line 83 (start_text z) (omega arith) (more (signed_spells z) none) (one_field 83 (signed_text z))
