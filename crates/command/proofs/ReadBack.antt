-- What is printed reads back as what was answered: a number is digits and at most a minus, so a reader that splits at line feeds and spaces finds each letter
-- and each number again; and each text ends with a line feed, so texts one behind the other are read one behind the other.
-- Assumes nothing.
use mathlib.Core.Path.{◌≡◌, refl, sym, ap, ◌∙◌, subst}
use mathlib.Core.Bool.{Bool, true, false, cond}
use mathlib.Core.List.{List, [], ◌∷◌, ◌++◌, map, flat_map, append-nil, append_assoc}
use mathlib.Core.Option
use mathlib.Core.Option.{some}
use Prim.Native.Nat.{ℕ, zero, suc, ◌+◌, ◌-◌, ◌*◌, ◌^◌, ◌≤◌, ◌<◌}
use native.Mathlib.Omega.{arith}
use borrow.Author.Tests.{ne_eqb, le-leb, lt-leb}
use lib.Dec.{eqb, ltb}
use lib.IntN.{ℤ, pos, negsuc, neg_ℤ}
use lib.ListN.{length, get_or}
use lib.Seq.{append_snoc}
use lib.Signed.{mag}
use Rattle.planner.specs.declared.Plan.{Plan}
use Rattle.planner.specs.declared.RowRecord.{RowRecord}
use Rattle.planner.specs.declared.Answer.{Answer}
use Rattle.planner.specs.declared.Refusal.{Refusal}
use Rattle.planner.specs.declared.Rows.{Rows}
use Rattle.planner.specs.Loads.{loaded}
use Rattle.planner.specs.Updates.{updated}
use Rattle.planner.specs.Questions.{fit_of, rows_shown, records_of}
use Rattle.std.specs.Prelude.{Option, Some, None, Result, Ok, Err}
use Rattle.command.specs.declared.Session.{Session}
use Rattle.command.specs.declared.Command.{Command}
use Rattle.command.specs.Decimal.{decimal, signed_text}
use Rattle.command.specs.Numbers.{number_of}
use Rattle.command.specs.Grammar.{in_first, fields_of, command_of}
use Rattle.command.specs.Text.{count_text, answer_text, fit_text, row_text, rows_text, table_text, refusal_text}
use Rattle.command.specs.Sessions.{Outcome, fresh_session, outcome, answered}
use Rattle.command.specs.Lines.{lines_of, NoFeed, LinesAre, rest, ends, over, printed, transcript}
use Rattle.command.specs.ReadableLines.{AllDigits, value_of, Digits, Numeral}
use Rattle.command.specs.ReadableLines.{plain as plain-numeral, minus as minus-numeral}
use Rattle.command.specs.PrintedNumbers.{Spells, plain, minus, SpellsAll, none, more, LetterLine, Ended, OneLine}
use Rattle.command.specs.ReadAnswers.{Reply, with_first, split_at, read_digits, negative, read_number, read_numbers, read_letter, read_row, read_fields, read_line, read_pieces, read_answers}
use Rattle.command.specs.Replies.{refusal_reply, answer_reply, fit_reply, row_reply, row_replies, replies_to, replies_to_lines}
use Rattle.command.proofs.DecimalDigits.{decimal_short}
use Rattle.command.proofs.LinesOf.{lines_are}
use Rattle.command.proofs.SpacesAndFeeds.{above_feedless}
use Rattle.command.proofs.ReadableLines.{value_more, numeral_read}
use Rattle.command.proofs.PrintedNumbers.{shortest, decimal_value, signed_spells, letter_printed, count_printed, refusal_printed, overload_printed, start_printed}
use Rattle.command.proofs.RowLines.{row_line, row_spelled, row_fields, row_above, shown_counts}

-- digits say the sum of their powers of ten
digits_from : (ds : List ℕ) (v : ℕ) → AllDigits ds → read_digits v ds ≡ some (v * 10 ^ length ds + value_of ds)
unfolding read_digits value_of
digits_from [] v p = ap some (omega arith)
digits_from (d ∷ ds) v p =
    rw (le-leb 48 d p.0, le-leb d 57 p.1) (digits_from ds (v * 10 + (d - 48)) p.2 ∙ ap some (value_more v (d - 48) (length ds) (value_of ds)))

digits_say : (ds : List ℕ) → AllDigits ds → read_digits 0 ds ≡ some (value_of ds)
digits_say ds p = digits_from ds 0 p ∙ ap some (omega arith)

-- a number's text reads as the number
spelled_read : {f : List ℕ} {z : ℤ} → Spells f z → read_number f ≡ some z
unfolding read_number
spelled_read (plain {ds = []} s) = absurd (omega (arith, s.some))
spelled_read (plain {ds = d ∷ ds} s) = rw (ne_eqb d 45 (λ e. omega (arith, s.all.0, e))) (ap (Option.map pos) (digits_say (d ∷ ds) s.all))
spelled_read (minus {ds = []} s h) = absurd (omega (arith, s.some))
spelled_read (minus {ds = d ∷ ds} s h) = ap (Option.map negative) (digits_say (d ∷ ds) s.all)

numbers_read : {fs : List (List ℕ)} {zs : List ℤ} → SpellsAll fs zs → read_numbers fs ≡ some zs
unfolding read_numbers
numbers_read none = refl
numbers_read (more s ss) = rw (spelled_read s, numbers_read ss)

pub number_reads : (z : ℤ) → read_number (signed_text z) ≡ some z
number_reads z = spelled_read (signed_spells z)

-- and can be typed, where it is in 32-bit signed range: `mag` is n both for n and for -(n + 1)
decimal_digits : (n : ℕ) → n < 2 ^ 32 → Digits (decimal n)
decimal_digits n h = let s = shortest n in record { all = s.all; some = s.some; few = decimal_short n h }

pub number_typed : (z : ℤ) → mag z < 2 ^ 31 → number_of (signed_text z) ≡ Some z
unfolding signed_text
number_typed (pos n) h =
    let v = decimal_value n in
    numeral_read (subst (λ (m : ℕ). Numeral (decimal n) (pos m)) v (plain-numeral (decimal_digits n (omega arith)) (omega (arith, v))))
number_typed (negsuc n) h =
    let v = decimal_value (suc n) in
    numeral_read (subst (λ (m : ℕ). Numeral (45 ∷ decimal (suc n)) (neg_ℤ (pos m))) v (minus-numeral (decimal_digits (suc n) (omega arith)) (omega (arith, v))))

-- a line is split at its spaces as a line of the input is
first_same : (b : ℕ) (fs : List (List ℕ)) → with_first b fs ≡ in_first b fs
first_same b [] = refl
first_same b (f ∷ fs) = refl

split_fields : (line : List ℕ) → split_at 32 line ≡ fields_of line
unfolding split_at fields_of
split_fields [] = refl
split_fields (b ∷ bs) = rw (split_fields bs, first_same b (fields_of bs))

letter_read : {letter : ℕ} {zs : List ℤ} {line : List ℕ} → 65 ≤ letter → letter ≤ 90 → LetterLine letter zs line → read_line line ≡ read_letter letter (some zs)
unfolding read_line
letter_read {letter} {line = line} low high l =
    rw (split_fields line, l.split, le-leb 65 letter low, le-leb letter 90 high) (ap (read_letter letter) (numbers_read l.spelled))

-- a text reads as some replies, whatever text stands behind it
record ReadsAs (text : List ℕ) (replies : List Reply) : Type 0 where
  before : (behind : List ℕ) → read_answers (text ++ behind) ≡ replies ++ read_answers behind

nothing_read : ReadsAs [] []
nothing_read = record { before = λ behind. refl }

then_read : {text more : List ℕ} {replies others : List Reply} → ReadsAs text replies → ReadsAs more others → ReadsAs (text ++ more) (replies ++ others)
then_read {text} {more} {replies} {others} first second =
    record {
      before = λ behind.
          ap read_answers (append_assoc text more behind) ∙ first.before (more ++ behind)
          ∙ ap (λ (l : List Reply). replies ++ l) (second.before behind) ∙ sym (append_assoc replies others (read_answers behind));
    }

all_read : {text : List ℕ} {replies : List Reply} → ReadsAs text replies → read_answers text ≡ replies
unfolding read_answers split_at read_pieces
all_read {text} {replies} r = ap read_answers (sym (append-nil text)) ∙ r.before [] ∙ append-nil replies

-- a line ends at its line feed
split_line : (line behind : List ℕ) → NoFeed line → split_at 10 (line ++ 10 ∷ behind) ≡ line ∷ split_at 10 behind
unfolding split_at
split_line [] behind p = refl
split_line (b ∷ line) behind p = rw (ne_eqb b 10 p.0, split_line line behind p.1)

pieces_read : (line behind : List ℕ) → read_pieces (line ∷ split_at 10 behind) ≡ read_line line ∷ read_pieces (split_at 10 behind)
unfolding split_at read_pieces
pieces_read line [] = refl
pieces_read line (b ∷ bs) = go (eqb b 10) (split_at 10 bs)
  where
    go : (feed : Bool) (ps : List (List ℕ)) → (let q = cond feed ([] ∷ ps) (with_first b ps) in read_pieces (line ∷ q) ≡ read_line line ∷ read_pieces q)
    go true ps = refl
    go false [] = refl
    go false (p ∷ ps) = refl

line_read : (line : List ℕ) → NoFeed line → ReadsAs (line ++ 10 ∷ []) (read_line line ∷ [])
unfolding read_answers
line_read line p = record { before = λ behind. ap read_answers (append_snoc line 10 behind) ∙ ap read_pieces (split_line line behind p) ∙ pieces_read line behind }

-- a text of one line, its last byte a line feed, is that line and the line feed
feedless_at : (l : List ℕ) (k : ℕ) → NoFeed l → ¬ (get_or l k 0 ≡ 10)
feedless_at [] k p e = omega arith
feedless_at (b ∷ l) zero p e = p.0 e
feedless_at (b ∷ l) (suc k) p e = feedless_at l k p.1 e

ended_line : {text line : List ℕ} → LinesAre text (line ∷ []) → Ended text → (text ≡ line ++ 10 ∷ []) × NoFeed line
ended_line (rest {b} {bs} p) e = absurd (feedless_at (b ∷ bs) (length (b ∷ bs) - 1) p e)
ended_line (ends p over) e = (refl, p)

one_line_read : {letter : ℕ} {zs : List ℤ} {text : List ℕ} → 65 ≤ letter → letter ≤ 90 → OneLine letter zs text → ReadsAs text (read_letter letter (some zs) ∷ [])
one_line_read {letter} {zs} {text} low high o =
    let l = ended_line (subst (LinesAre text) o.alone (lines_are text)) o.ended in
    rw (l.0, ← (letter_read low high o.says)) (line_read o.line l.1)

-- the answers of one line
refusal_read : (why : Refusal) → ReadsAs (refusal_text why) (refusal_reply why ∷ [])
refusal_read why = one_line_read (omega arith) (omega arith) (refusal_printed why)

answer_read_lem : (a : Result Answer Refusal) (r : RowRecord) → ReadsAs (answer_text a r) (answer_reply a r ∷ [])
unfolding answer_text
answer_read_lem (Ok Answer.Fits) r = one_line_read (omega arith) (omega arith) (letter_printed 70 (omega arith))
answer_read_lem (Ok Answer.Overloaded) r = one_line_read (omega arith) (omega arith) (overload_printed r)
answer_read_lem (Err why) r = refusal_read why

fit_read : (found : Result (Option ℤ) Refusal) → ReadsAs (fit_text found) (fit_reply found ∷ [])
unfolding fit_text
fit_read (Ok (Some z)) = one_line_read (omega arith) (omega arith) (start_printed z)
fit_read (Ok None) = one_line_read (omega arith) (omega arith) (letter_printed 78 (omega arith))
fit_read (Err why) = refusal_read why

-- a row's line starts with a number
row_first : {f : List ℕ} {z : ℤ} (fs : List (List ℕ)) → Spells f z → read_fields (f ∷ fs) ≡ read_row (read_numbers (f ∷ fs))
row_first fs (plain {ds = []} s) = absurd (omega (arith, s.some))
row_first fs (plain {ds = d ∷ []} s) = rw (lt-leb 65 d (omega (arith, s.all.1)))
row_first fs (plain {ds = d ∷ e ∷ ds} s) = refl
row_first fs (minus {ds = []} s h) = absurd (omega (arith, s.some))
row_first fs (minus {ds = d ∷ ds} s h) = refl

spelled_row : {fs : List (List ℕ)} {z : ℤ} {zs : List ℤ} → SpellsAll fs (z ∷ zs) → read_fields fs ≡ read_row (some (z ∷ zs))
spelled_row (more {fs = fs} s ss) = row_first fs s ∙ ap read_row (numbers_read (more s ss))

row_read : (r : RowRecord) → ReadsAs (row_text r) (row_reply r ∷ [])
unfolding row_text read_line
row_read r =
    let e : read_line (row_line r) ≡ row_reply r = rw (split_fields (row_line r), row_fields r) (spelled_row (row_spelled r)) in
    subst (λ (reply : Reply). ReadsAs (row_text r) (reply ∷ [])) e (line_read (row_line r) (above_feedless (row_line r) (row_above r)))

rows_read : (rows : List RowRecord) → ReadsAs (rows_text rows) (map row_reply rows)
unfolding flat_map
rows_read [] = nothing_read
rows_read (r ∷ rows) = then_read (row_read r) (rows_read rows)

-- the rows and their count
count_read : (n k : ℕ) → n ≡ k → ReadsAs (count_text 69 n) (Reply.count (pos k) ∷ [])
count_read n k e = rw (← e) (one_line_read (omega arith) (omega arith) (count_printed 69 n (omega arith)))

shown_read : (shown : Result Rows Refusal) → ((rows : Rows) → shown ≡ Ok rows → rows.count ≡ length (records_of rows)) → ReadsAs (table_text shown) (row_replies shown)
unfolding table_text
shown_read (Ok rows) counts = then_read (rows_read (records_of rows)) (count_read _ _ (omega (arith, counts rows refl)))
shown_read (Err why) counts = refusal_read why

table_read : (plan : Plan) → ReadsAs (table_text (rows_shown plan)) (row_replies (rows_shown plan))
table_read plan = shown_read (rows_shown plan) (shown_counts plan)

-- what a command prints
either_read : (b : Bool) (o p : Outcome) {replies others : List Reply} → ReadsAs o.text replies → ReadsAs p.text others → ReadsAs (cond b o p).text (cond b replies others)
either_read true o p first second = first
either_read false o p first second = second

command_read : (s : Session) (c : Command) → ReadsAs (outcome s c).text (replies_to s c)
unfolding outcome replies_to
command_read s (Command.Keep job) = either_read (ltb s.jobs.count 32) _ _ nothing_read (refusal_read Refusal.TooManyJobs)
command_read s (Command.Load capacity) = let l = loaded s.plan s.jobs capacity in answer_read_lem l.answer l.row
command_read s (Command.Update id earliest latest) = let u = updated s.plan id earliest latest in answer_read_lem u.answer u.row
command_read s (Command.Fit id) = fit_read (fit_of s.plan id)
command_read s Command.Rows = table_read s.plan
command_read s Command.Unreadable = refusal_read Refusal.Unreadable

pub reads_back : (s : Session) (c : Command) → read_answers (outcome s c).text ≡ replies_to s c
reads_back s c = all_read (command_read s c)

-- what lines print, one behind the other
lines_read : (lines : List (List ℕ)) (s : Session) → ReadsAs (printed s lines) (replies_to_lines s lines)
unfolding printed replies_to_lines
lines_read [] s = nothing_read
lines_read (line ∷ lines) s = then_read (command_read s (command_of line)) (lines_read lines (answered s line).session)

pub lines_read_back : (s : Session) (lines : List (List ℕ)) → read_answers (printed s lines) ≡ replies_to_lines s lines
lines_read_back s lines = all_read (lines_read lines s)

-- and so what the program prints for its whole input
pub transcript_reads_back : (bytes : List ℕ) → read_answers (transcript bytes) ≡ replies_to_lines fresh_session (lines_of bytes)
transcript_reads_back bytes = lines_read_back fresh_session (lines_of bytes)
