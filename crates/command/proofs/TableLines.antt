-- What `T` prints is the rows of demand 3: a number has digits and at most a minus, so the line feeds and the spaces that are printed between numbers
-- are the only ones, and splitting there gives the numbers back.
-- Assumes nothing.
use mathlib.Core.Path.{◌≡◌, refl, sym, ap, ◌∙◌, subst}
use mathlib.Core.Bool.{false, true≢false}
use mathlib.Core.Logic.{⊎_elim}
use mathlib.Core.List.{List, [], ◌∷◌, ◌++◌, map, flat_map, append-nil, append_assoc}
use Prim.Native.Nat.{ℕ, ◌+◌, ◌<◌}
use native.Mathlib.Omega.{arith}
use lib.IntN.{pos}
use lib.ListN.{length, get_or, length-append, length-map, get_or-append}
use lib.Seq.{get_or_at}
use Rattle.std.specs.Prelude.{Result, Ok, Err, IsOk}
use Rattle.sweep.proofs.Placed.{get_map}
use Rattle.planner.specs.declared.Plan.{Plan}
use Rattle.planner.specs.declared.RowRecord.{RowRecord}
use Rattle.planner.specs.declared.Rows.{Rows}
use Rattle.planner.specs.declared.Refusal.{Refusal}
use Rattle.planner.specs.Refusals.{number_of, Verdict, admitted, verdict}
use Rattle.planner.specs.Records.{no_record}
use Rattle.planner.specs.Answers.{fresh_plan}
use Rattle.planner.specs.Questions.{rows_shown, records_of, shown_rows}
use Rattle.planner.specs.History.{Call, plan_after}
use Rattle.planner.specs.Stale.{stale_after}
use Rattle.planner.proofs.Tests.{by_test}
use Rattle.planner.proofs.Numbers.{rows_refused_9, rows_accepted_when}
use Rattle.planner.proofs.Histories.{rows_demanded}
use Rattle.planner.proofs.HeardStale.{heard_rows_9}
use Rattle.command.specs.declared.Session.{Session}
use Rattle.command.specs.Decimal.{digits_in, decimal}
use Rattle.command.specs.Grammar.{fields_of, values_of, numbers_taken, command_with, by_letter, command_of}
use Rattle.command.specs.Text.{spaced, count_text, refusal_text, row_text, rows_text, table_text}
use Rattle.command.specs.Sessions.{fresh_session, outcome, answered}
use Rattle.command.specs.Lines.{lines_after, lines_of}
use Rattle.command.specs.Calls.{session_after, calls_of}
use Rattle.command.specs.PrintedNumbers.{SpellsAll, none, more, LetterLine, Ended}
use Rattle.command.specs.TableLines.{row_numbers, ListsRows, PrintedByT, refused_9, listed}
use Rattle.command.proofs.SpacesAndFeeds.{Above, above_less, line_first}
use Rattle.command.proofs.PrintedNumbers.{decimal_spells, spells_above, last_byte, letter_line}
use Rattle.command.proofs.RowLines.{row_line, row_fields, row_spelled, row_above, shown_counts}
use Rattle.command.proofs.Calls.{plan_after_lines}

-- the last line is `E` and a number
abbrev end_line : ℕ → List ℕ
end_line n = (69 ∷ []) ++ spaced (decimal n)

end_says : (n : ℕ) → LetterLine 69 (pos n ∷ []) (end_line n)
unfolding flat_map
end_says n = rw (← (append-nil (decimal n))) (letter_line 69 (omega arith) (more (decimal_spells n) none))

end_above : (n : ℕ) → Above 10 (end_line n)
end_above n =
    let d : Above 32 (decimal n) = spells_above (decimal_spells n) in
    let after : Above 10 (spaced (decimal n)) = (omega arith, above_less (decimal n) d) in
    (omega arith, after)

-- the lines of a whole table
table_lines : (rows : List RowRecord) (n : ℕ) → lines_of (rows_text rows ++ count_text 69 n) ≡ map row_line rows ++ end_line n ∷ []
unfolding flat_map row_text count_text lines_after
table_lines [] n = ap lines_of (sym (append-nil (end_line n ++ 10 ∷ []))) ∙ line_first (end_line n) [] (end_above n)
table_lines (r ∷ rows) n =
    ap lines_of (append_assoc (row_line r ++ 10 ∷ []) (rows_text rows) (count_text 69 n))
    ∙ line_first (row_line r) (rows_text rows ++ count_text 69 n) (row_above r)
    ∙ ap (λ (ls : List (List ℕ)). row_line r ∷ ls) (table_lines rows n)

module _ (rows : List RowRecord) (n : ℕ) (counted : n ≡ length rows) where
  abbrev text : List ℕ
  text = rows_text rows ++ count_text 69 n

  row_there : (k : ℕ) → k < length rows → get_or (lines_of text) k [] ≡ row_line (get_or rows k no_record)
  row_there k h =
      ap (λ (ls : List (List ℕ)). get_or ls k []) (table_lines rows n)
      ∙ get_or-append (map row_line rows) (end_line n ∷ []) [] k (omega (arith, length-map rows row_line)) ∙ get_map row_line no_record [] rows k h

  end_there : get_or (lines_of text) (length rows) [] ≡ end_line n
  end_there = ap (λ (ls : List (List ℕ)). get_or ls (length rows) []) (table_lines rows n) ∙ get_or_at (map row_line rows) (end_line n) [] [] (length rows) (length-map rows row_line)

  lists_rows : ListsRows rows text
  unfolding count_text
  lists_rows =
      record {
        count = ap length (table_lines rows n) ∙ length-append (map row_line rows) (end_line n ∷ []) ∙ ap (λ (m : ℕ). m + 1) (length-map rows row_line);
        row = λ k h. let r = get_or rows k no_record in subst (λ (fs : List (List ℕ)). SpellsAll fs (row_numbers r)) (sym (ap fields_of (row_there k h) ∙ row_fields r)) (row_spelled r);
        last = rw (end_there, ← counted) (end_says n);
        ended = subst Ended (append_assoc (rows_text rows) (end_line n) (10 ∷ [])) (last_byte (rows_text rows ++ end_line n));
      }

module _ (calls : List Call) where
  abbrev plan : Plan
  plan = plan_after fresh_plan calls

  abbrev shown : Result Rows Refusal
  shown = rows_shown plan

  -- a table that is accepted, and one that is refused
  accepted : IsOk shown → ListsRows (shown_rows shown) (table_text shown)
  unfolding table_text
  accepted = go shown (shown_counts plan)
    where
      go : (a : Result Rows Refusal) → ((rows : Rows) → a ≡ Ok rows → rows.count ≡ length (records_of rows)) → IsOk a → ListsRows (shown_rows a) (table_text a)
      go (Ok rows) counts taken = lists_rows (records_of rows) _ (omega (arith, counts rows refl))
      go (Err why) counts taken = cc

  refused : verdict shown ≡ Verdict.refused 9 → table_text shown ≡ 82 ∷ 32 ∷ 57 ∷ 10 ∷ []
  unfolding table_text refusal_text count_text decimal digits_in
  refused = go shown
    where
      go : (a : Result Rows Refusal) → verdict a ≡ Verdict.refused 9 → table_text a ≡ 82 ∷ 32 ∷ 57 ∷ 10 ∷ []
      go (Ok rows) e = cc
      go (Err why) e = let nine : number_of why ≡ 9 = cc in ap (count_text 82) nine

  -- the rows are refused with 9 exactly if the answers say that the table is stale
  taken : (a : Result Rows Refusal) → verdict a ≡ admitted → IsOk a
  taken (Ok rows) e = refl
  taken (Err why) e = cc

  not_stale : stale_after fresh_plan false calls ≡ false → IsOk shown
  not_stale fresh =
      ⊎_elim
      (λ live. taken shown ((rows_accepted_when plan).1 live))
      (λ stale. absurd (true≢false (sym ((heard_rows_9 calls).0 ((rows_refused_9 plan).1 stale)) ∙ fresh)))
      (by_test plan.live)

  calls_printed : PrintedByT calls (table_text shown)
  calls_printed =
      ⊎_elim
      (λ stale. refused_9 stale (refused ((heard_rows_9 calls).1 stale)))
      (λ fresh. listed fresh (shown_rows shown) (rows_demanded calls (not_stale fresh)) (accepted (not_stale fresh)))
      (by_test (stale_after fresh_plan false calls))

-- the line `T` asks for the rows
asks : (s : Session) → (answered s (84 ∷ [])).text ≡ table_text (rows_shown s.plan)
unfolding outcome command_of fields_of values_of by_letter command_with numbers_taken
asks s = refl

-- after any lines
pub rows_printed : (lines : List (List ℕ)) → PrintedByT (calls_of lines) (answered (session_after fresh_session lines) (84 ∷ [])).text
rows_printed lines =
    let e = asks (session_after fresh_session lines) ∙ ap (λ (p : Plan). table_text (rows_shown p)) (plan_after_lines lines) in
    subst (PrintedByT (calls_of lines)) (sym e) (calls_printed (calls_of lines))
