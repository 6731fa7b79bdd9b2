-- A copy of a plan's rows to a lent slice: each answer is given exactly when the table of refusals 9 and 10 gives it, and the slice then holds what it is to
-- hold. Of any outcome that meets the promise: the promise says what the answer and the slice are, and the rows of a plan are refused with 9 or shown.
-- Assumes nothing.
use mathlib.Core.Path.{◌≡◌, refl, sym, ap, ◌∙◌, subst}
use mathlib.Core.Bool.{Bool, true, false, cond}
use mathlib.Core.List.{List, map}
use mathlib.Core.Logic.{◌↔◌, ⊎_elim}
use Prim.Native.Nat.{ℕ, ◌≤◌}
use native.Mathlib.Omega.{arith}
use borrow.Author.Tests.{le-leb, lt-leb, leb-true}
use lib.Dec.{leb}
use lib.ListN.{length, take, drop}
use lib.Seq.{take_all, take-append_seam}
use Rattle.std.specs.Prelude.{Result, Ok, Err, IsOk}
use Rattle.time_table.specs.Rows.{rows_of}
use Rattle.time_table.proofs.Sums.{lt_or_le}
use Rattle.planner.specs.declared.Plan.{Plan}
use Rattle.planner.specs.declared.RowRecord.{RowRecord}
use Rattle.planner.specs.declared.Refusal.{Refusal}
use Rattle.planner.specs.declared.Refusal.TheVariants.{Stale, ShortSlice}
use Rattle.planner.specs.declared.Rows.{Rows}
use Rattle.planner.specs.Refusals.{Verdict, refused, verdict}
use Rattle.planner.specs.Records.{record_of}
use Rattle.planner.specs.Questions.{rows_with, rows_shown, records_of, shown_rows}
use Rattle.lent.specs.Copies.{copy_answer, copied_count, copied, CopyJudged, CopyGiven, stale, short, all, CopyPlaces}
use Rattle.lent.specs.Promises.{CopyPromise}
use Rattle.lent.proofs.CopiedSlice.{copied_length, copied_first, copied_others}

-- the rows that a plan shows: none where it is stale, and else as many as are counted
data ShownBy (shown : Result Rows Refusal) : Type 0 where
  hidden : shown ≡ Err Stale → ShownBy shown
  visible : (rows : Rows) → shown ≡ Ok rows → length (records_of rows) ≡ rows.count → ShownBy shown

module _ (plan : Plan) where
  abbrev records : List RowRecord
  records = map record_of (rows_of plan.table)

  shown_by : ShownBy (rows_shown plan)
  unfolding rows_shown
  shown_by = go plan.live
    where
      go : (live : Bool) → ShownBy (cond live (Ok (rows_with records)) (Err Stale))
      go true = visible (rows_with records) refl (ap length (take-append_seam records _))
      go false = hidden refl

-- what is refused is refused with the same number, and no row is copied
refused_as : (s : Result Rows Refusal) (places k : ℕ) → verdict s ≡ refused k → CopyJudged (copy_answer s places) (refused k) 0
unfolding copy_answer
refused_as (Ok rows) places k e = absurd (cc)
refused_as (Err why) places k e = (e, refl)

-- any outcome that meets the promise
module _ {plan : Plan} {before after : List RowRecord} {r : Result ℕ Refusal} (kept : CopyPromise plan before r after) where
  abbrev shown : Result Rows Refusal
  shown = rows_shown plan

  abbrev places : ℕ
  places = length before

  -- the answer, where the rows are refused; and where they are shown, by the test of the places
  refused_is : {why : Refusal} → shown ≡ Err why → r ≡ Err why
  unfolding copy_answer
  refused_is e = kept.answer ∙ ap (λ (s : Result Rows Refusal). copy_answer s places) e

  by_places : {rows : Rows} → shown ≡ Ok rows → (fits : Bool) → leb rows.count places ≡ fits → r ≡ cond fits (Ok rows.count) (Err ShortSlice)
  unfolding copy_answer
  by_places {rows} e fits f =
      kept.answer ∙ ap (λ (s : Result Rows Refusal). copy_answer s places) e ∙ ap (λ (b : Bool). cond b (Ok rows.count) (Err ShortSlice)) f

  judged : {v : Verdict} {n : ℕ} {s : Result ℕ Refusal} → r ≡ s → CopyJudged s v n → CopyJudged r v n
  judged e j = rw e j

  copy_given : {v : Verdict} {n : ℕ} → CopyGiven shown places v n → CopyJudged r v n
  copy_given (stale e) = judged kept.answer (refused_as shown places 9 e)
  copy_given (short e l) = judged (by_places e false (lt-leb _ _ l)) (refl, refl)
  copy_given (all e l) = judged (by_places e true (le-leb _ _ l)) (refl, refl)

  copy_found : CopyGiven shown places (verdict r) (copied_count r)
  copy_found = go (shown_by plan)
    where
      told : {v : Verdict} {n : ℕ} → CopyGiven shown places v n → CopyGiven shown places (verdict r) (copied_count r)
      told g = rw ((copy_given g).0, (copy_given g).1) g

      go : ShownBy shown → CopyGiven shown places (verdict r) (copied_count r)
      go (hidden e) = told (stale (ap verdict e))
      go (visible x e held) = ⊎_elim (λ l. told (short e l)) (λ l. told (all e l)) (lt_or_le places x.count)

  pub copy_exactly : (v : Verdict) (n : ℕ) → CopyJudged r v n ↔ CopyGiven (rows_shown plan) (length before) v n
  copy_exactly v n = (λ h. rw (sym h.0, sym h.1) copy_found, copy_given)

  -- accepted: the rows are shown, all are counted, and there are places for all
  record Accepted (n : ℕ) : Type 0 where
    is_shown : IsOk shown
    counted : length (shown_rows shown) ≡ n
    room : n ≤ places

  accepted : {n : ℕ} → r ≡ Ok n → Accepted n
  accepted {n} e = go (shown_by plan)
    where
      fits : (rows : Rows) → shown ≡ Ok rows → length (records_of rows) ≡ rows.count → (test : Bool) → leb rows.count places ≡ test → Accepted n
      fits rows s many true f =
          let same : Ok rows.count ≡ Ok n = sym (by_places s true f) ∙ e in
          let all : rows.count ≡ n = cc in
          record { is_shown = rw s refl; counted = rw s (many ∙ all); room = omega (arith, leb-true rows.count places f) }
      fits rows s many false f = let clash = sym (by_places s false f) ∙ e in absurd (cc)

      go : ShownBy shown → Accepted n
      go (hidden s) = let clash : Err Stale ≡ Ok n = sym (refused_is s) ∙ e in absurd (cc)
      go (visible rows s many) = fits rows s many (leb rows.count places) refl

  -- the rows are shown where they are copied
  pub copy_shown : {n : ℕ} → r ≡ Ok n → IsOk (rows_shown plan)
  copy_shown e = (accepted e).is_shown

  others : drop (copied_count r) after ≡ drop (copied_count r) before
  others = ap (drop (copied_count r)) kept.slice ∙ copied_others (shown_rows shown) (copied_count r) before (copied_count r) (omega arith)

  -- what a caller finds in the slice
  pub copy_places : CopyPlaces (rows_shown plan) before r after
  copy_places =
      record {
        same_length = ap length kept.slice ∙ copied_length (shown_rows shown) (copied_count r) before;
        first =
            λ n e.
            let a = accepted e in
            ap (take n) (kept.slice ∙ ap (λ (s : Result ℕ Refusal). copied (shown_rows shown) (copied_count s) before) e)
            ∙ copied_first (shown_rows shown) n before (omega (arith, a.counted)) a.room
            ∙ take_all n (shown_rows shown) (omega (arith, a.counted));
        counted = λ n e. (accepted e).counted;
        others = others;
        untouched = λ why e. subst (λ (n : ℕ). drop n after ≡ drop n before) (ap copied_count e) others;
      }
