-- `copy_rows` meets its contract: refused, the slice is as it was; else the rows are laid over its first places, where they fit. A sound plan shows at most
-- 128 rows.
-- Assumes nothing.
use mathlib.Core.Path.{◌≡◌, refl, sym, ap, ◌∙◌}
use mathlib.Core.List.{List, ◌++◌}
use Prim.Native.Nat.{◌≤◌, ◌<◌}
use borrow.Author.Tests.{le-leb, lt-leb}
use lib.ListN.{length, drop}
use Rattle.std.specs.Prelude.{Ok, Err}
use Rattle.std.proofs.lemmas.Result.{err_from_is_err_and}
use Rattle.planner.specs.declared.Plan.{Plan}
use Rattle.planner.specs.declared.RowRecord.{RowRecord}
use Rattle.planner.specs.declared.Rows.{Rows}
use Rattle.planner.specs.declared.Refusal.{Refusal}
use Rattle.planner.specs.declared.Refusal.TheVariants.{ShortSlice}
use Rattle.planner.specs.Shown.{Shown}
use Rattle.planner.specs.Questions.{rows_shown, records_of, shown_rows}
use Rattle.lent.specs.Copies.{copy_answer, copied}
use Rattle.lent.specs.Promises.{CopyPromise}
use Rattle.lent.proofs.CopiedSlice.{copied_laid}
use Rattle.lent.proofs.rows.copy_rows.Goals as goal

module _ (plan : Plan) (out : List RowRecord) where
  stale : {why : Refusal} → Err why ≡ rows_shown plan → CopyPromise plan out (Err why) out
  unfolding copy_answer
  stale e = record { answer = rw (sym e) refl; slice = refl }

  module _ {rows : Rows} (shown : Ok rows ≡ rows_shown plan) (held : Shown rows) where
    -- as many rows as are counted
    counted : {l : List RowRecord} → l ≡ records_of rows → length l ≡ rows.count
    counted e = ap length e ∙ sym held.held.counts

    short : {l : List RowRecord} → l ≡ records_of rows → length out < length l → CopyPromise plan out (Err ShortSlice) out
    unfolding copy_answer
    short e few = record { answer = rw (sym shown, lt-leb _ _ (rw (counted e) at few)) refl; slice = refl }

    laid : {l : List RowRecord} → l ≡ records_of rows → length l ≤ length out → CopyPromise plan out (Ok (length l)) (l ++ drop (length l) out)
    unfolding copy_answer
    laid {l} e room =
        record {
          answer = rw (sym shown, le-leb _ _ (rw (counted e) at room)) (ap Ok (counted e));
          slice = sym (copied_laid l out room) ∙ ap (λ (xs : List RowRecord). copied xs (length l) out) (e ∙ ap shown_rows shown);
        }

pub returns-in_err-shown : goal.returns-in_err-shown
returns-in_err-shown c =
    let p = err_from_is_err_and c.from_residual.result c.from_residual.ensures.1 in
    rw (p.1, p.2) (stale _ _ c.in_err-shown.ensures.value)

pub as_slice-rows-requires : goal.as_slice-rows-requires
as_slice-rows-requires c = c.in_ok-shown.ensures.shown.held.fits

pub returns-then-out-count : goal.returns-then-out-count
returns-then-out-count c = short _ _ c.in_ok-shown.ensures.value c.in_ok-shown.ensures.shown c.as_slice-rows.ensures c.if-out-count.true

pub returns : goal.returns
returns c = rw c.copy_from_slice.ensures.after (laid _ _ c.in_ok-shown.ensures.value c.in_ok-shown.ensures.shown c.as_slice-rows.ensures c.if-out-count.false)
