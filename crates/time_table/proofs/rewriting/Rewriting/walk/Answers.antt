-- `walk` meets its contract: each row that it goes through falls into its pieces, and the rows from one that stays on all stay.
-- Assumes nothing.
use Rattle.std.proofs.Common.{[], ◌∷◌, sym, ◌∙◌, append_assoc, append-nil, length, length-append}
use Rattle.std.proofs.lemmas.Result.{MatchResult-from_err}
use Rattle.time_table.specs.PartByPart.{pieces_of}
use Rattle.time_table.specs.Rewriting.{Lays, NoPlace}
use Rattle.time_table.proofs.rewriting.Walked.{walked_all, row_changes, row_ends, stays, stays_over, walked_on, falls_over}
use Rattle.time_table.proofs.rewriting.Rewriting.walk.Goals as goal

pub lay_pieces-requires : goal.lay_pieces-requires
lay_pieces-requires c = row_changes c.loop-row.invariant c.in-Some.row c.next.new.self.unread c.in-Some.ensures.unread

pub behind-step-requires : goal.behind-step-requires
behind-step-requires c = row_ends c.loop-row.invariant c.in-Some.row c.next.new.self.unread c.in-Some.ensures.unread

pub loop-row-preserved : goal.loop-row-preserved
loop-row-preserved c =
    let l : Lays c.next.new.self (pieces_of c.loop-row.step c.in-Some.row) c.lay_pieces.new.self = c.in_ok-lay_pieces.ensures in
    rw c.behind-step.ensures
    (walked_on c.loop-row.invariant c.in-Some.row c.next.new.self.unread c.in-Some.ensures.unread c.lay_pieces.new.self (rw (← c.in-Some.ensures.written) l.written) l.unread)

pub returns : goal.returns
returns c = rw (c.in_default.ensures.written, c.in_default.ensures.unread.1, append-nil) (walked_all c.loop-row.invariant c.in_default.ensures.unread.0)

pub returns-then-is_untouched : goal.returns-then-is_untouched
returns-then-is_untouched c =
    let l : Lays c.next.new.self (c.in-Some.row ∷ []) c.lay.new.self = c.in_ok-lay.ensures in
    rw (l.written, l.unread, c.in-Some.ensures.written, append_assoc c.loop-row.self.written (c.in-Some.row ∷ []) c.next.new.self.unread)
    (stays c.loop-row.invariant c.in-Some.row c.next.new.self.unread c.in-Some.ensures.unread (sym c.is_untouched.ensures ∙ c.if-is_untouched.true))

pub returns-in_err-lay : goal.returns-in_err-lay
returns-in_err-lay c =
    let full : NoPlace c.next.new.self 1 = c.in_err-lay.ensures in
    let over =
    stays_over c.loop-row.invariant c.in-Some.row c.next.new.self.unread c.in-Some.ensures.unread (sym c.is_untouched.ensures ∙ c.if-is_untouched.true)
    (rw c.in-Some.ensures.written at full) in
    MatchResult-from_err c.from_residual.result _ _ c.from_residual.ensures.0 (λ y. simp length-append at over)

pub returns-in_err-lay_pieces : goal.returns-in_err-lay_pieces
returns-in_err-lay_pieces c =
    let full : NoPlace c.next.new.self (length (pieces_of c.loop-row.step c.in-Some.row)) = c.in_err-lay_pieces.ensures in
    let over =
    falls_over c.loop-row.invariant c.in-Some.row c.next.new.self.unread c.in-Some.ensures.unread c.in-Some.ensures.few (rw c.in-Some.ensures.written at full) in
    MatchResult-from_err c.from_residual-in_err-lay_pieces.result _ _ c.from_residual-in_err-lay_pieces.ensures.0 (λ y. simp length-append at over)
