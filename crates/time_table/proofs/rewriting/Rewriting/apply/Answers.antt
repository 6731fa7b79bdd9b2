-- `apply` meets its contract: the rows that end before the part stay, those that the walk goes through fall into pieces, those that are left stay, and what of
-- the part lies behind the last row follows.
-- Assumes nothing.
use Rattle.std.proofs.Common.{◌≡◌, ◌++◌, [], ◌+◌, ◌<◌, sym, ap, ◌∙◌, arith, length, length-append, option_to_list}
use Rattle.std.proofs.lemmas.Result.{MatchResult-from_err}
use Rattle.time_table.specs.PartByPart.{stepped, made_last}
use Rattle.time_table.specs.Rewriting.{Lays, NoPlace}
use Rattle.time_table.proofs.rewriting.Walked.{starts_walk, start_skips, start_whole}
use Rattle.time_table.proofs.rewriting.Rewriting.apply.Goals as goal

-- of two facts the second
second : {A B : Type 0} → A × B → B
second p = p.1

pub walk-requires : goal.walk-requires
walk-requires c = starts_walk c.requires.can (rw c.part-part.ensures at c.start_over.ensures)

pub returns-in_err-left : goal.returns-in_err-left
returns-in_err-left c =
    let skips = start_skips c.requires.can (rw c.part-part.ensures at c.start_over.ensures) in
    let over : 128 < length c.start_over.new.self.written + length (stepped c.args.step c.start_over.new.self.unread) = c.in_err-left.ensures in
    MatchResult-from_err c.from_residual.result _ _ c.from_residual.ensures.0 (λ y. rw (skips, length-append) over)

pub returns-in_err-lay_rest : goal.returns-in_err-lay_rest
returns-in_err-lay_rest c =
    let skips = start_skips c.requires.can (rw c.part-part.ensures at c.start_over.ensures) in
    let walked : c.walk.new.self.written ++ c.walk.new.self.unread ++ made_last c.in_ok-left.left ≡ c.start_over.new.self.written ++ stepped c.args.step c.start_over.new.self.unread =
    c.in_ok-left.ensures in
    let over : 128 < length c.walk.new.self.written + length c.walk.new.self.unread = c.in_err-lay_rest.ensures in
    let long = simp length-append at (ap length (walked ∙ sym skips)) in
    MatchResult-from_err c.from_residual-in_err-lay_rest.result _ _ c.from_residual-in_err-lay_rest.ensures.0 (λ y. omega (arith, long, over))

pub clear-requires : goal.clear-requires
clear-requires c =
    let l : Lays c.lay_rest.new.self (option_to_list c.last_profile.result) c.lay_piece.new.self = c.in_ok-lay_piece.ensures in
    let none : c.lay_rest.new.self.unread ≡ [] = second c.in_ok-lay_rest.ensures in
    l.unread ∙ none

pub returns-in_err-lay_piece : goal.returns-in_err-lay_piece
returns-in_err-lay_piece c =
    let whole =
    start_whole c.requires.can (rw c.part-part.ensures at c.start_over.ensures) c.in_ok-left.left c.walk.new.self c.lay_rest.new.self (option_to_list c.last_profile.result)
    c.in_ok-left.ensures c.in_ok-lay_rest.ensures c.last_profile.ensures in
    let none : c.lay_rest.new.self.unread ≡ [] = second c.in_ok-lay_rest.ensures in
    let full : NoPlace c.lay_rest.new.self (length (option_to_list c.last_profile.result)) = c.in_err-lay_piece.ensures in
    MatchResult-from_err c.from_residual-in_err-lay_piece.result _ _ c.from_residual-in_err-lay_piece.ensures.0
    (λ y. omega (arith, full, ap length none, simp length-append at (ap length whole)))

pub returns : goal.returns
returns c =
    let whole =
    start_whole c.requires.can (rw c.part-part.ensures at c.start_over.ensures) c.in_ok-left.left c.walk.new.self c.lay_rest.new.self (option_to_list c.last_profile.result)
    c.in_ok-left.ensures c.in_ok-lay_rest.ensures c.last_profile.ensures in
    let l : Lays c.lay_rest.new.self (option_to_list c.last_profile.result) c.lay_piece.new.self = c.in_ok-lay_piece.ensures in
    record {
      written = c.clear.ensures.written ∙ l.written ∙ whole;
      cleared = c.clear.ensures.cleared;
      few = omega (arith, c.clear.ensures.few, ap length c.clear.ensures.written);
    }
