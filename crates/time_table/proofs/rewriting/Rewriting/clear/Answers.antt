-- `clear` meets its contract: what is written is followed by empty rows.
-- Assumes nothing.
use Rattle.std.proofs.Common.{arith, ap, ◌∙◌}
use Rattle.std.proofs.lemmas.List.{length-take-le}
use Rattle.time_table.specs.Rewriting.{Rewritten}
use Rattle.time_table.proofs.rewriting.Places.{cleared_up_to, cleared_ranged, none_in_hand}
use Rattle.time_table.proofs.rewriting.Rewriting.clear.Goals as goal

pub invariant_of-self : goal.invariant_of-self
invariant_of-self c =
    let i = c.self.invariant in
    let s = c.self.inside in
    cleared_ranged _ _ s.write s.in_hand (length-take-le s.write s.table.rows (omega (arith, i.size, i.below, i.within, i.fits))) (omega (arith, i.below, i.within, i.fits))
    (cleared_up_to s.table.rows c.fill.new.self s.write s.table.count i.size (omega (arith, i.below, i.within)) i.fits i.blank (rw c.empty.ensures at (c.fill.ensures.after (λ y e. e))) (omega arith))
    (none_in_hand s.in_hand _ (ap (λ (r : Rewritten). r.unread) c.self.view_is ∙ c.requires))
