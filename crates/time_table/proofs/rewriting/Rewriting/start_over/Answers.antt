-- `start_over` meets its contract: the rows that end before the instant are the first ones.
-- Assumes nothing.
use Rattle.std.proofs.Common.{arith, sym, ap, ◌∙◌, take}
use Rattle.std.proofs.lemmas.List.{length-take-le}
use Rattle.time_table.specs.Rewriting.{Rewritten}
use Rattle.time_table.proofs.rewriting.Places.{cleared_level, starts_ranged, starts}
use Rattle.time_table.proofs.rewriting.Rewriting.start_over.Goals as goal

pub invariant_of-self : goal.invariant_of-self
invariant_of-self c =
    let i = c.self.invariant in
    let s = c.self.inside in
    let level = cleared_level i (rw (← c.self.view_is) at c.requires.cleared) in
    let long = length-take-le s.table.count s.table.rows (omega (arith, i.size, i.fits)) in
    starts_ranged _ _ _ (omega (arith, c.ended-skipped.ensures.within, long)) i level.0

pub returns : goal.returns
returns c =
    let i = c.self.invariant in
    let s = c.self.inside in
    let level = cleared_level i (rw (← c.self.view_is) at c.requires.cleared) in
    let long = length-take-le s.table.count s.table.rows (omega (arith, i.size, i.fits)) in
    let same = ap (λ n. take n s.table.rows) (sym level.1) ∙ ap (λ (r : Rewritten). r.written) c.self.view_is in
    rw (level.0, ← same)
    (starts s.table.rows s.table.count c.ended-skipped.result (omega (arith, c.ended-skipped.ensures.within, long)) c.args.instant (omega (arith, long, i.fits)) c.ended-skipped.ensures)
