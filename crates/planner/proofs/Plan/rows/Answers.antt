-- `Plan::rows` meets its contract: the first i places have the first i rows, in signed instants.
-- Assumes nothing.
use Rattle.std.specs.Prelude.{Ok}
use mathlib.Core.Path.{◌≡◌, refl, sym, ◌∙◌}
use lib.ListN.{take, length-map}
use Rattle.std.proofs.lemmas.List.{take_all}
use native.Mathlib.Omega.{arith}
use Rattle.time_table.specs.Rows.{no_row, rows_of}
use Rattle.time_table.proofs.Held.{held_as, held_push}
use Rattle.time_table.proofs.Mapped.{map_take}
use Rattle.planner.specs.Records.{record_of}
use Rattle.planner.specs.Questions.{rows_shown}
use Rattle.planner.proofs.Limits.{row_low}
use Rattle.planner.proofs.ShownRows.{shown_rows_lem}
use Rattle.planner.proofs.Plan.rows.Goals as goal
use Rattle.planner.proofs.Plan.rows.Goals.{After-loop-i}

pub returns-then-not-self-clause-value : goal.returns-then-not-self-clause-value
unfolding rows_shown
returns-then-not-self-clause-value c = rw c.if-not-self.true refl

pub record_of-requires : goal.record_of-requires
record_of-requires c =
    let live = c.requires.live c.if-not-self.false in
    row_low c.args.self.now.tasks c.requires.tasks (rows_of c.args.self.now.table) live.right c.loop-i.i c.loop-i-test.true

pub loop-i-preserved : goal.loop-i-preserved
loop-i-preserved c =
    let clean = (c.requires.live c.if-not-self.false).clean in
    held_as (held_push c.loop-i.invariant c.record_of.result (omega (arith, clean.fits, clean.counts)))
    (rw c.record_of.ensures (sym (map_take record_of (rows_of c.args.self.now.table) c.loop-i.i no_row c.loop-i-test.true)))

-- the rows behind the loop are those that the plan shows
built : (c : After-loop-i) → rows_shown c.args.self.now ≡ Ok (record { rows = c.loop-i.rows; count = c.args.self.now.table.count })
unfolding rows_shown
built c =
    let l = rows_of c.args.self.now.table in
    let clean = (c.requires.live c.if-not-self.false).clean in
    let all : take c.loop-i.i l ≡ l = take_all c.loop-i.i l c.loop-i-test.false in
    let done = rw all at c.loop-i.invariant in
    let counts = length-map l record_of in
    rw c.if-not-self.false (λ i. Ok (record { rows = sym done.is i; count = (counts ∙ sym clean.counts) i }))

pub returns : goal.returns
returns c =
    record {
      value = sym (built c);
      shown = shown_rows_lem c.args.self.now c.requires _ (built c);
    }
