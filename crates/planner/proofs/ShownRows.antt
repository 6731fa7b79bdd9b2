-- The rows that a sound plan shows stand in arrays that hold them.
-- Assumes nothing.
use Rattle.std.specs.Prelude.{Ok, Err}
use mathlib.Core.Path.{◌≡◌, refl, sym, subst}
use mathlib.Core.Bool.{Bool, true, false, cond}
use mathlib.Core.List.{List, map}
use Prim.Native.Nat.{ℕ, ◌≤◌, ◌<◌}
use native.Mathlib.Omega.{arith}
use lib.ListN.{length, get_or, length-map, get_or-append}
use Rattle.time_table.specs.Held.{pad, Held}
use Rattle.time_table.specs.Rows.{no_row, rows_of}
use Rattle.time_table.proofs.Held.{held_list}
use Rattle.time_table.proofs.AtRow.{each_at}
use Rattle.sweep.proofs.Placed.{get_map}
use Rattle.planner.specs.declared.Plan.{Plan}
use Rattle.planner.specs.declared.RowRecord.{RowRecord}
use Rattle.planner.specs.declared.Rows.{Rows}
use Rattle.planner.specs.declared.Refusal.TheVariants.{Stale}
use Rattle.planner.specs.Records.{record_of, no_record}
use Rattle.planner.specs.Sound.{Sound, Live}
use Rattle.planner.specs.Questions.{rows_with, rows_shown}
use Rattle.planner.specs.Shown.{HeldIds, Shown}

module _ (l : List RowRecord) (few : length l ≤ 128) where
  held_shown : Held 128 no_record (pad 128 no_record l) (length l) l
  held_shown = record { is = refl; counts = refl; fits = few }

  shown_with : ((d : RowRecord) (i : ℕ) → i < length l → HeldIds (get_or l i d)) → Shown (rows_with l)
  shown_with each =
      record {
        held = rw (held_list held_shown) held_shown;
        ids = λ d i h. subst HeldIds (sym (get_or-append l _ d i h)) (each d i h);
      }

pub shown_rows_lem : (plan : Plan) → Sound plan → (rows : Rows) → rows_shown plan ≡ Ok rows → Shown rows
unfolding rows_shown
shown_rows_lem plan sound rows shown = go plan.live sound.live shown
  where
    go : (live : Bool) → (live ≡ true → Live plan.tasks plan.table) → cond live (Ok (rows_with (map record_of (rows_of plan.table)))) (Err Stale) ≡ Ok rows → Shown rows
    go true right told =
        let live = right refl in
        let l = rows_of plan.table in
        let is : rows_with (map record_of l) ≡ rows = cc in
        subst Shown is (shown_with (map record_of l) (omega (arith, length-map l record_of, live.clean.fits, live.clean.counts))
        (λ d i h. let h' : i < length l = omega (arith, length-map l record_of) in
        subst HeldIds (sym (get_map record_of no_row d l i h')) (each_at _ l i h' live.right.sound).listed))
    go false right told = absurd (cc)
