-- The row shown is the first that is higher than the capacity: an edited table is scanned as it stands afterwards, and a sweep's rows as they are swept.
-- Assumes nothing.
use Rattle.std.specs.Prelude.{Option, Some, None, is_some, is_none, Result, Ok, Err, is_ok, ⊤}
use mathlib.Core.Path.{◌≡◌, refl, sym, ap, ◌∙◌, subst}
use mathlib.Core.Bool.{true, cond, true≢false, false≢true}
use mathlib.Core.Logic.{⊎_elim}
use mathlib.Core.List.{List, []}
use Prim.Native.Nat.{ℕ}
use lib.IntN.{ℤ}
use lib.ListN.{set}
use Rattle.time_table.specs.declared.Row.{Row}
use Rattle.time_table.specs.Rows.{rows_of, table_of}
use Rattle.time_table.specs.Overload.{conflict_in, NoneOver}
use Rattle.time_table.proofs.TableOfRows.{rows_of_lem}
use Rattle.time_table.proofs.Overloaded.{conflict_row, conflict_none_over}
use Rattle.sweep.specs.declared.Task.{Task}
use Rattle.sweep.specs.Tasks.{tasks_of, tasks_with}
use Rattle.sweep.specs.Sweep.{sweep}
use Rattle.planner.specs.declared.Jobs.{Jobs}
use Rattle.planner.specs.declared.Plan.{Plan}
use Rattle.planner.specs.declared.Refusal.{Refusal}
use Rattle.planner.specs.declared.Answer.TheVariants.{Fits, Overloaded}
use Rattle.planner.specs.Instants.{tick, amount}
use Rattle.planner.specs.Answers.{answer_of, shown_row, live_plan, swept_plan, refused_update}
use Rattle.planner.specs.Loads.{load_checked, accepted_load}
use Rattle.planner.specs.Updates.{accepted_update, updated}
use Rattle.planner.specs.History.{Call, load, update, without_places, outcome}
use Rattle.planner.specs.FirstRow.{FirstShown, ShowsFirst}
use Rattle.planner.proofs.Tests.{by_test}
use Rattle.planner.proofs.Known.{tasks_of_lem}
use Rattle.planner.proofs.LoadedTasks.{load_by}
use Rattle.planner.proofs.UpdatedPlan.{changed, accepted_by, live_over_full, live_with_room}
use Rattle.planner.proofs.Liveness.{by_update, live_stays}

-- rows that are scanned: what is found, and so what is answered and shown
module _ (capacity : ℕ) (rows : List Row) (c : Option Row) (e : conflict_in capacity rows ≡ c) where
  scan_shown : answer_of c ≡ Ok Overloaded → FirstShown capacity rows (shown_row c)
  scan_shown = go c e
    where
      go : (c : Option Row) → conflict_in capacity rows ≡ c → answer_of c ≡ Ok Overloaded → FirstShown capacity rows (shown_row c)
      go (Some r) e f = record { row = r; is = refl; first = conflict_row capacity rows r e }
      go None e f = absurd (cc)

  scan_none : answer_of c ≡ Ok Fits → NoneOver capacity rows
  scan_none = go c e
    where
      go : (c : Option Row) → conflict_in capacity rows ≡ c → answer_of c ≡ Ok Fits → NoneOver capacity rows
      go (Some r) e f = absurd (cc)
      go None e f = conflict_none_over capacity rows e

-- the ways of a call
live_shown : (capacity : ℕ) (ts : List Task) (rows : List Row) → ShowsFirst (live_plan capacity ts rows)
live_shown capacity ts rows =
    record {
      live = λ e live. rw (rows_of_lem rows) (scan_shown capacity rows (conflict_in capacity rows) refl e);
      stale = λ e stale. absurd (true≢false stale);
      none = λ e. rw (rows_of_lem rows) (scan_none capacity rows (conflict_in capacity rows) refl e);
    }

swept_shown : (capacity : ℕ) (ts : List Task) → ShowsFirst (swept_plan capacity ts)
swept_shown capacity ts = go (conflict_in capacity (sweep ts)) refl
  where
    go : (c : Option Row) → conflict_in capacity (sweep ts) ≡ c
        → ShowsFirst (record {
          answer = answer_of c;
          row = shown_row c;
          plan = record { capacity = capacity; tasks = tasks_with ts; live = is_none c; table = table_of (cond (is_some c) [] (sweep ts)) };
        })
    go (Some r) e =
        record {
          live = λ f live. absurd (false≢true live);
          stale = λ f stale. rw (tasks_of_lem ts) (scan_shown capacity (sweep ts) (Some r) e f);
          none = λ f. absurd (cc);
        }
    go None e =
        record {
          live = λ f live. absurd (cc);
          stale = λ f stale. absurd (true≢false stale);
          none = λ f. rw (rows_of_lem (sweep ts)) (scan_none capacity (sweep ts) None e f);
        }

refused_shown : (plan : Plan) (why : Refusal) → ShowsFirst (refused_update plan why)
refused_shown plan why =
    record {
      live = λ e live. absurd (false≢true (ap is_ok e));
      stale = λ e stale. absurd (false≢true (ap is_ok e));
      none = λ e. absurd (false≢true (ap is_ok e));
    }

load_shown : (plan : Plan) (jobs : Jobs) (capacity : ℤ) → ShowsFirst (outcome plan (load jobs capacity))
unfolding accepted_load
load_shown plan jobs capacity = go (load_checked jobs capacity) refl
  where
    go : (r : Result ⊤ Refusal) → load_checked jobs capacity ≡ r → ShowsFirst (outcome plan (load jobs capacity))
    go (Ok _) e = subst ShowsFirst (sym (ap without_places (load_by plan jobs capacity (Ok tt) e))) (swept_shown (amount capacity) _)
    go (Err why) e = subst ShowsFirst (sym (ap without_places (load_by plan jobs capacity (Err why) e))) (refused_shown plan why)

accepted_shown : (plan : Plan) (i e l : ℕ) → ShowsFirst (accepted_update plan i e l)
accepted_shown plan i e l =
    ⊎_elim
    (λ live. ⊎_elim
    (λ full. subst ShowsFirst (sym (accepted_by plan i e l live ∙ live_over_full plan i e l full)) (refused_shown plan _))
    (λ room. subst ShowsFirst (sym (accepted_by plan i e l live ∙ live_with_room plan i e l room)) (live_shown plan.capacity (set (tasks_of plan.tasks) i (changed plan i e l)) _))
    (by_test _))
    (λ stale. subst ShowsFirst (sym (accepted_by plan i e l stale)) (swept_shown plan.capacity _))
    (by_test plan.live)

-- after any call of any plan
pub shown_first : (plan : Plan) (c : Call) → ShowsFirst (outcome plan c)
shown_first plan (load jobs capacity) = load_shown plan jobs capacity
shown_first plan (update id earliest latest) =
    by_update plan id earliest latest ShowsFirst (refused_shown plan) (accepted_shown plan (amount id) (tick earliest) (tick latest))

-- an update of a live plan, which stays live
module _ (plan : Plan) (id earliest latest : ℤ) (live : plan.live ≡ true) where
  pub shown_update : (updated plan id earliest latest).answer ≡ Ok Overloaded
      → FirstShown (updated plan id earliest latest).plan.capacity (rows_of (updated plan id earliest latest).plan.table) (updated plan id earliest latest).row
  shown_update e = (shown_first plan (update id earliest latest)).live e (live_stays plan id earliest latest live)
