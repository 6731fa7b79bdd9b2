-- An accepted call, swept or live: the plan agrees with what is heard, and the answer is right for it.
-- Assumes nothing.
use Rattle.std.specs.Prelude.{Option, Some, None, is_some, is_none, Ok, Err, is_ok, IsOk}
use mathlib.Core.Path.{◌≡◌, refl, ◌∙◌}
use mathlib.Core.Bool.{Bool, true, false, cond, false≢true}
use mathlib.Core.Logic.{◌↔◌}
use mathlib.Core.List.{List, [], map}
use Prim.Native.Nat.{ℕ, ◌≤◌}
use lib.ListN.{length}
use lib.Seq.{take_at}
use Rattle.time_table.specs.declared.Row.{Row}
use Rattle.time_table.specs.Rows.{rows_of, table_of}
use Rattle.time_table.specs.Meaning.{Right}
use Rattle.time_table.specs.Overload.{conflict_in}
use Rattle.time_table.proofs.TableOfRows.{rows_of_lem, clean_of}
use Rattle.sweep.specs.declared.Task.{Task}
use Rattle.sweep.specs.Tasks.{tasks_of, tasks_with, usage_of, runs}
use Rattle.sweep.specs.Sweep.{sweep}
use Rattle.sweep.proofs.Right.{sweep_right}
use Rattle.planner.specs.declared.Job.{Job}
use Rattle.planner.specs.declared.Plan.{Plan}
use Rattle.planner.specs.declared.Refusal.TheVariants.{Stale}
use Rattle.planner.specs.declared.Answer.TheVariants.{Overloaded}
use Rattle.planner.specs.declared.Updated.{Updated}
use Rattle.planner.specs.Ranges.{max_capacity}
use Rattle.planner.specs.Instants.{instant, amount}
use Rattle.planner.specs.Loads.{task_of}
use Rattle.planner.specs.Records.{record_of}
use Rattle.planner.specs.Questions.{rows_with, rows_shown, shown_rows}
use Rattle.planner.specs.Sound.{SoundTasks, Sound}
use Rattle.planner.specs.Answers.{fresh_plan, answer_of, shown_row, live_plan, swept_plan}
use Rattle.planner.specs.History.{Heard, nothing}
use Rattle.planner.specs.Demand.{Exceeds, FirstExceeds, Demanded, Answered}
use Rattle.planner.proofs.Known.{tasks_of_lem}
use Rattle.planner.proofs.Limits.{sound_sweepable}
use Rattle.planner.proofs.AnswerAndPlan.{live_sound, swept_sound}
use Rattle.planner.proofs.Fresh.{fresh_sound}
use Rattle.planner.proofs.SignedDraws.{AllNumbers}
use Rattle.planner.proofs.ById.{ById, nothing_by_id}
use Rattle.planner.proofs.SignedRows.{found_first, none_exceeds, demanded_signed}

-- what is heard agrees with the plan
pub record Agrees (h : Heard) (plan : Plan) : Type 0 where
  pub sound : Sound plan
  pub capacity : plan.capacity ≡ amount h.capacity
  pub kept : List Job
  pub by_id : ById h kept
  pub tasks : tasks_of plan.tasks ≡ map task_of kept
  pub numbers : AllNumbers kept

pub fresh_agrees : Agrees nothing fresh_plan
unfolding AllNumbers amount
fresh_agrees = record { sound = fresh_sound; capacity = refl; kept = []; by_id = nothing_by_id; tasks = refl; numbers = tt }

-- what a scan answers is no refusal
answer_accepted : (c : Option Row) → is_ok (answer_of c) ≡ true
answer_accepted (Some r) = refl
answer_accepted None = refl

-- the rows that a question gets are those of the table, if it is live, and else refused
pub rows_live : (plan : Plan) → IsOk (rows_shown plan) → plan.live ≡ true
unfolding rows_shown
rows_live plan taken = go plan.live refl taken
  where
    go : (live : Bool) → plan.live ≡ live → IsOk (cond live (Ok (rows_with (map record_of (rows_of plan.table)))) (Err Stale)) → plan.live ≡ true
    go true live taken = live
    go false stale taken = absurd (false≢true taken)

pub shown_demanded : (h : Heard) (plan : Plan) → (plan.live ≡ true → Demanded h (map record_of (rows_of plan.table))) → IsOk (rows_shown plan)
    → Demanded h (shown_rows (rows_shown plan))
unfolding rows_shown
shown_demanded h plan demanded taken =
    let live = rows_live plan taken in
    rw (live, take_at (map record_of (rows_of plan.table)) _ (length (map record_of (rows_of plan.table))) refl) (demanded live)

-- an accepted call: the plan agrees with what is heard then, and the answer is right
pub record Good (h : Heard) (o : Updated) : Type 0 where
  pub taken : is_ok o.answer ≡ true
  pub agrees : Agrees h o.plan
  pub answered : Answered h o

-- rows that are right for tasks that agree
module _ (h : Heard) (jobs : List Job) (by_id : ById h jobs) (ts : List Task) (sound : SoundTasks (tasks_with ts)) (same : ts ≡ map task_of jobs) (nums : AllNumbers jobs)
    (capacity : ℕ) (small : capacity ≤ max_capacity) (cap : capacity ≡ amount h.capacity) where
  heard_tasks : tasks_of (tasks_with ts) ≡ map task_of jobs
  heard_tasks = tasks_of_lem ts ∙ same

  module _ (rows : List Row) (right : Right (runs ts) (usage_of ts) rows) where
    right_tasks : Right (runs (tasks_of (tasks_with ts))) (usage_of (tasks_of (tasks_with ts))) rows
    right_tasks = rw (tasks_of_lem ts) right

    over_exactly : (answer_of (conflict_in capacity rows) ≡ Ok Overloaded) ↔ Exceeds h
    over_exactly = go (conflict_in capacity rows) refl
      where
        go : (c : Option Row) → conflict_in capacity rows ≡ c → (answer_of c ≡ Ok Overloaded) ↔ Exceeds h
        go (Some r) e = (
          λ f. record { instant = instant r.start; there = (found_first h jobs by_id (tasks_with ts) sound heard_tasks nums rows right_tasks capacity cap r e).there },
          λ x. refl,
        )
        go None e = (λ f. absurd (cc), λ x. absurd (none_exceeds h jobs by_id (tasks_with ts) sound heard_tasks nums rows right_tasks capacity cap e x))

    over_first : answer_of (conflict_in capacity rows) ≡ Ok Overloaded → FirstExceeds h (shown_row (conflict_in capacity rows)).start
    over_first = go (conflict_in capacity rows) refl
      where
        go : (c : Option Row) → conflict_in capacity rows ≡ c → answer_of c ≡ Ok Overloaded → FirstExceeds h (shown_row c).start
        go (Some r) e f = found_first h jobs by_id (tasks_with ts) sound heard_tasks nums rows right_tasks capacity cap r e
        go None e f = absurd (cc)

    rows_demanded : Demanded h (map record_of rows)
    rows_demanded = demanded_signed h jobs by_id (tasks_with ts) sound heard_tasks nums rows right_tasks

    -- a live table with these rows
    pub live_good : length rows ≤ 128 → Good h (live_plan capacity ts rows)
    live_good few =
        record {
          taken = answer_accepted (conflict_in capacity rows);
          agrees =
              record {
                sound = live_sound capacity (tasks_with ts) (table_of rows) sound (record { clean = clean_of rows few; right = rw (rows_of_lem rows) right_tasks }) small;
                capacity = cap;
                kept = jobs;
                by_id = by_id;
                tasks = heard_tasks;
                numbers = nums;
              };
          answered =
              record {
                identified = by_id.identified;
                overloaded = over_exactly;
                first = over_first;
                rows = shown_demanded h _ (λ live. rw (rows_of_lem rows) rows_demanded);
              };
        }

  -- the tasks swept
  few : length ts ≤ 32
  few = sound.held.fits

  sweep_is_right : Right (runs ts) (usage_of ts) (sweep ts)
  sweep_is_right = sweep_right ts few (λ i. rw (tasks_of_lem ts) at ((sound_sweepable (tasks_with ts) sound).ends i))

  -- where the table is live, it has the sweep's rows
  live_rows : (c : Option Row) → is_none c ≡ true → rows_of (table_of (cond (is_some c) [] (sweep ts))) ≡ sweep ts
  live_rows (Some r) e = absurd (false≢true e)
  live_rows None e = rows_of_lem (sweep ts)

  pub swept_good : Good h (swept_plan capacity ts)
  swept_good =
      record {
        taken = answer_accepted (conflict_in capacity (sweep ts));
        agrees = record { sound = swept_sound capacity ts sound small; capacity = cap; kept = jobs; by_id = by_id; tasks = heard_tasks; numbers = nums };
        answered =
            record {
              identified = by_id.identified;
              overloaded = over_exactly (sweep ts) sweep_is_right;
              first = over_first (sweep ts) sweep_is_right;
              rows = shown_demanded h _ (λ e. rw (live_rows (conflict_in capacity (sweep ts)) e) (rows_demanded (sweep ts) sweep_is_right));
            };
      }
