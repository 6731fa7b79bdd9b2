-- `live_update` meets its contract: the table is edited from the task's old part to its new one, and where it is full the plan is as it was.
-- Assumes nothing.
use Rattle.std.specs.Prelude.{Option, Some, None, Result, Ok, Err}
use mathlib.Core.Path.{◌≡◌, sym, ap, ◌∙◌}
use mathlib.Core.Bool.{true}
use Prim.Native.Nat.{ℕ, ◌<◌}
use lib.ListN.{get_or, set}
use Rattle.time_table.specs.declared.Part.{Part}
use Rattle.time_table.specs.declared.Row.{Row}
use Rattle.time_table.specs.declared.Table.{Table}
use Rattle.time_table.specs.declared.TooManyRows.{TooManyRows}
use Rattle.time_table.specs.Rows.{rows_of, Clean}
use Rattle.time_table.specs.Overload.{conflict_in}
use Rattle.time_table.specs.Update.{updated, Updatable}
use Rattle.sweep.specs.declared.Task.{Task}
use Rattle.sweep.specs.declared.Tasks.{Tasks}
use Rattle.sweep.specs.Tasks.{no_task, tasks_of, task_at, part_of}
use Rattle.planner.specs.declared.Plan.{Plan}
use Rattle.planner.specs.declared.Bounds.{Bounds}
use Rattle.planner.specs.declared.RowRecord.{RowRecord}
use Rattle.planner.specs.declared.Updated.{Updated}
use Rattle.planner.specs.declared.Refusal.TheVariants as Refusal
use Rattle.planner.specs.Ranges.{last_end}
use Rattle.planner.specs.Records.{no_record}
use Rattle.planner.specs.Answers.{answer_of, shown_row}
use Rattle.planner.specs.Sound.{Sound}
use Rattle.planner.specs.Updates.{bounded, accepted_update}
use Rattle.planner.proofs.AnswerAndPlan.{live_sound, shown_low, live_is}
use Rattle.planner.proofs.UpdatedPlan.{read_is, updatable, stored, stored_sound, edit_full, edit_live, edit_whole}
use Rattle.planner.proofs.update.live_update.Goals as goal
use Rattle.planner.proofs.update.live_update.Goals.{After-update_time_table-edited}

-- what an edit that has room leaves: k in the place of the task i, and the table t
record Edited (plan : Plan) (i : ℕ) (b : Bounds) (k : Task) (t : Table) : Type 0 where
  clean : Clean t
  kept : Sound (record { capacity = plan.capacity; tasks = record { list = set plan.tasks.list i k; count = plan.tasks.count }; live = plan.live; table = t })
  low : (c : Option Row) → c ≡ conflict_in plan.capacity (rows_of t) → (r : Row) → c ≡ Some r → (r.start < last_end) × (r.end < last_end)
  value : (c : Option Row) → c ≡ conflict_in plan.capacity (rows_of t) → (r : RowRecord) → r ≡ shown_row c
      → ◌≡◌ {A = Updated}
      (record {
        plan = record { table = t; tasks = record { list = set plan.tasks.list i k; count = plan.tasks.count }; capacity = plan.capacity; live = plan.live };
        answer = answer_of c;
        row = r;
      })
      (accepted_update plan i b.earliest b.latest)

-- what an edit that has no room leaves, with the table t: the plan as it was
record Full (plan : Plan) (i : ℕ) (b : Bounds) (t : Table) : Type 0 where
  same : record { table = t; tasks = plan.tasks; capacity = plan.capacity; live = plan.live } ≡ plan
  value : (r : RowRecord) → r ≡ no_record
      → ◌≡◌ {A = Updated}
      (record { plan = record { table = t; tasks = plan.tasks; capacity = plan.capacity; live = plan.live }; answer = Err Refusal.TooManyRows; row = r })
      (accepted_update plan i b.earliest b.latest)

-- the task as it is to be, and its two parts, as the code has them
module _ (plan : Plan) (s : Sound plan) (i : ℕ) (b : Bounds) (lt : i < plan.tasks.count) (k : Task) (told : k ≡ bounded (get_or plan.tasks.list i no_task) b.earliest b.latest) where
  new_is : k ≡ bounded (task_at (tasks_of plan.tasks) i) b.earliest b.latest
  new_is = rw (read_is plan s i b.earliest b.latest lt b.ordered b.low) at told

  module _ (was will : Part) (was_told : was ≡ part_of i (get_or plan.tasks.list i no_task)) (will_told : will ≡ part_of i k) where
    old_part : was ≡ part_of i (task_at (tasks_of plan.tasks) i)
    old_part = was_told ∙ ap (part_of i) (read_is plan s i b.earliest b.latest lt b.ordered b.low)

    new_part : will ≡ part_of i (bounded (task_at (tasks_of plan.tasks) i) b.earliest b.latest)
    new_part = will_told ∙ ap (part_of i) new_is

    can : plan.live ≡ true → Updatable was will plan.table
    can live = rw (old_part, new_part) (updatable plan s i b.earliest b.latest lt b.ordered b.low live)

    edit : {r : Result Table TooManyRows} → updated was will plan.table ≡ r
        → updated (part_of i (task_at (tasks_of plan.tasks) i)) (part_of i (bounded (task_at (tasks_of plan.tasks) i) b.earliest b.latest)) plan.table ≡ r
    edit edited = (λ j. updated (sym old_part j) (sym new_part j) plan.table) ∙ edited

    -- an edit that has room
    module _ (t : Table) (edited : updated was will plan.table ≡ Ok t) (live : plan.live ≡ true) where
      abbrev tasks : Tasks
      tasks = stored plan s i b.earliest b.latest lt b.ordered b.low k new_is

      done : Edited plan i b k t
      done =
          let is = edit edited in
          let sound = stored_sound plan s i b.earliest b.latest lt b.ordered b.low k new_is in
          let right = edit_live plan s i b.earliest b.latest lt b.ordered b.low k new_is live t is in
          let whole = edit_whole plan s i b.earliest b.latest lt b.ordered b.low k new_is live t is in
          record {
            clean = right.clean;
            kept = rw live (live_sound plan.capacity _ t sound right s.capacity);
            low = shown_low plan.capacity _ t sound right s.capacity;
            value = λ c e r g.
                (λ j. record { plan = record { table = t; tasks = tasks; capacity = plan.capacity; live = live j }; answer = answer_of c; row = r })
                ∙ live_is plan.capacity _ t sound right s.capacity c e r g ∙ whole;
          }

    -- an edit that has no room
    full : (t : Table) (why : TooManyRows) → (updated was will plan.table ≡ Err why) × (t ≡ plan.table) → plan.live ≡ true → Full plan i b t
    full t why edited live =
        let same : record { table = t; tasks = plan.tasks; capacity = plan.capacity; live = plan.live } ≡ plan =
        λ j. record { table = edited.1 j; tasks = plan.tasks; capacity = plan.capacity; live = plan.live } in
        let refused = edit_full plan s i b.earliest b.latest lt b.ordered b.low k new_is live why (edit edited.0) in
        record {
          same = same;
          value = λ r n. (λ j. record { plan = same j; answer = Err Refusal.TooManyRows; row = n j }) ∙ refused;
        }

pub update_time_table-edited-requires : goal.update_time_table-edited-requires
update_time_table-edited-requires c =
    let q = c.requires in
    can c.args.plan.now c.requires.0 c.args.id c.args.bounds q.2 c.rebounded-new.result c.rebounded-new.ensures
    c.mandatory_part.result c.mandatory_part-2.result c.mandatory_part.ensures c.mandatory_part-2.ensures q.1

-- the edit at the code's place behind it, where it has room
roomy : (c : After-update_time_table-edited)
    → updated c.mandatory_part.result c.mandatory_part-2.result c.args.plan.now.table ≡ Ok c.update_time_table-edited.new.table
    → Edited c.args.plan.now c.args.id c.args.bounds c.rebounded-new.result c.update_time_table-edited.new.table
roomy c edited =
    let q = c.requires in
    done c.args.plan.now c.requires.0 c.args.id c.args.bounds q.2 c.rebounded-new.result c.rebounded-new.ensures
    c.mandatory_part.result c.mandatory_part-2.result c.mandatory_part.ensures c.mandatory_part-2.ensures c.update_time_table-edited.new.table edited q.1

-- and where it has none
refused : (c : After-update_time_table-edited) (why : TooManyRows)
    → (updated c.mandatory_part.result c.mandatory_part-2.result c.args.plan.now.table ≡ Err why) × (c.update_time_table-edited.new.table ≡ c.args.plan.now.table)
    → Full c.args.plan.now c.args.id c.args.bounds c.update_time_table-edited.new.table
refused c why edited =
    let q = c.requires in
    full c.args.plan.now c.requires.0 c.args.id c.args.bounds q.2 c.rebounded-new.result c.rebounded-new.ensures
    c.mandatory_part.result c.mandatory_part-2.result c.mandatory_part.ensures c.mandatory_part-2.ensures c.update_time_table-edited.new.table why edited q.1

pub find_conflicting_profile-requires : goal.find_conflicting_profile-requires
find_conflicting_profile-requires c = (roomy (goal.at.find_conflicting_profile-requires c).After-update_time_table-edited c.in-Ok.ensures).clean

pub record_of-requires : goal.record_of-requires
record_of-requires c =
    (roomy (goal.at.record_of-requires c).After-update_time_table-edited c.in-Ok.ensures).low c.find_conflicting_profile.result c.find_conflicting_profile.ensures c.in-Some.row c.in-Some.is

pub returns-in-Err : goal.returns-in-Err
returns-in-Err c =
    let e = refused (goal.at.returns-in-Err c).After-update_time_table-edited c.in-Err.field-0 c.in-Err.ensures in
    record { value = e.value c.no_record.result c.no_record.ensures; sound = rw e.same c.requires.0 }

pub returns-in-None : goal.returns-in-None
returns-in-None c =
    let e = roomy (goal.at.returns-in-None c).After-update_time_table-edited c.in-Ok.ensures in
    record { value = e.value None c.in-None.ensures c.no_record-in-None.result c.no_record-in-None.ensures; sound = e.kept }

pub returns-in-Some : goal.returns-in-Some
returns-in-Some c =
    let e = roomy (goal.at.returns-in-Some c).After-update_time_table-edited c.in-Ok.ensures in
    record { value = e.value (Some c.in-Some.row) c.in-Some.ensures c.record_of.result c.record_of.ensures; sound = e.kept }
