-- An update of a sound plan: the task with its new bounds is within the limits, and a live table that is right for the old part becomes one
-- that is right for the new part.
-- Assumes nothing.
use Rattle.std.specs.Prelude.{Result, Ok, Err, ⊤}
use mathlib.Core.Path.{◌≡◌, refl, sym, ap, ◌∙◌}
use mathlib.Core.Bool.{Bool, true, false, cond}
use mathlib.Core.List.{List}
use Prim.Native.Nat.{ℕ, ◌≤◌, ◌<◌}
use native.Mathlib.Omega.{arith}
use lib.IntN.{ℤ}
use lib.ListN.{get_or, set}
use lib.Seq.{get_or-take}
use Rattle.time_table.specs.declared.Row.{Row}
use Rattle.time_table.specs.declared.Table.{Table}
use Rattle.time_table.specs.Rows.{rows_of, table_of}
use Rattle.time_table.specs.Meaning.{Right}
use Rattle.time_table.specs.Update.{update_over, updated_rows, Updatable}
use Rattle.time_table.specs.Table.{verdict}
use Rattle.time_table.specs.Update.{updated as edited}
use Rattle.time_table.specs.declared.TooManyRows.{TooManyRows as Full}
use Rattle.time_table.proofs.Held.{held_set}
use Rattle.time_table.proofs.TableOfRows.{rows_of_lem, clean_of}
use Rattle.time_table.proofs.PartsInTurn.{right_as}
use Rattle.time_table.proofs.AdjustedRight.{moved_self}
use Rattle.time_table.proofs.TableUpdate.{UpdateFits, update_fits, updated_right}
use Rattle.sweep.specs.declared.Task.{Task}
use Rattle.sweep.specs.declared.Tasks.{Tasks}
use Rattle.sweep.specs.Tasks.{no_task, tasks_of, tasks_with, task_at, usage_of, part_of, in_part, runs}
use Rattle.planner.specs.declared.Refusal.{Refusal}
use Rattle.planner.specs.declared.Plan.{Plan}
use Rattle.planner.specs.declared.Refusal.TheVariants.{UnknownTask, TooManyRows}
use Rattle.planner.specs.Ranges.{last_start}
use Rattle.planner.specs.Sound.{Limited, SoundTasks, Live, Sound}
use Rattle.planner.specs.Checks.{unless, ◌then◌, bounds_checked}
use Rattle.planner.specs.Answers.{live_plan, refused_update}
use Rattle.planner.specs.Updates.{known, update_checked, bounded, live_update, stale_update, accepted_update, updated_by, updated}
use Rattle.planner.proofs.Limits.{ends, sound_within, replaced_sound, replaced_runs, replaced_usage}
use Rattle.planner.proofs.Known.{tasks_of_lem}

module _ (plan : Plan) (s : Sound plan) (i e l : ℕ) (lt : i < plan.tasks.count) (order : e ≤ l) (top : l ≤ last_start) where
  abbrev old : Task
  old = task_at (tasks_of plan.tasks) i

  abbrev new : Task
  new = bounded old e l

  -- the code's read of the task
  pub read_is : get_or plan.tasks.list i no_task ≡ old
  read_is = sym (get_or-take plan.tasks.count plan.tasks.list i no_task lt)

  new_limited : Limited new
  new_limited =
      let k = s.tasks.limited i lt in
      record { ordered = order; bound = top; long = k.long; duration = k.duration; draws = k.draws; usage = k.usage }

  pub new_sound : SoundTasks (tasks_with (set (tasks_of plan.tasks) i new))
  new_sound = replaced_sound plan.tasks s.tasks i lt new new_limited

  pub updatable : plan.live ≡ true → Updatable (part_of i old) (part_of i new) plan.table
  updatable live =
      let k = s.tasks.limited i lt in
      let v = s.live live in
      record {
        runs = runs (tasks_of plan.tasks);
        usage = usage_of (tasks_of plan.tasks);
        clean = v.clean;
        right = right_as (runs (tasks_of plan.tasks)) _ _ (rows_of plan.table) (moved_self i (runs (tasks_of plan.tasks)) (in_part old) (λ t. refl)) v.right;
        within = sound_within plan.tasks s.tasks;
        task = omega (arith, s.tasks.held.fits);
        draws = k.draws;
        of = refl;
        same = refl;
        equal = refl;
        low = omega (arith, ends plan.tasks s.tasks i);
        high = omega (arith, k, order, top);
      }

  pub new_live : (live : plan.live ≡ true) (t : Table) → UpdateFits (part_of i old) (part_of i new) plan.table t → Live (tasks_with (set (tasks_of plan.tasks) i new)) t
  unfolding updatable
  new_live live t fits =
      let rows = updated_rows (part_of i old) (part_of i new) (rows_of plan.table) in
      let right : Right (runs (set (tasks_of plan.tasks) i new)) (usage_of (set (tasks_of plan.tasks) i new)) rows =
      rw (replaced_runs plan.tasks s.tasks i lt new new_limited, replaced_usage plan.tasks s.tasks i lt new new_limited refl)
      (updated_right (part_of i old) (part_of i new) plan.table (updatable live)) in
      rw fits.is (record { clean = clean_of rows fits.few; right = rw (rows_of_lem rows, (tasks_of_lem _)) right })

-- the cases of an accepted update
module _ (plan : Plan) (i e l : ℕ) where
  abbrev pub changed : Task
  changed = bounded (task_at (tasks_of plan.tasks) i) e l

  pub accepted_by : {live : Bool} → plan.live ≡ live → accepted_update plan i e l ≡ cond live (live_update plan i changed) (stale_update plan i changed)
  unfolding accepted_update
  accepted_by h = ap (λ (b : Bool). cond b (live_update plan i changed) (stale_update plan i changed)) h

  abbrev pub rows_after : List Row
  rows_after = updated_rows (part_of i (task_at (tasks_of plan.tasks) i)) (part_of i changed) (rows_of plan.table)

  pub live_over_full : update_over (part_of i (task_at (tasks_of plan.tasks) i)) (part_of i changed) (rows_of plan.table) ≡ true → live_update plan i changed ≡ refused_update plan TooManyRows
  unfolding live_update
  live_over_full over = ap (λ (b : Bool). cond b (refused_update plan TooManyRows) (live_plan plan.capacity (set (tasks_of plan.tasks) i changed) rows_after)) over

  pub live_with_room : update_over (part_of i (task_at (tasks_of plan.tasks) i)) (part_of i changed) (rows_of plan.table) ≡ false
      → live_update plan i changed ≡ live_plan plan.capacity (set (tasks_of plan.tasks) i changed) rows_after
  unfolding live_update
  live_with_room room = ap (λ (b : Bool). cond b (refused_update plan TooManyRows) (live_plan plan.capacity (set (tasks_of plan.tasks) i changed) rows_after)) room

-- the tasks as the code has them, with k stored in the place of the task i
module _ (plan : Plan) (s : Sound plan) (i e l : ℕ) (lt : i < plan.tasks.count) (order : e ≤ l) (top : l ≤ last_start) (k : Task) (q : k ≡ new plan s i e l lt order top) where
  abbrev pub stored : Tasks
  stored = record { list = set plan.tasks.list i k; count = plan.tasks.count }

  pub stored_is : stored ≡ tasks_with (set (tasks_of plan.tasks) i (new plan s i e l lt order top))
  stored_is =
      let h = held_set s.tasks.held i k lt in
      (λ j. record { list = h.is j; count = h.counts j }) ∙ ap (λ (x : Task). tasks_with (set (tasks_of plan.tasks) i x)) q

  pub stored_sound : SoundTasks stored
  stored_sound = rw stored_is (new_sound plan s i e l lt order top)

  pub stored_tasks : tasks_of stored ≡ set (tasks_of plan.tasks) i (new plan s i e l lt order top)
  stored_tasks = ap tasks_of stored_is ∙ tasks_of_lem _

  -- the answer of an edit of a live table
  module _ (live : plan.live ≡ true) where
    abbrev over : Bool
    over = update_over (part_of i (old plan s i e l lt order top)) (part_of i (new plan s i e l lt order top)) (rows_of plan.table)

    abbrev edit : Result Table Full
    edit = edited (part_of i (old plan s i e l lt order top)) (part_of i (new plan s i e l lt order top)) plan.table

    -- it is full
    pub edit_full : (why : Full) → edit ≡ Err why → refused_update plan TooManyRows ≡ accepted_update plan i e l
    unfolding edited
    edit_full why is = go over refl is
      where
        go : (b : Bool) → over ≡ b → verdict b (rows_after plan i e l) ≡ Err why → refused_update plan TooManyRows ≡ accepted_update plan i e l
        go true full told = sym (accepted_by plan i e l live ∙ live_over_full plan i e l full)
        go false room told = absurd (cc)

    -- or it has room for the rows
    module _ (t : Table) (is : edit ≡ Ok t) where
      room : (over ≡ false) × (t ≡ table_of (rows_after plan i e l))
      unfolding edited
      room = go over refl is
        where
          go : (b : Bool) → over ≡ b → verdict b (rows_after plan i e l) ≡ Ok t → (over ≡ false) × (t ≡ table_of (rows_after plan i e l))
          go true full told = absurd (cc)
          go false room told = (room, cc)

      fits : UpdateFits (part_of i (old plan s i e l lt order top)) (part_of i (new plan s i e l lt order top)) plan.table t
      fits = update_fits _ _ plan.table t (s.live live).clean room.0 room.1

      pub edit_live : Live stored t
      edit_live = rw stored_is (new_live plan s i e l lt order top live t fits)

      pub edit_whole : live_plan plan.capacity (tasks_of stored) (rows_of t) ≡ accepted_update plan i e l
      edit_whole =
          let rows = ap rows_of fits.is ∙ rows_of_lem _ in
          (λ j. live_plan plan.capacity (stored_tasks j) (rows j)) ∙ sym (accepted_by plan i e l live ∙ live_with_room plan i e l room.0)

-- the cases of an update
module _ (plan : Plan) (id earliest latest : ℤ) where
  pub update_unknown : known plan.tasks.count id ≡ false → updated plan id earliest latest ≡ refused_update plan UnknownTask
  unfolding updated update_checked
  update_unknown e = ap (λ (b : Bool). updated_by (unless UnknownTask b then bounds_checked earliest latest) plan id earliest latest) e

  pub update_known : (r : Result ⊤ Refusal) → known plan.tasks.count id ≡ true → bounds_checked earliest latest ≡ r → updated plan id earliest latest ≡ updated_by r plan id earliest latest
  unfolding updated update_checked
  update_known r k e = λ i. updated_by (unless UnknownTask (k i) then e i) plan id earliest latest
