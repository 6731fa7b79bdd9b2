-- A scan and a sweep find the row that the definitions find, so what they found gives the answer, the row and the plan; and a plan whose table is
-- live with right rows, or stale with none, is sound.
-- Assumes nothing.
use Rattle.std.specs.Prelude.{Option, Some, None, is_some, is_none, Ok, Err}
use mathlib.Core.Path.{◌≡◌, refl, sym, ap, ◌∙◌}
use mathlib.Core.Bool.{true, false, cond, true≢false, false≢true}
use mathlib.Core.List.{List, []}
use lib.ListN.{length}
use Rattle.time_table.specs.declared.Row.{Row}
use Prim.Native.Nat.{ℕ, ◌≤◌, ◌<◌}
use native.Mathlib.Omega.{arith}
use Rattle.time_table.specs.declared.Table.{Table}
use Rattle.time_table.specs.Rows.{rows_of, table_of}
use Rattle.time_table.specs.Overload.{conflict_in}
use Rattle.time_table.proofs.TableOfRows.{table_self, rows_of_lem, clean_of}
use Rattle.time_table.proofs.Overloaded.{conflict_row}
use Rattle.time_table.specs.Meaning.{Right}
use Rattle.sweep.specs.declared.Task.{Task}
use Rattle.sweep.specs.declared.Tasks.{Tasks}
use Rattle.sweep.specs.Tasks.{tasks_of, tasks_with, usage_of, runs}
use Rattle.sweep.specs.Sweep.{sweep, swept_by, swept}
use Rattle.sweep.proofs.Right.{sweep_right}
use Rattle.sweep.proofs.SweepRows.{sweep_length}
use Rattle.planner.specs.declared.RowRecord.{RowRecord}
use Rattle.planner.specs.declared.Answer.TheVariants.{Fits, Overloaded}
use Rattle.planner.specs.declared.Plan.{Plan}
use Rattle.planner.specs.Ranges.{max_capacity, last_end}
use Rattle.planner.specs.Records.{record_of, no_record}
use Rattle.planner.specs.Sound.{SoundTasks, Live, Sound}
use Rattle.planner.specs.Answers.{answer_of, shown_row, live_plan, swept_plan}
use Rattle.planner.proofs.Known.{tasks_self, tasks_of_lem}
use Rattle.planner.proofs.Limits.{row_low, sound_sweepable}

module _ (capacity : ℕ) (ts : Tasks) (t : Table) (sound : SoundTasks ts) (live : Live ts t) (small : capacity ≤ max_capacity) where
  abbrev plan : Plan
  plan = record { capacity = capacity; tasks = ts; live = true; table = t }

  pub live_sound : Sound plan
  live_sound = record { tasks = sound; capacity = small; live = λ e. live; stale = λ e. absurd (true≢false e) }

  -- a scan of its rows
  module _ (c : Option Row) (e : c ≡ conflict_in capacity (rows_of t)) where
    -- the row that is shown lies within the instants that a plan can touch
    pub shown_low : (k : Row) → c ≡ Some k → (k.start < last_end) × (k.end < last_end)
    shown_low k f =
        let w = conflict_row capacity (rows_of t) k (sym e ∙ f) in
        rw w.is (row_low ts sound (rows_of t) live.right w.at w.within)

    pub live_is : (r : RowRecord) → r ≡ shown_row c → record { answer = answer_of c; row = r; plan = plan } ≡ live_plan capacity (tasks_of ts) (rows_of t)
    live_is r g =
        λ i. record {
          answer = answer_of (e i);
          row = (g ∙ ap shown_row e) i;
          plan = record { capacity = capacity; tasks = sym (tasks_self ts sound.held) i; live = true; table = sym (table_self t live.clean) i };
        }

-- what a sweep answers, by the first row that is too high
module _ (rows : List Row) where
  swept_some : (c : Option Row) (r : Row) → swept_by c rows ≡ Err r → c ≡ Some r
  swept_some (Some q) r e = cc
  swept_some None r e = cc

  swept_none : (c : Option Row) (t : Table) → swept_by c rows ≡ Ok t → (c ≡ None) × (t ≡ table_of rows)
  swept_none (Some q) t e = absurd (cc)
  swept_none None t e = (refl, cc)

-- tasks that are swept
module _ (capacity : ℕ) (ts : Tasks) (sound : SoundTasks ts) (small : capacity ≤ max_capacity) where
  right : Right (runs (tasks_of ts)) (usage_of (tasks_of ts)) (sweep (tasks_of ts))
  right = sweep_right (tasks_of ts) (omega (arith, sound.held.counts, sound.held.fits)) (sound_sweepable ts sound).ends

  few : length (sweep (tasks_of ts)) ≤ 128
  few = omega (arith, sweep_length (tasks_of ts), sound.held.counts, sound.held.fits)

  pub stale_sound : Sound (record { capacity = capacity; tasks = ts; live = false; table = table_of [] })
  stale_sound = record { tasks = sound; capacity = small; live = λ h. absurd (false≢true h); stale = λ h. refl }

  pub sweep_sound : Sound (record { capacity = capacity; tasks = ts; live = true; table = table_of (sweep (tasks_of ts)) })
  sweep_sound =
      live_sound capacity ts (table_of (sweep (tasks_of ts))) sound (record { clean = clean_of (sweep (tasks_of ts)) few; right = rw (rows_of_lem (sweep (tasks_of ts))) right }) small

  tasks_same : ts ≡ tasks_with (tasks_of ts)
  tasks_same = sym (tasks_self ts sound.held)

  -- overloaded, with the row that is shown
  module _ (k : Row) (e : swept capacity (tasks_of ts) ≡ Err k) where
    found : conflict_in capacity (sweep (tasks_of ts)) ≡ Some k
    found = swept_some (sweep (tasks_of ts)) _ k e

    pub swept_low : (k.start < last_end) × (k.end < last_end)
    swept_low =
        let w = conflict_row capacity (sweep (tasks_of ts)) k found in
        rw w.is (row_low ts sound (sweep (tasks_of ts)) right w.at w.within)

    pub swept_over : (r : RowRecord) → r ≡ record_of k
        → record { answer = Ok Overloaded; row = r; plan = record { capacity = capacity; tasks = ts; live = false; table = table_of [] } } ≡ swept_plan capacity (tasks_of ts)
    swept_over r g =
        rw found (λ i. record { answer = Ok Overloaded; row = g i; plan = record { capacity = capacity; tasks = tasks_same i; live = false; table = table_of [] } })

  -- or fitting, with its table
  module _ (t : Table) (e : swept capacity (tasks_of ts) ≡ Ok t) where
    none : (conflict_in capacity (sweep (tasks_of ts)) ≡ None) × (t ≡ table_of (sweep (tasks_of ts)))
    none = swept_none (sweep (tasks_of ts)) _ t e

    pub swept_fits : (r : RowRecord) → r ≡ no_record
        → record { answer = Ok Fits; row = r; plan = record { capacity = capacity; tasks = ts; live = true; table = t } } ≡ swept_plan capacity (tasks_of ts)
    swept_fits r g =
        rw none.0 (λ i. record { answer = Ok Fits; row = g i; plan = record { capacity = capacity; tasks = tasks_same i; live = true; table = none.1 i } })

    pub swept_live : Sound (record { capacity = capacity; tasks = ts; live = true; table = t })
    swept_live = rw none.1 sweep_sound

-- the plan of tasks that are swept is sound
pub swept_sound : (capacity : ℕ) (ts : List Task) → SoundTasks (tasks_with ts) → capacity ≤ max_capacity → Sound (swept_plan capacity ts).plan
swept_sound capacity ts sound small = go (conflict_in capacity (sweep ts))
  where
    go : (c : Option Row) → Sound (record { capacity = capacity; tasks = tasks_with ts; live = is_none c; table = table_of (cond (is_some c) [] (sweep ts)) })
    go (Some r) = stale_sound capacity (tasks_with ts) sound small
    go None = rw tasks_of_lem at (sweep_sound capacity (tasks_with ts) sound small)
