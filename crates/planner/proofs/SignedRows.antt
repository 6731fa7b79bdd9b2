-- Rows that are right for a plan's tasks are, as records, what demand 3 says in signed instants, and the first row that is too high starts at the
-- first instant that exceeds the capacity: instants are in the order of their ticks.
-- Assumes nothing.
use Rattle.std.specs.Prelude.{Some, None}
use mathlib.Core.Path.{◌≡◌, refl, sym, ap, ◌∙◌}
use mathlib.Core.Bool.{true, false, true≢false}
use mathlib.Core.Logic.{⊎_elim}
use mathlib.Core.List.{List, map}
use Prim.Native.Nat.{ℕ, ◌<◌}
use native.Mathlib.Omega.{arith}
use borrow.Author.Tests.{lt-ltb, ltb-true, le-leb, leb-true}
use lib.IntN.{ℤ}
use lib.ListN.{length, length-map}
use lib.Signed.{le_z}
use Rattle.time_table.specs.declared.Row.{Row}
use Rattle.time_table.specs.Rows.{no_row, row_at}
use Rattle.time_table.specs.Order.{ticks}
use Rattle.time_table.specs.Overload.{conflict_in}
use Rattle.time_table.specs.Meaning.{bit, occurs, height_at, Right}
use Rattle.time_table.specs.Demand as Ticks
use Rattle.time_table.specs.Demand.{draw_at}
use Rattle.time_table.proofs.Demanded.{demanded, height_drawn}
use Rattle.time_table.proofs.Overloaded.{conflict_fits, conflict_first}
use Rattle.time_table.proofs.Sums.{lt_or_le}
use Rattle.sweep.specs.declared.Tasks.{Tasks}
use Rattle.sweep.specs.Tasks.{tasks_of, usage_of, runs}
use Rattle.sweep.proofs.Placed.{get_map}
use Rattle.planner.specs.declared.Job.{Job}
use Rattle.planner.specs.declared.RowRecord.{RowRecord}
use Rattle.planner.specs.Instants.{instant, amount}
use Rattle.planner.specs.Records.{record_of, ids_of, no_record}
use Rattle.planner.specs.Loads.{task_of}
use Rattle.planner.specs.Sound.{SoundTasks}
use Rattle.planner.specs.Running.{must_run}
use Rattle.planner.specs.History.{Heard, job_at, Told}
use Rattle.planner.specs.Demand.{drawn_at, ExceedsAt, Exceeds, FirstExceeds, record_at, In, RowOf, Demanded}
use Rattle.planner.proofs.Ticks.{instant_order, instant_strict}
use Rattle.planner.proofs.RunInTicks.{AtTick, below, placed}
use Rattle.planner.proofs.Limits.{sound_few}
use Rattle.planner.proofs.SignedDraws.{AllNumbers, running_at, running_get, running_past, runs_signed, draw_signed, runs_below, draw_below}
use Rattle.planner.proofs.ById.{ById, drawn_kept}

module _ (h : Heard) (jobs : List Job) (by_id : ById h jobs) (ts : Tasks) (sound : SoundTasks ts) (same : tasks_of ts ≡ map task_of jobs) (nums : AllNumbers jobs)
    (rows : List Row) (right : Right (runs (tasks_of ts)) (usage_of (tasks_of ts)) rows) where
  pub counts : ts.count ≡ length jobs
  counts = sound.held.counts ∙ ap length same ∙ length-map jobs task_of

  drawn_tick : (s : ℕ) → drawn_at h.jobs (instant s) ≡ draw_at (runs (tasks_of ts)) (usage_of (tasks_of ts)) ts.count s
  drawn_tick s = drawn_kept h jobs by_id (instant s) ∙ draw_signed jobs nums s ∙ rw (same, counts) refl

  run_tick : (i s : ℕ) → running_at jobs i (instant s) ≡ runs (tasks_of ts) i s
  run_tick i s = runs_signed jobs nums i s ∙ rw same refl

  -- a job that was told the id i is the kept job i
  run_told : (p i : ℕ) → Told h p i → (t : ℤ) → running_at jobs i t ≡ must_run (job_at h p) t
  run_told p i told t = let w = by_id.at p i told in running_get jobs i t w.0 ∙ ap (λ (j : Job). must_run j t) w.1

  pub height_signed : (s : ℕ) → height_at s rows ≡ drawn_at h.jobs (instant s)
  height_signed s = height_drawn (runs (tasks_of ts)) (usage_of (tasks_of ts)) ts.count rows right (sound_few ts sound) s ∙ sym (drawn_tick s)

  -- what exceeds, exceeds at a tick
  exceeds_tick : (t : ℤ) → ExceedsAt h t → AtTick t
  exceeds_tick t over = ⊎_elim (λ w. w) (λ low. absurd (omega (arith, drawn_kept h jobs by_id t, draw_below t low jobs nums, over))) (placed t)

  module _ (capacity : ℕ) (cap : capacity ≡ amount h.capacity) where
    pub found_first : (r : Row) → conflict_in capacity rows ≡ Some r → FirstExceeds h (instant r.start)
    found_first r e =
        let w = conflict_first capacity ticks 0 rows right.ordered r e in
        record {
          there = omega (arith, w.high, w.height, height_signed r.start, cap);
          before = λ s less over.
              let a = exceeds_tick s over in
              let lt : a.at < r.start = ltb-true _ _ (sym (instant_strict a.at r.start) ∙ rw a.is at less) in
              let low = w.before a.at lt in
              omega (arith, low, height_signed a.at, cap, rw a.is at over);
        }

    pub none_exceeds : conflict_in capacity rows ≡ None → ¬ Exceeds h
    none_exceeds none e =
        let a = exceeds_tick e.instant e.there in
        omega (arith, conflict_fits capacity ticks 0 rows right.ordered none a.at, height_signed a.at, cap, rw a.is at e.there)

  -- the rows as records
  record_at_lem : (k : ℕ) → k < length rows → record_at (map record_of rows) k ≡ record_of (row_at rows k)
  record_at_lem k lt = get_map record_of no_row no_record rows k lt

  within : {k : ℕ} → k < length (map record_of rows) → k < length rows
  within lt = rw length-map at lt

  -- an instant in a record is at a tick, and the tick is in the row
  record InTick (k : ℕ) (t : ℤ) : Type 0 where
    one_of : k < length rows
    tick : AtTick t
    there : Ticks.In rows k tick.at

  in_tick : (k : ℕ) (t : ℤ) → In (map record_of rows) k t → InTick k t
  in_tick k t w =
      let lt : k < length rows = within w.one_of in
      let r = row_at rows k in
      let from : le_z (instant r.start) t ≡ true = ap (λ (x : RowRecord). le_z x.start t) (sym (record_at_lem k lt)) ∙ w.from in
      let to : le_z t (instant r.end) ≡ true = ap (λ (x : RowRecord). le_z t x.end) (sym (record_at_lem k lt)) ∙ w.to in
      let a : AtTick t = ⊎_elim (λ a. a) (λ low. absurd (true≢false (sym from ∙ below t r.start low))) (placed t) in
      record {
        one_of = lt;
        tick = a;
        there =
            record {
              one_of = lt;
              from = leb-true r.start a.at (sym (instant_order r.start a.at) ∙ ap (λ (z : ℤ). le_z (instant r.start) z) (sym a.is) ∙ from);
              to = leb-true a.at r.end (sym (instant_order a.at r.end) ∙ ap (λ (z : ℤ). le_z z (instant r.end)) (sym a.is) ∙ to);
            };
      }

  row_signed : (t : ℤ) (a : AtTick t) → Ticks.RowOf rows a.at → RowOf (map record_of rows) t
  row_signed t a w =
      let k = w.place in
      let lt = w.there.one_of in
      let r = row_at rows k in
      record {
        place = k;
        there =
            record {
              one_of = rw length-map lt;
              from = ap (λ (x : RowRecord). le_z x.start t) (record_at_lem k lt) ∙ rw a.is (instant_order r.start a.at ∙ le-leb r.start a.at w.there.from);
              to = ap (λ (x : RowRecord). le_z t x.end) (record_at_lem k lt) ∙ rw a.is (instant_order a.at r.end ∙ le-leb a.at r.end w.there.to);
            };
      }

  -- what runs at an instant is a job that was told an id
  none_runs : (t : ℤ) → ((p i : ℕ) → Told h p i → must_run (job_at h p) t ≡ false) → (i : ℕ) → running_at jobs i t ≡ false
  none_runs t none i =
      ⊎_elim
      (λ lt. let w = by_id.from i lt in run_told w.place i w.told t ∙ none w.place i w.told)
      (λ le. running_past jobs i t le)
      (lt_or_le i (length jobs))

  pub demanded_signed : Demanded h (map record_of rows)
  demanded_signed =
      let d = demanded (runs (tasks_of ts)) (usage_of (tasks_of ts)) ts.count rows right (sound_few ts sound) in
      record {
        sorted = λ j k lt inside.
            let in-k : k < length rows = within inside in
            let in-j : j < length rows = omega arith in
            rw (record_at_lem j in-j, record_at_lem k in-k) (instant_strict (row_at rows j).end (row_at rows k).start ∙ lt-ltb _ _ (d.sorted j k lt in-k));
        proper = λ k inside.
            let in-k : k < length rows = within inside in
            rw (record_at_lem k in-k) (instant_order (row_at rows k).start (row_at rows k).end ∙ le-leb _ _ (d.proper k in-k));
        lists = λ k t p i w told.
            let v = in_tick k t w in
            ap (λ (x : RowRecord). occurs i (ids_of x)) (record_at_lem k v.one_of) ∙ d.lists k v.tick.at i v.there
            ∙ ap bit (sym (run_tick i v.tick.at) ∙ ap (running_at jobs i) (sym v.tick.is) ∙ run_told p i told t);
        only = λ k i inside listed.
            let in-k : k < length rows = within inside in
            let here : Ticks.In rows k (row_at rows k).start = record { one_of = in-k; from = omega arith; to = d.proper k in-k } in
            ⊎_elim
            (λ lt. by_id.from i lt)
            (λ le. absurd (omega (
              arith,
              listed,
              ap (λ (x : RowRecord). occurs i (ids_of x)) (record_at_lem k in-k),
              d.lists k (row_at rows k).start i here,
              ap bit (sym (run_tick i (row_at rows k).start) ∙ running_past jobs i (instant (row_at rows k).start) le),
            )))
            (lt_or_le i (length jobs));
        sums = λ k t w.
            let v = in_tick k t w in
            ap (λ (x : RowRecord). x.height) (record_at_lem k v.one_of) ∙ d.sums k v.tick.at v.there ∙ sym (drawn_tick v.tick.at)
            ∙ ap (drawn_at h.jobs) (sym v.tick.is);
        covered = λ t p i told must.
            let e = run_told p i told t ∙ must in
            ⊎_elim
            (λ a. row_signed t a (d.covered a.at i (sym (run_tick i a.at) ∙ ap (running_at jobs i) (sym a.is) ∙ e)))
            (λ low. absurd (true≢false (sym e ∙ runs_below t low jobs nums i)))
            (placed t);
        bare = λ t none w.
            let v = in_tick w.place t w.there in
            d.bare v.tick.at (λ i. sym (run_tick i v.tick.at) ∙ ap (running_at jobs i) (sym v.tick.is) ∙ none_runs t none i) (record { place = w.place; there = v.there });
      }
