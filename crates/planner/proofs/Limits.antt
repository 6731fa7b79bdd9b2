-- What tasks within the limits give: they can be swept, a table can hold them, and a row that is right for them lies within the instants that
-- a plan can touch, since at each of its instants some task runs.
-- Assumes nothing.
use mathlib.Core.Path.{◌≡◌, refl, sym, ap, ◌∙◌, subst}
use mathlib.Core.Bool.{true, false, true≢false}
use mathlib.Core.Logic.{⊎_elim}
use mathlib.Core.List.{List}
use Prim.Native.Nat.{ℕ, ◌≤◌, ◌<◌, ◌^◌}
use native.Mathlib.Decide.{ℕ_discrete}
use native.Mathlib.Omega.{arith}
use borrow.Author.Tests.{eq-eqb, ne_eqb}
use lib.ListN.{length, set, length-set}
use lib.Seq.{get_or-set_same, get_or-set_other}
use Rattle.time_table.specs.declared.Row.{Row}
use Rattle.time_table.specs.Rows.{row_at}
use Rattle.time_table.specs.Meaning.{Right, Within}
use Rattle.time_table.specs.Update.{moved}
use Rattle.time_table.proofs.Held.{held_as}
use Rattle.time_table.proofs.Sums.{has_none, has_above, lt_or_le}
use Rattle.time_table.proofs.Demanded.{demanded}
use Rattle.sweep.specs.declared.Task.{Task}
use Rattle.sweep.specs.declared.Tasks.{Tasks}
use Rattle.sweep.proofs.CoveringTasks.{past_none}
use Rattle.sweep.specs.Tasks.{no_task, tasks_of, tasks_with, task_at, usage_of, run_end, in_part, runs, Sweepable}
use Rattle.planner.specs.Ranges.{last_end}
use Rattle.planner.specs.Sound.{Limited, SoundTasks}
use Rattle.planner.proofs.Known.{tasks_of_lem}

module _ (ts : Tasks) (s : SoundTasks ts) where
  by_id : {P : Task → Type 0} → P no_task → ((k : Task) → Limited k → P k) → (i : ℕ) → P (task_at (tasks_of ts) i)
  by_id {P} none some i =
      ⊎_elim
      (λ lt. some (task_at (tasks_of ts) i) (s.limited i lt))
      (λ ge. rw (past_none (tasks_of ts) i (omega (arith, s.held.counts))) none)
      (lt_or_le i ts.count)

  pub ends : (i : ℕ) → run_end (task_at (tasks_of ts) i) ≤ last_end
  ends = by_id {P = λ (k : Task). run_end k ≤ last_end} (omega arith) (λ k l. omega (arith, l))

  pub sound_sweepable : Sweepable ts
  sound_sweepable =
      record {
        held = s.held;
        ends = λ i. omega (arith, ends i);
        small = by_id {P = λ (k : Task). k.usage < 2 ^ 27} (omega arith) (λ k l. omega (arith, l));
      }

  pub sound_few : (i t : ℕ) → ts.count ≤ i → runs (tasks_of ts) i t ≡ false
  sound_few i t le = rw (past_none (tasks_of ts) i (omega (arith, s.held.counts))) (has_none 0 0 t (omega arith))

  pub sound_within : Within (runs (tasks_of ts)) (usage_of (tasks_of ts))
  sound_within =
      record {
        few = λ i t le. sound_few i t (omega (arith, s.held.fits));
        draws = λ i t. by_id {P = λ (k : Task). in_part k t ≡ true → 0 < k.usage}
            (λ e. absurd (true≢false (sym e ∙ has_none 0 0 t (omega arith)))) (λ k l e. l.draws) i;
        small = by_id {P = λ (k : Task). k.usage < 2 ^ 27} (omega arith) (λ k l. omega (arith, l));
      }

  -- a row that is right for them ends before the last instant that a plan can touch
  pub row_low : (rows : List Row) → Right (runs (tasks_of ts)) (usage_of (tasks_of ts)) rows → (k : ℕ) → k < length rows
      → ((row_at rows k).start < last_end) × ((row_at rows k).end < last_end)
  row_low rows right k lt =
      let d = demanded (runs (tasks_of ts)) (usage_of (tasks_of ts)) ts.count rows right sound_few in
      let e = (row_at rows k).end in
      let low : e < last_end =
      ⊎_elim (λ small. small)
      (λ big. absurd (d.bare e (λ i. has_above _ _ e (omega (arith, ends i, big))) (record { place = k; there = record { one_of = lt; from = d.proper k lt; to = omega arith } })))
      (lt_or_le e last_end) in
      (omega (arith, d.proper k lt, low), low)

-- a task in the place of another
module _ (ts : Tasks) (s : SoundTasks ts) (i : ℕ) (lt : i < ts.count) (k : Task) (l : Limited k) where
  pub replaced_sound : SoundTasks (tasks_with (set (tasks_of ts) i k))
  replaced_sound =
      record {
        held = held_as (record { is = refl; counts = refl; fits = rw length-set (omega (arith, s.held.counts, s.held.fits)) }) (sym (tasks_of_lem (set (tasks_of ts) i k)));
        limited = λ j less. rw (tasks_of_lem (set (tasks_of ts) i k))
            (elim (ℕ_discrete j i) [
              | yes e ↦ rw (e, get_or-set_same (tasks_of ts) i k no_task (omega (arith, s.held.counts))) l
              | no ne ↦ rw (get_or-set_other (tasks_of ts) i j k no_task ne) (s.limited j (omega (arith, simp length-set at less, s.held.counts)))
            ]);
      }

  -- what runs, and what is drawn, where the task draws as before
  pub replaced_runs : runs (set (tasks_of ts) i k) ≡ moved i (in_part k) (runs (tasks_of ts))
  replaced_runs = λ a j t. here j t a
    where
      here : (j t : ℕ) → runs (set (tasks_of ts) i k) j t ≡ moved i (in_part k) (runs (tasks_of ts)) j t
      here j t =
          elim (ℕ_discrete j i) [
            | yes e ↦ rw (e, get_or-set_same (tasks_of ts) i k no_task (omega (arith, s.held.counts)), eq-eqb i i refl)
            | no ne ↦ rw (get_or-set_other (tasks_of ts) i j k no_task ne, ne_eqb i j (λ e. ne (sym e)))
          ]

  pub replaced_usage : k.usage ≡ usage_of (tasks_of ts) i → usage_of (set (tasks_of ts) i k) ≡ usage_of (tasks_of ts)
  replaced_usage same = λ a j. here j a
    where
      at : usage_of (set (tasks_of ts) i k) i ≡ usage_of (tasks_of ts) i
      at = ap (λ (x : Task). x.usage) (get_or-set_same (tasks_of ts) i k no_task (omega (arith, s.held.counts))) ∙ same

      here : (j : ℕ) → usage_of (set (tasks_of ts) i k) j ≡ usage_of (tasks_of ts) j
      here j =
          elim (ℕ_discrete j i) [
            | yes e ↦ subst (λ (x : ℕ). usage_of (set (tasks_of ts) i k) x ≡ usage_of (tasks_of ts) x) (sym e) at
            | no ne ↦ ap (λ (x : Task). x.usage) (get_or-set_other (tasks_of ts) i j k no_task ne)
          ]
