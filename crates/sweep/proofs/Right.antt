-- A table that a sweep made is right: its rows are sorted and disjoint, and at each instant they list each covering task once, and no
-- other; so the edits go on from it. Its height at every instant is the load.
-- Assumes nothing.
use mathlib.Core.Path.{◌≡◌, refl, sym, ap, ◌∙◌}
use mathlib.Core.Bool.{cond}
use mathlib.Core.Logic.{⊎_elim}
use mathlib.Core.List.{List, [], ◌∷◌}
use Prim.Native.Nat.{ℕ, ◌+◌, ◌≤◌, ◌<◌, ◌^◌}
use native.Mathlib.Numerals.{add-one}
use native.Mathlib.Omega.{arith}
use lib.ListN.{length}
use Rattle.time_table.specs.declared.Row.{Row}
use Rattle.time_table.specs.Rows.{tasks}
use Rattle.time_table.specs.Order.{Each, Ordered, ticks}
use Rattle.time_table.specs.Meaning.{summed, total, occurs, tally, Sound, Right}
use Rattle.time_table.proofs.Sums.{has_in, has_below, has_above, by_place, lt_or_le}
use Rattle.sweep.specs.declared.Task.{Task}
use Rattle.sweep.specs.Tasks.{task_at, usage_of, run_end, runs}
use Rattle.sweep.specs.Sweep.{ids_at, cuts, sweep}
use Rattle.sweep.proofs.MaximalRuns.{Run, done, more}
use Rattle.sweep.proofs.SweepCuts.{cuts_of}
use Rattle.sweep.proofs.CoveringTasks.{ids_occur, ids_few, ids_after}
use Rattle.sweep.proofs.SweepRows.{OurRuns, sweep_runs}

module _ (ts : List Task) where
  abbrev OurRun : ℕ → Row → Type 0
  OurRun lo r = Run (ids_at ts) (usage_of ts) lo r

  none_low : (F : Row → ℕ) (t : ℕ) {lo : ℕ} (rows : List Row) → OurRuns ts lo rows → t < lo → summed F t rows ≡ 0
  unfolding summed
  none_low F t [] u lt = refl
  none_low F t (r ∷ rs) (more u v) lt =
      rw (has_below r.start (r.end + 1) t (omega (arith, u.from))) (omega (arith, none_low F t rs v (omega (arith, u.from, u.proper))))

  -- a sum over the rows at an instant goes by its list
  module _ (F : Row → ℕ) (G : List ℕ → ℕ) (by : (lo : ℕ) (r : Row) → OurRun lo r → F r ≡ G (tasks r)) (empty : G [] ≡ 0) where
    runs_summed : (t : ℕ) {lo : ℕ} (rows : List Row) → OurRuns ts lo rows → lo ≤ t → summed F t rows ≡ G (ids_at ts t)
    unfolding summed
    runs_summed t [] (done h) le = sym (ap G (h t le) ∙ empty)
    runs_summed t {lo} (r ∷ rs) (more u v) le =
        by_place r.start (r.end + 1) t
        (λ lt. rw (has_below r.start (r.end + 1) t lt, u.gap t le lt, empty) (omega (arith, none_low F t rs v (omega (arith, u.proper)))))
        (λ l h. rw (has_in r.start (r.end + 1) t l h, u.same t l (omega arith)) (omega (arith, by lo r u, none_low F t rs v (omega arith))))
        (λ h. rw (has_above r.start (r.end + 1) t h) (omega (arith, runs_summed t rs v (omega arith))))

  -- each covering task is listed once at t, and no other
  pub sweep_tally : (t i : ℕ) → tally t i (sweep ts) ≡ cond (runs ts i t) 1 0
  unfolding total
  sweep_tally t i = runs_summed (λ (r : Row). occurs i (tasks r)) (occurs i) (λ lo r u. refl) refl t (sweep ts) (sweep_runs ts) (omega arith) ∙ ids_occur ts t i

  module _ (few : length ts ≤ 32) (ends : (i : ℕ) → run_end (task_at ts i) < 2 ^ 32) where
    -- no task covers an instant from the last tick on
    top : (t : ℕ) → ticks ≤ t → ids_at ts t ≡ []
    unfolding cuts
    top t le = ids_after ts t (λ c m. let w = cuts_of ts (length ts) m in ⊎_elim (λ e. omega (arith, w.full, ends w.id)) (λ e. omega (arith, ends w.id)) w.side)

    runs_ordered : {lo : ℕ} (rows : List Row) → OurRuns ts lo rows → Ordered ticks lo rows
    unfolding Ordered
    runs_ordered [] u = tt
    runs_ordered (r ∷ rs) (more u v) = (
      u.from,
      u.proper,
      ⊎_elim (λ lt. lt) (λ le. absurd (u.some (sym (u.same r.end u.proper (omega arith)) ∙ top r.end le))) (lt_or_le r.end ticks),
      rw add-one (runs_ordered rs v),
    )

    run_sound : {lo : ℕ} {r : Row} → OurRun lo r → Sound (usage_of ts) r
    run_sound {lo} {r} u =
        let counts : r.count ≡ length (tasks r) = ap (λ (q : Row). q.count) u.whole in
        let short = ids_few ts r.start in
        let few-listed : length (tasks r) ≤ 32 = rw (← (u.same r.start (omega arith) u.proper)) (omega arith) in
        record {
          listed = record { is = ap (λ (q : Row). q.ids) u.whole; counts = counts; fits = omega arith };
          high = u.high;
          some = omega (arith, counts, positive (tasks r) u.some);
        }
      where
        positive : (l : List ℕ) → (l ≡ [] → ⊥) → 0 < length l
        positive [] n = absurd (n refl)
        positive (x ∷ xs) n = omega arith

    runs_sound : {lo : ℕ} (rows : List Row) → OurRuns ts lo rows → Each (Sound (usage_of ts)) rows
    unfolding Each
    runs_sound [] u = tt
    runs_sound (r ∷ rs) (more u v) = (run_sound u, runs_sound rs v)

    pub sweep_right : Right (runs ts) (usage_of ts) (sweep ts)
    sweep_right =
        record { ordered = runs_ordered (sweep ts) (sweep_runs ts); sound = runs_sound (sweep ts) (sweep_runs ts); exact = sweep_tally }
