-- The sweep is what the document's sentence says, and no other list of rows is.
-- Assumes nothing.
use mathlib.Core.Path.{◌≡◌, refl, sym, ap, ◌∙◌, subst}
use mathlib.Core.Bool.{Bool, true, false, cond}
use mathlib.Core.Logic.{⊎_elim}
use mathlib.Core.List.{List, [], ◌∷◌}
use mathlib.Core.List.Memᴰ.{not-nil as in-none}
use Prim.Native.Nat.{ℕ, suc, ◌≤◌, ◌<◌}
use native.Mathlib.Omega.{arith}
use borrow.Author.Tests.{le-ltb, ltb-false}
use Rattle.time_table.specs.declared.Row.{Row}
use Rattle.time_table.specs.Rows.{tasks}
use Rattle.time_table.specs.Meaning.{total, occurs}
use Rattle.time_table.proofs.Sums.{lt_or_le}
use Rattle.sweep.specs.declared.Task.{Task}
use Rattle.sweep.specs.Tasks.{latest_of, usage_of, runs}
use Rattle.sweep.specs.Sorting.{InTurn, In, here, there, Sorted, nil, cons}
use Rattle.sweep.specs.Sweep.{ids_at, sweep}
use Rattle.sweep.specs.Sentence.{Lists, ByLatest, RunRow, Found, Ahead, SweepOf}
use Rattle.sweep.proofs.Sorting.{in_occurs, sorted_map}
use Rattle.sweep.proofs.CoveringTasks.{sooner, ids_occur, ids_sorted, ids_unique}
use Rattle.sweep.proofs.MaximalRuns.{Run, done, more, runs_unique}
use Rattle.sweep.proofs.SweepRows.{OurRuns, sweep_runs}

module _ (ts : List Task) where
  to_latest : (i j : ℕ) → InTurn (sooner ts) i j → ByLatest ts i j
  to_latest i j w =
      (ltb-false (latest_of ts j) (latest_of ts i) w.0, λ e. w.1 (le-ltb (latest_of ts i) (latest_of ts j) (omega arith)))

  of_latest : (i j : ℕ) → ByLatest ts i j → InTurn (sooner ts) i j
  of_latest i j w =
      (le-ltb (latest_of ts j) (latest_of ts i) w.0, λ e. w.1 (omega (arith, w.0, ltb-false (latest_of ts i) (latest_of ts j) e)))

  -- a row whose list is in order and is of the tasks that cover t has the list of t, and the other way round
  lists_are : (r : Row) (t : ℕ) → Sorted (ByLatest ts) (tasks r) → Lists ts r t → ids_at ts t ≡ tasks r
  lists_are r t s l = sym (ids_unique ts t (tasks r) (sorted_map (ByLatest ts) (InTurn (sooner ts)) (tasks r) of_latest s) l)

  are_lists : (r : Row) (t : ℕ) → ids_at ts t ≡ tasks r → Lists ts r t
  are_lists r t e i = ap (occurs i) (sym e) ∙ ids_occur ts t i

  -- ---- from the sentence to the runs

  none_or : (t : ℕ) (rows : List Row) → (Found t rows → ⊥) → ((i : ℕ) → runs ts i t ≡ true → Found t rows) → ids_at ts t ≡ []
  none_or t rows no_row all = go (ids_at ts t) refl
    where
      go : (l : List ℕ) → ids_at ts t ≡ l → ids_at ts t ≡ []
      go [] e = e
      go (x ∷ xs) e = absurd (no_row (all x (covers (runs ts x t) (ids_occur ts t x))))
        where
          covers : (b : Bool) → occurs x (ids_at ts t) ≡ cond b 1 0 → b ≡ true
          covers true h = refl
          covers false h =
              let some : 0 < occurs x (ids_at ts t) = rw e (in_occurs {i = x} (x ∷ xs) (here refl)) in
              absurd (omega arith)

  module _ (r : Row) (rs : List Row) (each : (q : Row) → In q (r ∷ rs) → RunRow ts q) (sorted : Sorted Ahead (r ∷ rs)) where
    first : RunRow ts r
    first = each r (here refl)

    ahead : (q : Row) → In q rs → r.end < q.start
    ahead q m = go sorted
      where
        go : Sorted Ahead (r ∷ rs) → r.end < q.start
        go (cons h s) = h q m

    -- no row has an instant before the first
    not_before : (t : ℕ) → t < r.start → Found t (r ∷ rs) → ⊥
    not_before t lt w = go w.is
      where
        go : In w.row (r ∷ rs) → ⊥
        go (here e) = omega (arith, w.low, ap (λ (q : Row). q.start) e)
        go (there m) = omega (arith, w.low, ahead w.row m, first.proper)

    -- one that has an instant behind it is another
    not_here : (t : ℕ) → r.end < t → Found t (r ∷ rs) → Found t rs
    not_here t lt w = go w.is
      where
        go : In w.row (r ∷ rs) → Found t rs
        go (here e) = absurd (omega (arith, w.high, ap (λ (q : Row). q.end) e))
        go (there m) = record { row = w.row; is = m; low = w.low; high = w.high }

  tail : {r : Row} {rs : List Row} → Sorted Ahead (r ∷ rs) → Sorted Ahead rs
  tail (cons h s) = s

  to_runs : {lo : ℕ} (rows : List Row) → ((r : Row) → In r rows → RunRow ts r) → Sorted Ahead rows → ((r : Row) → In r rows → lo ≤ r.start)
      → ((t i : ℕ) → lo ≤ t → runs ts i t ≡ true → Found t rows) → OurRuns ts lo rows
  to_runs [] each sorted low all = done (λ t h. none_or t [] (λ w. in-none w.is) (λ i c. all t i h c))
  to_runs {lo} (r ∷ rs) each sorted low all =
      more run
      (to_runs rs (λ q m. each q (there m)) (tail sorted) (λ q m. ahead r rs each sorted q m)
      (λ t i h c. not_here r rs each sorted t h (all t i (omega (arith, low r (here refl), w.proper)) c)))
    where
      w : RunRow ts r
      w = each r (here refl)

      run : Run (ids_at ts) (usage_of ts) lo r
      run =
          record {
            from = low r (here refl);
            gap = λ t h k. none_or t (r ∷ rs) (not_before r rs each sorted t k) (λ i c. all t i h c);
            proper = w.proper;
            same = λ t h k. lists_are r t w.order (w.unchanging t h k);
            some = w.some;
            high = w.high;
            whole = w.whole;
            ends = λ e. w.after (are_lists r (suc r.end) e);
          }

  -- whatever the sentence allows is the sweep
  pub sweep_unique : (rows : List Row) → SweepOf ts rows → rows ≡ sweep ts
  sweep_unique rows s =
      runs_unique (ids_at ts) (usage_of ts) rows (sweep ts) (to_runs rows s.each s.sorted (λ r m. omega arith) (λ t i h c. s.all t i c)) (sweep_runs ts)

  -- ---- from the runs to the sentence

  runs_low : {lo : ℕ} (rows : List Row) → OurRuns ts lo rows → (r : Row) → In r rows → lo ≤ r.start
  runs_low [] _ r m = elim m [ ]
  runs_low (x ∷ rows) (more u v) r (here e) = omega (arith, u.from, ap (λ (q : Row). q.start) e)
  runs_low (x ∷ rows) (more u v) r (there m) = omega (arith, u.from, u.proper, runs_low rows v r m)

  runs_sorted : {lo : ℕ} (rows : List Row) → OurRuns ts lo rows → Sorted Ahead rows
  runs_sorted [] u = nil
  runs_sorted (x ∷ rows) (more u v) = cons (λ q m. runs_low rows v q m) (runs_sorted rows v)

  runs_all : {lo : ℕ} (rows : List Row) → OurRuns ts lo rows → (t : ℕ) → lo ≤ t → (ids_at ts t ≡ [] → ⊥) → Found t rows
  runs_all [] (done h) t k n = absurd (n (h t k))
  runs_all (x ∷ rows) (more u v) t k n =
      ⊎_elim
      (λ h. absurd (n (u.gap t k h)))
      (λ h. ⊎_elim
      (λ l. let w = runs_all rows v t l n in record { row = w.row; is = there w.is; low = w.low; high = w.high })
      (λ l. record { row = x; is = here refl; low = h; high = l })
      (lt_or_le x.end t))
      (lt_or_le t x.start)

  -- a run with where it starts: the instant before it has another list
  record Bounded (r : Row) : Type 0 where
    lo : ℕ
    run : Run (ids_at ts) (usage_of ts) lo r
    edge : (t : ℕ) → suc t ≡ r.start → ids_at ts t ≡ tasks r → ⊥

  bounded : {lo : ℕ} (rows : List Row) → OurRuns ts lo rows → ((t : ℕ) → suc t ≡ lo → ids_at ts t ≡ ids_at ts lo → ⊥) → (r : Row) → In r rows → Bounded r
  bounded [] _ edge r m = elim m [ ]
  bounded {lo} (x ∷ rows) (more u v) edge r (here e) = subst (λ (q : Row). Bounded q) (sym e) (record { lo = lo; run = u; edge = go })
    where
      go : (t : ℕ) → suc t ≡ x.start → ids_at ts t ≡ tasks x → ⊥
      go t q h =
          ⊎_elim
          (λ lt. u.some (sym h ∙ u.gap t (omega arith) (omega arith)))
          (λ le.
          let start : lo ≡ x.start = omega (arith, u.from) in
          edge t (q ∙ sym start) (h ∙ sym (u.same lo (omega arith) (omega (arith, u.proper)))))
          (lt_or_le lo x.start)
  bounded {lo} (x ∷ rows) (more u v) edge r (there m) = bounded rows v next r m
    where
      next : (t : ℕ) → suc t ≡ suc x.end → ids_at ts t ≡ ids_at ts (suc x.end) → ⊥
      next t q h =
          let last : t ≡ x.end = omega arith in
          u.ends (sym h ∙ u.same t (omega (arith, u.proper)) (omega arith))

  run_row : (r : Row) → Bounded r → RunRow ts r
  run_row r b =
      record {
        proper = u.proper;
        unchanging = λ t h k. are_lists r t (u.same t h k);
        some = u.some;
        before = λ t q l. b.edge t q (lists_are r t order l);
        after = λ l. u.ends (lists_are r (suc r.end) order l);
        high = u.high;
        order = order;
        whole = u.whole;
      }
    where
      u : Run (ids_at ts) (usage_of ts) b.lo r
      u = b.run

      order : Sorted (ByLatest ts) (tasks r)
      order =
          subst (λ (l : List ℕ). Sorted (ByLatest ts) l) (u.same r.start (omega arith) u.proper)
          (sorted_map (InTurn (sooner ts)) (ByLatest ts) (ids_at ts r.start) to_latest (ids_sorted ts r.start))

  -- the sweep is what the sentence says
  pub sweep_is : SweepOf ts (sweep ts)
  unfolding total
  sweep_is =
      record {
        each = λ r m. run_row r (bounded (sweep ts) (sweep_runs ts) (λ t q. absurd (omega arith)) r m);
        sorted = runs_sorted (sweep ts) (sweep_runs ts);
        all = λ t i c. runs_all (sweep ts) (sweep_runs ts) t (omega arith) (λ e. none i t c e);
      }
    where
      none : (i t : ℕ) → runs ts i t ≡ true → ids_at ts t ≡ [] → ⊥
      none i t c e = omega (arith, rw (e, c) at (ids_occur ts t i))
