-- The tasks that cover an instant: each is listed once and in its turn, and they change at the cuts and nowhere else.
-- Assumes nothing.
use mathlib.Core.Path.{◌≡◌, refl, sym, ap, ◌∙◌}
use mathlib.Core.Bool.{Bool, true, false, cond}
use mathlib.Core.Logic.{◌⊎◌, inl, inr, ⊎_elim}
use mathlib.Core.List.{List, []}
use Prim.Native.Nat.{ℕ, zero, suc, ◌≤◌, ◌<◌}
use native.Mathlib.Omega.{arith}
use lib.Dec.{ltb}
use lib.ListN.{length, get_or-eq_default}
use Rattle.time_table.specs.Meaning.{has, occurs}
use Rattle.time_table.proofs.Sums.{has_in, has_below, has_above, has_none, lt_or_le}
use Rattle.sweep.specs.declared.Task.{Task}
use Rattle.sweep.specs.Tasks.{no_task, task_at, latest_of, run_end, in_part, runs}
use Rattle.sweep.specs.Sorting.{ordered, InTurn, In, Sorted}
use Rattle.sweep.specs.Sweep.{ids_at, cuts}
use Rattle.sweep.proofs.Sorting.{ordered_in, ordered_out, ordered_length, ordered_sorted, sorted_unique, by_key}
use Rattle.sweep.proofs.SweepCuts.{Full, full_or, cuts_both, CutOf, cuts_of}

-- i comes before j, by its latest start
abbrev pub sooner : List Task → ℕ → ℕ → Bool
sooner ts i j = ltb (latest_of ts i) (latest_of ts j)

-- no number of the list is picked
ordered_none : (pick : ℕ → Bool) (before : ℕ → ℕ → Bool) → ((i : ℕ) → pick i ≡ false) → (n : ℕ) → ordered pick before n ≡ []
unfolding ordered
ordered_none pick before h zero = refl
ordered_none pick before h (suc n) = rw (h n) (ordered_none pick before h n)

-- the same are picked
ordered_same : (pick other : ℕ → Bool) (before : ℕ → ℕ → Bool) → ((i : ℕ) → pick i ≡ other i) → (n : ℕ) → ordered pick before n ≡ ordered other before n
ordered_same pick other before h n = λ j. ordered (λ i. h i j) before n

module _ (ts : List Task) where
  pub past_none : (i : ℕ) → length ts ≤ i → task_at ts i ≡ no_task
  past_none i le = get_or-eq_default ts no_task le

  pub full_low : (i : ℕ) → Full ts i → i < length ts
  full_low i full =
      ⊎_elim (λ lt. lt)
      (λ le. absurd (omega (arith, full, ap (λ (k : Task). k.latest) (past_none i le), ap (λ (k : Task). run_end k) (past_none i le))))
      (lt_or_le i (length ts))

  cut_both : (i : ℕ) → Full ts i → In (latest_of ts i) (cuts ts) × In (run_end (task_at ts i)) (cuts ts)
  unfolding cuts
  cut_both i full = cuts_both ts (length ts) i (full_low i full) full

  runs_void : (i t : ℕ) → run_end (task_at ts i) ≤ latest_of ts i → runs ts i t ≡ false
  runs_void i t le = has_none (latest_of ts i) (run_end (task_at ts i)) t le

  -- each covering task is listed once, and no other
  pub ids_occur : (t i : ℕ) → occurs i (ids_at ts t) ≡ cond (runs ts i t) 1 0
  unfolding ids_at
  ids_occur t i =
      ⊎_elim
      (λ lt. ordered_in _ _ (length ts) i lt)
      (λ le.
      let none : runs ts i t ≡ false = ap (λ (k : Task). in_part k t) (past_none i le) ∙ has_none 0 0 t (omega arith) in
      ordered_out _ _ (length ts) i le ∙ sym (ap (λ (b : Bool). cond b 1 0) none))
      (lt_or_le i (length ts))

  pub ids_sorted : (t : ℕ) → Sorted (InTurn (sooner ts)) (ids_at ts t)
  unfolding ids_at
  ids_sorted t = ordered_sorted (sooner ts) (by_key (latest_of ts)) _ (length ts)

  pub ids_few : (t : ℕ) → length (ids_at ts t) ≤ length ts
  unfolding ids_at
  ids_few t = ordered_length _ _ (length ts)

  -- no other list has the covering tasks in their turn
  pub ids_unique : (t : ℕ) (is : List ℕ) → Sorted (InTurn (sooner ts)) is → ((i : ℕ) → occurs i is ≡ cond (runs ts i t) 1 0) → is ≡ ids_at ts t
  ids_unique t is s h = sorted_unique (sooner ts) (by_key (latest_of ts)) is (ids_at ts t) s (ids_sorted t) (λ i. h i ∙ sym (ids_occur t i))

  ids_empty : (t : ℕ) → ((i : ℕ) → runs ts i t ≡ false) → ids_at ts t ≡ []
  unfolding ids_at
  ids_empty t h = ordered_none _ _ h (length ts)

  -- a part lies whole on one side of an instant that is before, or behind, all cuts
  pub ids_before : (t : ℕ) → ((c : ℕ) → In c (cuts ts) → t < c) → ids_at ts t ≡ []
  ids_before t all =
      ids_empty t
      (λ i. ⊎_elim (λ full. has_below (latest_of ts i) (run_end (task_at ts i)) t (all _ (cut_both i full).0)) (runs_void i t) (full_or ts i))

  pub ids_after : (t : ℕ) → ((c : ℕ) → In c (cuts ts) → c ≤ t) → ids_at ts t ≡ []
  ids_after t all =
      ids_empty t
      (λ i. ⊎_elim (λ full. has_above (latest_of ts i) (run_end (task_at ts i)) t (all _ (cut_both i full).1)) (runs_void i t) (full_or ts i))

  -- no cut lies behind s and up to t: the same tasks cover both
  pub ids_between : (s t : ℕ) → s ≤ t → ((c : ℕ) → In c (cuts ts) → (c ≤ s) ⊎ (t < c)) → ids_at ts t ≡ ids_at ts s
  unfolding ids_at
  ids_between s t h all = ordered_same _ _ _ alike (length ts)
    where
      go : (x y : ℕ) → (x ≤ s) ⊎ (t < x) → (y ≤ s) ⊎ (t < y) → has x y t ≡ has x y s
      go x y (inl a) (inl b) = has_above x y t (omega arith) ∙ sym (has_above x y s b)
      go x y (inl a) (inr b) = has_in x y t (omega arith) b ∙ sym (has_in x y s a (omega arith))
      go x y (inr a) b = has_below x y t a ∙ sym (has_below x y s (omega arith))

      alike : (i : ℕ) → runs ts i t ≡ runs ts i s
      alike i =
          ⊎_elim
          (λ full.
          let b = cut_both i full in
          go (latest_of ts i) (run_end (task_at ts i)) (all _ b.0) (all _ b.1))
          (λ void. runs_void i t void ∙ sym (runs_void i s void))
          (full_or ts i)

  -- a is before the cut b, and no cut lies between: other tasks cover b than a
  pub cut_differs : (a b : ℕ) → a < b → In b (cuts ts) → ((c : ℕ) → In c (cuts ts) → (c ≤ a) ⊎ (b ≤ c)) → ids_at ts b ≡ ids_at ts a → ⊥
  unfolding cuts
  cut_differs a b h m all e = go w.side (all (latest_of ts i) (cuts_both ts (length ts) i w.low w.full).0)
    where
      w : CutOf ts (length ts) b
      w = cuts_of ts (length ts) m

      i : ℕ
      i = w.id

      x : ℕ
      x = latest_of ts i

      y : ℕ
      y = run_end (task_at ts i)

      lt : x < y
      lt = w.full

      same : ◌≡◌ {A = ℕ} (cond (has x y b) 1 0) (cond (has x y a) 1 0)
      same = sym (ids_occur b i) ∙ ap (occurs i) e ∙ ids_occur a i

      go : (b ≡ x) ⊎ (b ≡ y) → (x ≤ a) ⊎ (b ≤ x) → ⊥
      go (inl s) d =
          let now : has x y b ≡ true = has_in x y b (omega (arith, s)) (omega (arith, s, lt)) in
          let then : has x y a ≡ false = has_below x y a (omega (arith, s, h)) in
          omega (arith, rw (now, then) at same)
      go (inr s) (inl k) =
          let now : has x y b ≡ false = has_above x y b (omega (arith, s)) in
          let then : has x y a ≡ true = has_in x y a k (omega (arith, s, h)) in
          omega (arith, rw (now, then) at same)
      go (inr s) (inr k) = omega (arith, s, lt)
