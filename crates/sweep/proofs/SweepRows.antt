-- The sweep's rows are the maximal runs of instants with one list of covering tasks. There are at most twice as many as tasks, less one.
-- Assumes nothing.
use mathlib.Core.Path.{◌≡◌, refl, sym, ap, ◌∙◌, subst}
use mathlib.Core.Logic.{◌⊎◌, inl, inr, ⊎_elim}
use mathlib.Core.List.{List, [], ◌∷◌, cons-ne-nil}
use mathlib.Core.List.Memᴰ.{not-nil as in-none}
use Prim.Native.Nat.{ℕ, zero, suc, ◌+◌, ◌-◌, ◌*◌, ◌≤◌, ◌<◌}
use native.Mathlib.Omega.{arith}
use lib.ListN.{length}
use Rattle.time_table.specs.declared.Row.{Row}
use Rattle.time_table.specs.Rows.{row_of, tasks}
use Rattle.time_table.specs.Meaning.{total}
use Rattle.time_table.proofs.Sums.{lt_or_le}
use Rattle.time_table.proofs.Totals.{tasks_row_of}
use Rattle.sweep.specs.declared.Task.{Task}
use Rattle.sweep.specs.Tasks.{room_for_tasks, usage_of}
use Rattle.sweep.specs.Sorting.{In, here, there}
use Rattle.sweep.specs.Sweep.{ids_at, cuts, laid, rows_from, rows_by, sweep}
use Rattle.sweep.proofs.SweepCuts.{Asc, nil, cons, asc_low, asc_head, asc_tail, cuts_asc, cuts_length}
use Rattle.sweep.proofs.CoveringTasks.{ids_between, ids_before, ids_after, cut_differs}
use Rattle.sweep.proofs.MaximalRuns.{Run, Runs, done, more}

module _ (ts : List Task) where
  -- the runs of the tasks, from an instant on
  abbrev pub OurRuns : ℕ → List Row → Type 0
  OurRuns lo rows = Runs (ids_at ts) (usage_of ts) lo rows

  -- of the cuts, bs are those behind a
  pub record Rest (a : ℕ) (bs : List ℕ) : Type 0 where
    pub split : (c : ℕ) → In c (cuts ts) → (c ≤ a) ⊎ In c bs
    pub cut : (c : ℕ) → In c bs → In c (cuts ts)
    pub asc : Asc (suc a) bs

  pub rest_next : {a b : ℕ} {bs : List ℕ} → Rest a (b ∷ bs) → Rest b bs
  rest_next {a} {b} {bs} r = record { split = λ c m. go c (r.split c m); cut = λ c m. r.cut c (there m); asc = asc_tail r.asc }
    where
      go : (c : ℕ) → (c ≤ a) ⊎ In c (b ∷ bs) → (c ≤ b) ⊎ In c bs
      go c (inl h) = inl (omega (arith, asc_head r.asc))
      go c (inr (here e)) = inl (omega arith)
      go c (inr (there m)) = inr m

  -- no cut lies between a and the first of them
  sides : {a b : ℕ} {bs : List ℕ} → Rest a (b ∷ bs) → (c : ℕ) → In c (cuts ts) → (c ≤ a) ⊎ (b ≤ c)
  sides {a} {b} {bs} r c m = go (r.split c m)
    where
      go : (c ≤ a) ⊎ In c (b ∷ bs) → (c ≤ a) ⊎ (b ≤ c)
      go (inl h) = inl h
      go (inr (here e)) = inr (omega arith)
      go (inr (there n)) = inr (omega (arith, asc_low (asc_tail r.asc) n))

  quiet : {a b : ℕ} {bs : List ℕ} → Rest a (b ∷ bs) → (t : ℕ) → a ≤ t → t < b → ids_at ts t ≡ ids_at ts a
  quiet {a} {b} r t h k = ids_between ts a t h (λ c m. go c (sides r c m))
    where
      go : (c : ℕ) → (c ≤ a) ⊎ (b ≤ c) → (c ≤ a) ⊎ (t < c)
      go c (inl x) = inl x
      go c (inr x) = inr (omega arith)

  -- all cuts, behind the instant 0
  pub record Whole : Type 0 where
    pub behind : List ℕ
    pub rest : Rest 0 behind
    pub is : sweep ts ≡ rows_from ts 0 behind

  -- between two cuts there is no row where no task covers the first, and else one of those that do
  pub laid_none : (a b : ℕ) (bs : List ℕ) → ids_at ts a ≡ [] → rows_from ts a (b ∷ bs) ≡ rows_from ts b bs
  unfolding rows_from laid
  laid_none a b bs e = rw e refl

  pub laid_some : (a b : ℕ) (bs is : List ℕ) → ids_at ts a ≡ is → (is ≡ [] → ⊥) → rows_from ts a (b ∷ bs) ≡ row_of a (b - 1) (total (usage_of ts) is) is ∷ rows_from ts b bs
  unfolding rows_from laid
  laid_some a b bs [] e n = absurd (n refl)
  laid_some a b bs (i ∷ is) e n = rw e refl

  pub whole : Whole
  unfolding sweep rows_by rows_from cuts
  whole = go (cuts ts) refl (cuts_asc ts (length ts))
    where
      at : (zs : List ℕ) → cuts ts ≡ zs → (c : ℕ) → In c (cuts ts) → In c zs
      at zs e c m = subst (λ (l : List ℕ). In c l) e m

      back : (zs : List ℕ) → cuts ts ≡ zs → (c : ℕ) → In c zs → In c (cuts ts)
      back zs e c m = subst (λ (l : List ℕ). In c l) (sym e) m

      first : (bs : List ℕ) (c : ℕ) → In c (0 ∷ bs) → (c ≤ 0) ⊎ In c bs
      first bs c (here e) = inl (omega arith)
      first bs c (there m) = inr m

      low : (a : ℕ) (bs : List ℕ) (c : ℕ) → Asc (suc a) bs → In c (a ∷ bs) → a ≤ c
      low a bs c s (here e) = omega arith
      low a bs c s (there m) = omega (arith, asc_low s m)

      go : (zs : List ℕ) → cuts ts ≡ zs → Asc 0 zs → Whole
      go [] e s =
          record { behind = []; rest = record { split = λ c m. inr (at [] e c m); cut = λ c m. absurd (in-none m); asc = nil }; is = ap (rows_by ts) e }
      go (zero ∷ bs) e (cons h s) =
          record {
            behind = bs;
            rest = record { split = λ c m. first bs c (at (0 ∷ bs) e c m); cut = λ c m. back (0 ∷ bs) e c (there m); asc = s };
            is = ap (rows_by ts) e;
          }
      go (suc a ∷ bs) e (cons h s) =
          let none : ids_at ts 0 ≡ [] = ids_before ts 0 (λ c m. omega (arith, low (suc a) bs c s (at (suc a ∷ bs) e c m))) in
          record {
            behind = suc a ∷ bs;
            rest = record { split = λ c m. inr (at (suc a ∷ bs) e c m); cut = λ c m. back (suc a ∷ bs) e c m; asc = cons {lo = 1} {y = suc a} (omega arith) s };
            is = ap (rows_by ts) e ∙ sym (laid_none 0 (suc a) bs none);
          }

  rows_runs : {lo : ℕ} (a : ℕ) (bs : List ℕ) → Rest a bs → lo ≤ a → ((t : ℕ) → lo ≤ t → t < a → ids_at ts t ≡ []) → OurRuns lo (rows_from ts a bs)
  unfolding rows_from laid
  rows_runs {lo} a [] r h gap = done (λ t k. ⊎_elim (gap t k) (λ x. ids_after ts t (λ c m. omega (arith, low c (r.split c m)))) (lt_or_le t a))
    where
      low : (c : ℕ) → (c ≤ a) ⊎ In c [] → c ≤ a
      low c (inl x) = x
      low c (inr m) = absurd (in-none m)
  rows_runs {lo} a (b ∷ bs) r h gap = go (ids_at ts a) refl (rows_runs {lo = lo} b bs (rest_next r)) (rows_runs {lo = suc (b - 1)} b bs (rest_next r))
    where
      l : a < b
      l = asc_head r.asc

      f : ℕ → List ℕ
      f = ids_at ts

      go : (is : List ℕ) → ids_at ts a ≡ is
          → (lo ≤ b → ((t : ℕ) → lo ≤ t → t < b → f t ≡ []) → OurRuns lo (rows_from ts b bs))
          → (suc (b - 1) ≤ b → ((t : ℕ) → suc (b - 1) ≤ t → t < b → f t ≡ []) → OurRuns (suc (b - 1)) (rows_from ts b bs))
          → OurRuns lo (laid (usage_of ts) a b is (rows_from ts b bs))
      go [] e same next = same (omega (arith, l)) (λ t k m. ⊎_elim (gap t k) (λ x. quiet r t x m ∙ e) (lt_or_le t a))
      go (i ∷ is) e same next = more run (next (omega (arith, l)) (λ t x y. absurd (omega (arith, l))))
        where
          row : Row
          row = row_of a (b - 1) (total (usage_of ts) (i ∷ is)) (i ∷ is)

          lists : tasks row ≡ i ∷ is
          lists = tasks_row_of a (b - 1) (total (usage_of ts) (i ∷ is)) (i ∷ is)

          after : suc (b - 1) ≡ b
          after = omega (arith, l)

          run : Run f (usage_of ts) lo row
          run =
              record {
                from = h;
                gap = gap;
                proper = omega (arith, l);
                same = λ t x y. quiet r t x (omega (arith, l)) ∙ e ∙ sym lists;
                some = λ z. cons-ne-nil i is (sym lists ∙ z);
                high = ap (total (usage_of ts)) (sym lists);
                whole = λ j. row_of a (b - 1) (total (usage_of ts) (i ∷ is)) (sym lists j);
                ends = λ x. cut_differs ts a b l (r.cut b (here refl)) (sides r) (subst (λ (n : ℕ). f n ≡ tasks row) after x ∙ lists ∙ sym e);
              }

  -- the sweep's rows are the runs
  pub sweep_runs : OurRuns 0 (sweep ts)
  sweep_runs =
      let w = whole in
      rw w.is (rows_runs 0 w.behind w.rest (omega arith) (λ t x y. absurd (omega arith)))

  rows_length : (a : ℕ) (bs : List ℕ) → length (rows_from ts a bs) ≤ length bs
  unfolding rows_from laid
  rows_length a [] = omega arith
  rows_length a (b ∷ bs) = go (ids_at ts a) (rows_length b bs)
    where
      go : (is : List ℕ) → length (rows_from ts b bs) ≤ length bs → length (laid (usage_of ts) a b is (rows_from ts b bs)) ≤ suc (length bs)
      go [] h = omega arith
      go (i ∷ is) h = omega arith

  -- at most twice as many as tasks, less one
  pub sweep_length : length (sweep ts) ≤ 2 * length ts - 1
  unfolding sweep rows_by cuts
  sweep_length = go (cuts ts) (cuts_length ts (length ts))
    where
      go : (zs : List ℕ) → length zs ≤ length ts + length ts → length (rows_by ts zs) ≤ 2 * length ts - 1
      go [] h = omega arith
      go (a ∷ bs) h = omega (arith, rows_length a bs)

  pub sweep_few : length ts ≤ room_for_tasks → length (sweep ts) ≤ 63
  sweep_few few = omega (arith, sweep_length)
