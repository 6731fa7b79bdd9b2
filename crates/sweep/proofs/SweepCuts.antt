-- The cuts ascend, and are the starts and ends of the parts that are not empty.
-- Assumes nothing.
use mathlib.Core.Path.{◌≡◌, refl}
use mathlib.Core.Bool.{Bool, true, false, cond}
use mathlib.Core.Logic.{◌⊎◌, inl, inr, ⊎_elim}
use mathlib.Core.List.{List, [], ◌∷◌}
use mathlib.Core.List.Memᴰ.{not-nil as in-none}
use Prim.Native.Nat.{ℕ, zero, suc, ◌+◌, ◌≤◌, ◌<◌}
use native.Mathlib.Nat.{not-suc-le-zero}
use native.Mathlib.Decide.{ℕ_discrete}
use native.Mathlib.Omega.{arith}
use borrow.Author.Tests.{ltb-true, ltb-false, lt-ltb, le-ltb}
use lib.Dec.{ltb}
use lib.ListN.{length}
use Rattle.time_table.proofs.Sums.{lt_or_le}
use Rattle.sweep.specs.declared.Task.{Task}
use Rattle.sweep.specs.Tasks.{task_at, latest_of, run_end}
use Rattle.sweep.specs.Sorting.{In, here, there}
use Rattle.sweep.specs.Sweep.{insert_cut, cuts_below}

-- ascending, from lo on
pub data Asc : ℕ → List ℕ → Type 0 where
  nil : {lo : ℕ} → Asc lo []
  cons : {lo y : ℕ} {ys : List ℕ} → lo ≤ y → Asc (suc y) ys → Asc lo (y ∷ ys)

pub asc_low : {lo c : ℕ} {ys : List ℕ} → Asc lo ys → In c ys → lo ≤ c
asc_low nil m = elim m [ ]
asc_low (cons h a) (here e) = omega arith
asc_low (cons h a) (there m) = let k = asc_low a m in omega arith

pub asc_head : {lo y : ℕ} {ys : List ℕ} → Asc lo (y ∷ ys) → lo ≤ y
asc_head (cons h a) = h

pub asc_tail : {lo y : ℕ} {ys : List ℕ} → Asc lo (y ∷ ys) → Asc (suc y) ys
asc_tail (cons h a) = a

-- the ways that a number goes in
data Put (x y : ℕ) (ys : List ℕ) : List ℕ → Type 0 where
  first : x < y → Put x y ys (x ∷ y ∷ ys)
  behind : y < x → Put x y ys (y ∷ insert_cut x ys)
  same : x ≡ y → Put x y ys (y ∷ ys)

put : (x y : ℕ) (ys : List ℕ) → Put x y ys (insert_cut x (y ∷ ys))
unfolding insert_cut
put x y ys = go (ltb x y) refl (ltb y x) refl
  where
    go : (p : Bool) → ltb x y ≡ p → (q : Bool) → ltb y x ≡ q → Put x y ys (cond p (x ∷ y ∷ ys) (cond q (y ∷ insert_cut x ys) (y ∷ ys)))
    go true e q f = first (ltb-true x y e)
    go false e true f = behind (ltb-true y x f)
    go false e false f = same (omega (arith, ltb-false x y e, ltb-false y x f))

cut_asc : {lo : ℕ} (x : ℕ) (ys : List ℕ) → lo ≤ x → Asc lo ys → Asc lo (insert_cut x ys)
unfolding insert_cut
cut_asc x [] h a = cons h nil
cut_asc {lo} x (y ∷ ys) h (cons k a) = go (insert_cut x (y ∷ ys)) (put x y ys) (λ l. cut_asc x ys l a)
  where
    go : (zs : List ℕ) → Put x y ys zs → (y < x → Asc (suc y) (insert_cut x ys)) → Asc lo zs
    go zs (first l) rec = cons h (cons l a)
    go zs (behind l) rec = cons k (rec l)
    go zs (same e) rec = cons k a

cut_new : (x : ℕ) (ys : List ℕ) → In x (insert_cut x ys)
unfolding insert_cut
cut_new x [] = here refl
cut_new x (y ∷ ys) = go (insert_cut x (y ∷ ys)) (put x y ys) (cut_new x ys)
  where
    go : (zs : List ℕ) → Put x y ys zs → In x (insert_cut x ys) → In x zs
    go zs (first l) rec = here refl
    go zs (behind l) rec = there rec
    go zs (same e) rec = here e

cut_old : {c : ℕ} (x : ℕ) (ys : List ℕ) → In c ys → In c (insert_cut x ys)
cut_old x [] m = elim m [ ]
cut_old {c} x (y ∷ ys) m = go (insert_cut x (y ∷ ys)) (put x y ys) m (cut_old x ys)
  where
    go : (zs : List ℕ) → Put x y ys zs → In c (y ∷ ys) → (In c ys → In c (insert_cut x ys)) → In c zs
    go zs (first l) m rec = there m
    go zs (behind l) (here e) rec = here e
    go zs (behind l) (there m) rec = there (rec m)
    go zs (same e) m rec = m

cut_cases : {c : ℕ} (x : ℕ) (ys : List ℕ) → In c (insert_cut x ys) → (c ≡ x) ⊎ In c ys
unfolding insert_cut
cut_cases x [] (here e) = inl e
cut_cases x [] (there m) = inr m
cut_cases {c} x (y ∷ ys) m = go (insert_cut x (y ∷ ys)) (put x y ys) m (cut_cases x ys)
  where
    keep : (c ≡ x) ⊎ In c ys → (c ≡ x) ⊎ In c (y ∷ ys)
    keep (inl e) = inl e
    keep (inr m) = inr (there m)

    go : (zs : List ℕ) → Put x y ys zs → In c zs → (In c (insert_cut x ys) → (c ≡ x) ⊎ In c ys) → (c ≡ x) ⊎ In c (y ∷ ys)
    go zs (first l) (here e) rec = inl e
    go zs (first l) (there m) rec = inr m
    go zs (behind l) (here e) rec = inr (here e)
    go zs (behind l) (there m) rec = keep (rec m)
    go zs (same e) m rec = inr m

cut_length : (x : ℕ) (ys : List ℕ) → length (insert_cut x ys) ≤ suc (length ys)
unfolding insert_cut
cut_length x [] = omega arith
cut_length x (y ∷ ys) = go (insert_cut x (y ∷ ys)) (put x y ys) (cut_length x ys)
  where
    go : (zs : List ℕ) → Put x y ys zs → length (insert_cut x ys) ≤ suc (length ys) → length zs ≤ suc (suc (length ys))
    go zs (first l) rec = omega arith
    go zs (behind l) rec = omega arith
    go zs (same e) rec = omega arith

module _ (ts : List Task) where
  -- a task's mandatory part has instants
  abbrev pub Full : ℕ → Type 0
  Full i = latest_of ts i < run_end (task_at ts i)

  pub full_or : (i : ℕ) → Full i ⊎ (run_end (task_at ts i) ≤ latest_of ts i)
  full_or i = lt_or_le (latest_of ts i) (run_end (task_at ts i))

  cuts_full : (n : ℕ) → Full n → cuts_below ts (suc n) ≡ insert_cut (latest_of ts n) (insert_cut (run_end (task_at ts n)) (cuts_below ts n))
  unfolding cuts_below
  cuts_full n lt = rw (lt-ltb (latest_of ts n) (run_end (task_at ts n)) lt)

  cuts_void : (n : ℕ) → run_end (task_at ts n) ≤ latest_of ts n → cuts_below ts (suc n) ≡ cuts_below ts n
  unfolding cuts_below
  cuts_void n le = rw (le-ltb (latest_of ts n) (run_end (task_at ts n)) le)

  pub cuts_asc : (n : ℕ) → Asc 0 (cuts_below ts n)
  unfolding cuts_below
  cuts_asc zero = nil
  cuts_asc (suc n) =
      ⊎_elim
      (λ lt. rw (cuts_full n lt) (cut_asc _ _ (omega arith) (cut_asc _ _ (omega arith) (cuts_asc n))))
      (λ le. rw (cuts_void n le) (cuts_asc n))
      (full_or n)

  pub cuts_length : (n : ℕ) → length (cuts_below ts n) ≤ n + n
  unfolding cuts_below
  cuts_length zero = omega arith
  cuts_length (suc n) =
      ⊎_elim
      (λ lt. rw (cuts_full n lt)
      (omega (arith, cuts_length n, cut_length (run_end (task_at ts n)) (cuts_below ts n), cut_length (latest_of ts n) (insert_cut (run_end (task_at ts n)) (cuts_below ts n)))))
      (λ le. rw (cuts_void n le) (omega (arith, cuts_length n)))
      (full_or n)

  -- a part that is not empty starts and ends at a cut
  pub cuts_both : (n i : ℕ) → i < n → Full i → In (latest_of ts i) (cuts_below ts n) × In (run_end (task_at ts i)) (cuts_below ts n)
  unfolding cuts_below
  cuts_both zero i lt full = absurd (not-suc-le-zero lt)
  cuts_both (suc n) i lt full =
      elim (ℕ_discrete i n) [
        | yes e ↦ rw (← e, cuts_full i full) (cut_new _ _, cut_old _ _ (cut_new _ _))
        | no ne ↦ let b = cuts_both n i (omega arith) full in (up b.0, up b.1)
      ]
    where
      up : {c : ℕ} → In c (cuts_below ts n) → In c (cuts_below ts (suc n))
      up m = ⊎_elim (λ l. rw (cuts_full n l) (cut_old _ _ (cut_old _ _ m))) (λ le. rw (cuts_void n le) m) (full_or n)

  -- the task that a cut comes from
  pub record CutOf (n c : ℕ) : Type 0 where
    pub id : ℕ
    pub low : id < n
    pub full : Full id
    pub side : (c ≡ latest_of ts id) ⊎ (c ≡ run_end (task_at ts id))

  pub cuts_of : (n : ℕ) {c : ℕ} → In c (cuts_below ts n) → CutOf n c
  unfolding cuts_below
  cuts_of zero m = absurd (in-none m)
  cuts_of (suc n) {c} m =
      ⊎_elim
      (λ lt. outer lt (cut_cases _ _ (rw (cuts_full n lt) at m)) (cuts_of n))
      (λ le. keep (cuts_of n (rw (cuts_void n le) at m)))
      (full_or n)
    where
      keep : CutOf n c → CutOf (suc n) c
      keep w = record { id = w.id; low = omega (arith, w.low); full = w.full; side = w.side }

      inner : Full n → (c ≡ run_end (task_at ts n)) ⊎ In c (cuts_below ts n) → (In c (cuts_below ts n) → CutOf n c) → CutOf (suc n) c
      inner lt (inl e) rec = record { id = n; low = omega arith; full = lt; side = inr e }
      inner lt (inr k) rec = keep (rec k)

      outer : Full n → (c ≡ latest_of ts n) ⊎ In c (insert_cut (run_end (task_at ts n)) (cuts_below ts n)) → (In c (cuts_below ts n) → CutOf n c) → CutOf (suc n) c
      outer lt (inl e) rec = record { id = n; low = omega arith; full = lt; side = inl e }
      outer lt (inr k) rec = inner lt (cut_cases _ _ k) rec
