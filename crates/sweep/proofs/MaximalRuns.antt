-- The maximal runs of a function from instants to lists, as rows: they are determined by the function.
-- Assumes nothing.
use mathlib.Core.Path.{◌≡◌, refl, sym, ap, ◌∙◌, subst}
use mathlib.Core.Logic.{⊎_elim}
use mathlib.Core.List.{List, [], ◌∷◌}
use Prim.Native.Nat.{ℕ, suc, ◌≤◌, ◌<◌}
use native.Mathlib.Omega.{arith}
use Rattle.time_table.specs.declared.Row.{Row}
use Rattle.time_table.specs.Rows.{row_of, tasks}
use Rattle.time_table.specs.Meaning.{total}
use Rattle.time_table.proofs.Sums.{lt_or_le}

module _ (f : ℕ → List ℕ) (usage : ℕ → ℕ) where
  -- r is the first run of f from the instant lo on
  pub record Run (lo : ℕ) (r : Row) : Type 0 where
    pub from : lo ≤ r.start
    pub gap : (t : ℕ) → lo ≤ t → t < r.start → f t ≡ []
    pub proper : r.start ≤ r.end
    pub same : (t : ℕ) → r.start ≤ t → t ≤ r.end → f t ≡ tasks r
    pub some : tasks r ≡ [] → ⊥
    pub high : r.height ≡ total usage (tasks r)
    pub whole : r ≡ row_of r.start r.end r.height (tasks r)
    pub ends : f (suc r.end) ≡ tasks r → ⊥

  -- the rows are the runs of f from lo on, in order
  pub data Runs : ℕ → List Row → Type 0 where
    done : {lo : ℕ} → ((t : ℕ) → lo ≤ t → f t ≡ []) → Runs lo []
    more : {lo : ℕ} {r : Row} {rs : List Row} → Run lo r → Runs (suc r.end) rs → Runs lo (r ∷ rs)

  -- a run does not start within another's gap
  no_earlier : {lo : ℕ} {r q : Row} → Run lo r → Run lo q → r.start < q.start → ⊥
  no_earlier {lo} {r} {q} x y h = x.some (sym (x.same r.start (omega arith) x.proper) ∙ y.gap r.start x.from h)

  starts_alike : {lo : ℕ} {r q : Row} → Run lo r → Run lo q → r.start ≡ q.start
  starts_alike {lo} {r} {q} x y =
      ⊎_elim
      (λ h. absurd (no_earlier x y h))
      (λ h. ⊎_elim (λ k. absurd (no_earlier y x k)) (λ k. omega arith) (lt_or_le q.start r.start))
      (lt_or_le r.start q.start)

  lists_alike : {lo : ℕ} {r q : Row} → Run lo r → Run lo q → tasks r ≡ tasks q
  lists_alike {lo} {r} {q} x y =
      let e : r.start ≡ q.start = starts_alike x y in
      let p : q.start ≤ q.end = y.proper in
      sym (x.same r.start (omega arith) x.proper) ∙ y.same r.start (omega arith) (omega arith)

  no_shorter : {lo : ℕ} {r q : Row} → Run lo r → Run lo q → r.end < q.end → ⊥
  no_shorter {lo} {r} {q} x y h =
      let e : r.start ≡ q.start = starts_alike x y in
      let p : r.start ≤ r.end = x.proper in
      x.ends (y.same (suc r.end) (omega arith) (omega arith) ∙ sym (lists_alike x y))

  ends_alike : {lo : ℕ} {r q : Row} → Run lo r → Run lo q → r.end ≡ q.end
  ends_alike {lo} {r} {q} x y =
      ⊎_elim
      (λ h. absurd (no_shorter x y h))
      (λ h. ⊎_elim (λ k. absurd (no_shorter y x k)) (λ k. omega arith) (lt_or_le q.end r.end))
      (lt_or_le r.end q.end)

  run_unique : {lo : ℕ} {r q : Row} → Run lo r → Run lo q → r ≡ q
  run_unique {lo} {r} {q} x y =
      let a = starts_alike x y in
      let b = ends_alike x y in
      let l = lists_alike x y in
      let h : r.height ≡ q.height = x.high ∙ ap (total usage) l ∙ sym y.high in
      x.whole ∙ (λ i. row_of (a i) (b i) (h i) (l i)) ∙ sym y.whole

  -- the rows are determined
  pub runs_unique : {lo : ℕ} (rs qs : List Row) → Runs lo rs → Runs lo qs → rs ≡ qs
  runs_unique [] [] x y = refl
  runs_unique [] (q ∷ qs) (done h) (more y v) =
      absurd (y.some (sym (y.same q.start (omega arith) y.proper) ∙ h q.start y.from))
  runs_unique (r ∷ rs) [] (more x u) (done h) =
      absurd (x.some (sym (x.same r.start (omega arith) x.proper) ∙ h r.start x.from))
  runs_unique (r ∷ rs) (q ∷ qs) (more x u) (more y v) =
      let e : r ≡ q = run_unique x y in
      let v' : Runs (suc r.end) qs = subst (λ (n : ℕ). Runs (suc n) qs) (sym (ends_alike x y)) v in
      let t : rs ≡ qs = runs_unique rs qs u v' in
      λ i. e i ∷ t i
