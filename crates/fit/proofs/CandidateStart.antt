-- The candidate from row to row: where it moves and where it stays. It never goes back, and no row behind the run from it moves it.
-- Assumes nothing.
use mathlib.Core.Path.{◌≡◌, refl, sym, ◌∙◌}
use mathlib.Core.Bool.{and-false}
use mathlib.Core.Logic.{⊎_elim}
use mathlib.Core.List.{List, [], ◌∷◌}
use Prim.Native.Nat.{ℕ, ◌+◌, ◌≤◌, ◌<◌, max}
use native.Mathlib.Omega.{arith}
use Rattle.std.proofs.Common.{Some, None}
use borrow.Author.Tests.{lt-ltb, le-ltb, le-leb, lt-leb}
use Rattle.time_table.specs.declared.Row.{Row}
use Rattle.time_table.specs.Order.{Ordered}
use Rattle.time_table.proofs.Sums.{lt_or_le}
use Rattle.fit.specs.declared.Asked.{Asked}
use Rattle.fit.specs.FirstFit.{seen, moved, settled, answer, first_fit}

module _ (asked : Asked) (capacity s : ℕ) (r : Row) where
  -- a row that ends before the candidate, one that starts behind the run, and one that is not too high leave it
  pub moved_after : r.end < s → moved asked capacity s r ≡ s
  unfolding moved
  moved_after h = rw (lt-leb s r.end h, and-false)

  pub moved_before : s + asked.run ≤ r.start → moved asked capacity s r ≡ s
  unfolding moved
  moved_before h = rw (le-ltb r.start (s + asked.run) h)

  pub moved_under : seen asked r + asked.usage ≤ capacity → moved asked capacity s r ≡ s
  unfolding moved
  moved_under h = rw (le-ltb capacity (seen asked r + asked.usage) h, and-false)

  -- any other row moves it
  pub moved_behind : r.start < s + asked.run → s ≤ r.end → capacity < seen asked r + asked.usage → moved asked capacity s r ≡ r.end + 1
  unfolding moved
  moved_behind l h high = rw (lt-ltb r.start (s + asked.run) l, le-leb s r.end h, lt-ltb capacity (seen asked r + asked.usage) high)

  -- so a row that is too high and does not start behind the run moves it behind itself, unless it is there
  pub moved_high : r.start < s + asked.run → capacity < seen asked r + asked.usage → moved asked capacity s r ≡ max s (r.end + 1)
  moved_high l high =
      ⊎_elim (λ (h : r.end < s). omega (arith, moved_after h)) (λ (h : s ≤ r.end). omega (arith, moved_behind l h high)) (lt_or_le r.end s)

  -- the four cases
  pub by_row : {P : Type 0} → (r.end < s → P) → (s + asked.run ≤ r.start → P) → (seen asked r + asked.usage ≤ capacity → P)
      → (r.start < s + asked.run → s ≤ r.end → capacity < seen asked r + asked.usage → P) → P
  by_row after before under behind =
      ⊎_elim after
      (λ h. ⊎_elim
      (λ l. ⊎_elim (behind l h) under (lt_or_le capacity (seen asked r + asked.usage)))
      before
      (lt_or_le r.start (s + asked.run)))
      (lt_or_le r.end s)

  moved_grows : s ≤ moved asked capacity s r
  moved_grows =
      by_row
      (λ h. omega (arith, moved_after h))
      (λ h. omega (arith, moved_before h))
      (λ h. omega (arith, moved_under h))
      (λ l h high. omega (arith, moved_behind l h high))

module _ (asked : Asked) where
  -- the answer, by cases
  pub answer_found : (s : ℕ) → s ≤ asked.latest → answer asked s ≡ Some s
  unfolding answer
  answer_found s h = rw (le-leb s asked.latest h)

  pub answer_none : (s : ℕ) → asked.latest < s → answer asked s ≡ None
  unfolding answer
  answer_none s h = rw (lt-leb s asked.latest h)

module _ (asked : Asked) (capacity : ℕ) where
  pub settled_grows : (s : ℕ) (rows : List Row) → s ≤ settled asked capacity s rows
  unfolding settled
  settled_grows s [] = omega arith
  settled_grows s (r ∷ rs) = omega (arith, moved_grows asked capacity s r, settled_grows (moved asked capacity s r) rs)

  -- rows behind the run leave the candidate
  pub settled_before : (hi lo s : ℕ) (rows : List Row) → Ordered hi lo rows → s + asked.run ≤ lo → settled asked capacity s rows ≡ s
  unfolding settled Ordered
  settled_before hi lo s [] o h = refl
  settled_before hi lo s (r ∷ rs) o h =
      rw (moved_before asked capacity s r (omega arith)) (settled_before hi (r.end + 1) s rs o.3 (omega arith))

  -- a candidate past the bounds does not come back
  pub answer_late : (s : ℕ) (rows : List Row) → asked.latest < s → answer asked (settled asked capacity s rows) ≡ answer asked s
  answer_late s rows h =
      answer_none asked (settled asked capacity s rows) (omega (arith, settled_grows s rows)) ∙ sym (answer_none asked s h)

  -- the first fit, by cases
  pub over_none : (rows : List Row) → capacity < asked.usage → first_fit asked capacity rows ≡ None
  unfolding first_fit
  over_none rows h = rw (lt-ltb capacity asked.usage h)

  pub room_some : (rows : List Row) → asked.usage ≤ capacity → first_fit asked capacity rows ≡ answer asked (settled asked capacity asked.earliest rows)
  unfolding first_fit
  room_some rows h = rw (le-ltb capacity asked.usage h)
