-- What a sweep answers is what the document's sentence says, and nothing else is: one row at most is the earliest that is too high. A table
-- without such a row is one that the edits go on from.
-- Assumes nothing.
use mathlib.Core.Path.{◌≡◌, refl, sym, ap, ◌∙◌, subst}
use mathlib.Core.Logic.{⊎_elim}
use mathlib.Core.List.{List}
use Prim.Native.Nat.{ℕ, ◌<◌}
use native.Mathlib.Omega.{arith}
use Rattle.std.proofs.Common.{Option, Some, None, Result, Ok, Err}
use Rattle.time_table.specs.declared.Row.{Row}
use Rattle.time_table.specs.declared.Table.{Table}
use Rattle.time_table.specs.Held.{Held}
use Rattle.time_table.specs.Rows.{empty_row, table_of, row_at, rows_of}
use Rattle.time_table.specs.Order.{Arranged}
use Rattle.time_table.specs.Meaning.{Right}
use Rattle.time_table.specs.Overload.{conflict_in, FirstOver, NoneOver}
use Rattle.time_table.proofs.Sums.{lt_or_le}
use Rattle.time_table.proofs.Overloaded.{conflict_row, conflict_none_over}
use Rattle.time_table.proofs.Held.{held_self, held_list}
use Rattle.sweep.specs.declared.Task.{Task}
use Rattle.sweep.specs.declared.Tasks.{Tasks}
use Rattle.sweep.specs.Tasks.{tasks_of, runs, usage_of, Sweepable}
use Rattle.sweep.specs.Sweep.{sweep, swept_by, swept}
use Rattle.sweep.specs.Sentence.{SweptOf}
use Rattle.sweep.proofs.Sentence.{sweep_is, sweep_unique}
use Rattle.sweep.proofs.SweepRows.{sweep_length}
use Rattle.sweep.proofs.Right.{sweep_right}

module _ (capacity : ℕ) (rows : List Row) where
  -- one row is the earliest that is too high, and only where some row is
  first_alike : {r q : Row} → FirstOver capacity rows r → FirstOver capacity rows q → r ≡ q
  first_alike {r} {q} a b = a.is ∙ ap (row_at rows) place ∙ sym b.is
    where
      low : {x y : Row} (v : FirstOver capacity rows x) (w : FirstOver capacity rows y) → v.at < w.at → ⊥
      low v w lt = omega (arith, v.over, w.first v.at lt, ap (λ (x : Row). x.height) v.is)

      place : a.at ≡ b.at
      place =
          ⊎_elim
          (λ lt. absurd (low a b lt))
          (λ le. ⊎_elim (λ lt. absurd (low b a lt)) (λ ge. omega arith) (lt_or_le b.at a.at))
          (lt_or_le a.at b.at)

  first_some : {r : Row} → FirstOver capacity rows r → NoneOver capacity rows → ⊥
  first_some a none = omega (arith, a.over, none a.at a.within, ap (λ (x : Row). x.height) a.is)

-- the answer is what the document's sentence says, and no other is
module _ (capacity : ℕ) (ts : List Task) where
  pub over_is : (r : Row) → swept capacity ts ≡ Err r → conflict_in capacity (sweep ts) ≡ Some r
  over_is r e = go (conflict_in capacity (sweep ts)) refl e
    where
      go : (c : Option Row) → conflict_in capacity (sweep ts) ≡ c → swept_by c (sweep ts) ≡ Err r → conflict_in capacity (sweep ts) ≡ Some r
      go (Some q) is e = is ∙ (let same : q ≡ r = cc in ap Some same)
      go None is e = absurd (cc)

  pub fits_is : (t : Table) → swept capacity ts ≡ Ok t → (conflict_in capacity (sweep ts) ≡ None) × (t ≡ table_of (sweep ts))
  fits_is t e = go (conflict_in capacity (sweep ts)) refl e
    where
      go : (c : Option Row) → conflict_in capacity (sweep ts) ≡ c → swept_by c (sweep ts) ≡ Ok t
          → (conflict_in capacity (sweep ts) ≡ None) × (t ≡ table_of (sweep ts))
      go (Some q) is e = absurd (cc)
      go None is e = (is, cc)

  pub swept_is : SweptOf capacity ts (swept capacity ts)
  swept_is =
      record {
        rows = sweep ts;
        sweeps = sweep_is ts;
        over = λ r e. conflict_row capacity (sweep ts) r (over_is r e);
        fits = λ t e. let w = fits_is t e in (conflict_none_over capacity (sweep ts) w.0, w.1);
      }

  pub swept_unique : (s : Result Table Row) → SweptOf capacity ts s → s ≡ swept capacity ts
  swept_unique s w = go s refl (conflict_in capacity (sweep ts)) refl
    where
      same : w.rows ≡ sweep ts
      same = sweep_unique ts w.rows w.sweeps

      over : (r : Row) → s ≡ Err r → FirstOver capacity (sweep ts) r
      over r e = subst (λ (l : List Row). FirstOver capacity l r) same (w.over r e)

      fits : (t : Table) → s ≡ Ok t → NoneOver capacity (sweep ts) × (t ≡ table_of (sweep ts))
      fits t e = subst (λ (l : List Row). NoneOver capacity l × (t ≡ table_of l)) same (w.fits t e)

      go : (a : Result Table Row) → s ≡ a → (c : Option Row) → conflict_in capacity (sweep ts) ≡ c → a ≡ swept_by c (sweep ts)
      go (Err r) p (Some q) is = ap Err (first_alike capacity (sweep ts) (over r p) (conflict_row capacity (sweep ts) q is))
      go (Err r) p None is = absurd (first_some capacity (sweep ts) (over r p) (conflict_none_over capacity (sweep ts) is))
      go (Ok t) p (Some q) is = absurd (first_some capacity (sweep ts) (conflict_row capacity (sweep ts) q is) (fits t p).0)
      go (Ok t) p None is = ap Ok (fits t p).1

module _ (capacity : ℕ) (ts : Tasks) (can : Sweepable ts) (t : Table) (fits : swept capacity (tasks_of ts) ≡ Ok t) where
  held : Held 128 empty_row t.rows t.count (sweep (tasks_of ts))
  held =
      rw (fits_is capacity (tasks_of ts) t fits).1
      (record { is = refl; counts = refl; fits = omega (arith, sweep_length (tasks_of ts), can.held.counts, can.held.fits) })

  -- a table: it holds the sweep's rows
  pub swept_rows : rows_of t ≡ sweep (tasks_of ts)
  swept_rows = held_list held

  right : Right (runs (tasks_of ts)) (usage_of (tasks_of ts)) (sweep (tasks_of ts))
  right = sweep_right (tasks_of ts) (omega (arith, can.held.counts, can.held.fits)) can.ends

  -- it is a table that the edits go on from
  pub swept_arranged : Arranged t
  swept_arranged = record { clean = held_self held; ordered = rw swept_rows right.ordered }

  pub swept_right : Right (runs (tasks_of ts)) (usage_of (tasks_of ts)) (rows_of t)
  swept_right = rw swept_rows right
