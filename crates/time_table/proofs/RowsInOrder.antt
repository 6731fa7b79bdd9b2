-- Insertion and removal keep the rows in order, apart from each other and not empty.
-- Assumes nothing.
use mathlib.Core.Bool.{Bool, true, false, cond}
use mathlib.Core.Logic.{⊎_elim}
use mathlib.Core.List.{List, [], ◌∷◌, ◌++◌, append_assoc, append-nil}
use Prim.Native.Nat.{ℕ, ◌+◌, ◌-◌, ◌≤◌, ◌<◌, min, max}
use native.Mathlib.Omega.{arith}
use lib.Dec.{eqb}
use Rattle.time_table.specs.declared.Row.{Row}
use Rattle.time_table.specs.declared.Part.{Part}
use Rattle.time_table.specs.Rows.{cut}
use Rattle.time_table.specs.Order.{Ordered}
use Rattle.time_table.specs.Insertion.{alone, joined, started_at, past_row, insertion}
use Rattle.time_table.specs.Removal.{without, lessened, removal}
use Rattle.time_table.proofs.Cut.{cut_none, cut_some}
use Rattle.time_table.proofs.Sums.{lt_or_le}

pub ordered_from : (hi lo lo' : ℕ) (rows : List Row) → lo ≤ lo' → Ordered hi lo' rows → Ordered hi lo rows
unfolding Ordered
ordered_from hi lo lo' [] le o = tt
ordered_from hi lo lo' (r ∷ rs) le o = (omega arith, o.1, o.2, o.3)

-- a cut row before rows that begin at m or later
pub ordered_cut : (r : Row) (x y hi lo m : ℕ) (rest : List Row) → Ordered hi m rest → lo ≤ m → (x < y → lo ≤ x) → (x < y → y ≤ m) → (x < y → y ≤ hi) → Ordered hi lo (cut r x y ++ rest)
unfolding Ordered
ordered_cut r x y hi lo m rest o le low high top =
    ⊎_elim
    (λ lt.
    rw (cut_some r x y lt) (low lt, omega arith, omega (arith, top lt), ordered_from hi (y - 1 + 1) m rest (omega (arith, high lt)) o))
    (λ ge. rw (cut_none r x y ge) (ordered_from hi lo m rest le o))
    (lt_or_le x y)

module _ (p : Part) (hi : ℕ) where
  pub insertion_ordered : (lo x : ℕ) (rows : List Row) → Ordered hi lo rows → x ≤ p.until → p.until ≤ hi → (x < p.until → lo ≤ x)
      → Ordered hi lo (insertion (started_at p x) rows)
  unfolding insertion Ordered
  insertion_ordered lo x [] o le top low =
      rw (← (append-nil (cut (alone p) x p.until)))
      (ordered_cut (alone p) x p.until hi lo (max lo p.until) [] tt (omega arith) low (omega arith) (omega arith))
  insertion_ordered lo x (r ∷ rs) o le top low =
      let q = started_at p x in
      let s = r.start in
      let e = r.end + 1 in
      let b = p.until in
      let m = max s (min x e) in
      let n = max m (min b e) in
      let rest = insertion_ordered e (past_row q r) rs o.3 (omega arith) top (omega arith) in
      simp append_assoc
      (ordered_cut (alone p) x (min b s) hi lo s _
      (ordered_cut r s (min x e) hi s m _
      (ordered_cut (joined r p.id p.usage) (max x s) (min b e) hi m n _
      (ordered_cut r (max b s) e hi n e _ rest (omega arith) (omega arith) (omega arith) (omega arith))
      (omega arith) (omega arith) (omega arith) (omega arith))
      (omega arith) (omega arith) (omega arith) (omega arith))
      o.0 (λ lt. low (omega arith)) (omega arith) (omega arith))

  ordered_lessened : (r : Row) (lo m : ℕ) (rest : List Row) → Ordered hi m rest → lo ≤ m
      → (max p.from r.start < min p.until (r.end + 1) → lo ≤ max p.from r.start)
      → (max p.from r.start < min p.until (r.end + 1) → min p.until (r.end + 1) ≤ m)
      → (max p.from r.start < min p.until (r.end + 1) → min p.until (r.end + 1) ≤ hi)
      → Ordered hi lo (lessened p r ++ rest)
  unfolding lessened
  ordered_lessened r lo m rest o le low high top = either (eqb r.height p.usage)
    where
      either : (b : Bool) → Ordered hi lo (cond b [] (cut (without r p.id p.usage) (max p.from r.start) (min p.until (r.end + 1))) ++ rest)
      either true = ordered_from hi lo m rest le o
      either false = ordered_cut (without r p.id p.usage) _ _ hi lo m rest o le low high top

  pub removal_ordered : (lo : ℕ) (rows : List Row) → Ordered hi lo rows → p.from ≤ p.until → Ordered hi lo (removal p rows)
  unfolding removal Ordered
  removal_ordered lo [] o le = tt
  removal_ordered lo (r ∷ rs) o le =
      let s = r.start in
      let e = r.end + 1 in
      let a = p.from in
      let b = p.until in
      let m = max s (min a e) in
      let n = max m (min b e) in
      let rest = removal_ordered e rs o.3 le in
      simp append_assoc
      (ordered_cut r s (min a e) hi lo m _
      (ordered_lessened r m n _
      (ordered_cut r (max b s) e hi n e _ rest (omega arith) (omega arith) (omega arith) (omega arith))
      (omega arith) (omega arith) (omega arith) (omega arith))
      (omega arith) (omega arith) (omega arith) (omega arith))
