-- `ended` meets its contract: rows in order end later and later, so the halving search finds where those begin that do not end before the instant.
-- Assumes nothing.
use Rattle.std.proofs.Common.{◌≡◌, Bool, arith, ℕ, ◌+◌, ◌≤◌, ◌<◌, List, length, take, drop, rules}
use mathlib.Core.Logic.{⊎_elim}
use borrow.Author.Tests.{lt-ltb, ltb-true, ltb-false}
use lib.Dec.{ltb}
use lib.ListN.{length-drop}
use lib.Seq.{get_or-take, get_or-drop}
use Rattle.std.proofs.lemmas.List.{length-take-le, get_or_default}
use Rattle.std.specs.List.Sorted.{IsPartitionedBy}
use Rattle.std.proofs.lemmas.List.Sorted.{IsPartitionPoint-from_clause}
use Rattle.time_table.specs.declared.Row.{Row}
use Rattle.time_table.specs.Rows.{no_row, row_at}
use Rattle.time_table.specs.Order.{Ordered, ticks}
use Rattle.time_table.proofs.AtRow.{each_of, ordered_at, ordered_apart}
use Rattle.time_table.proofs.Sums.{lt_or_le}
use Rattle.time_table.proofs.rewriting.ended.Goals as goal

-- a later row ends later
later_end : (lo : ℕ) (rows : List Row) (i k : ℕ) → Ordered ticks lo rows → i ≤ k → k < length rows → (row_at rows i).end ≤ (row_at rows k).end
later_end lo rows i k o le lt =
    ⊎_elim
    (λ less. omega (arith, ordered_apart ticks lo rows i k o less lt, ordered_at ticks lo rows k lt o))
    (λ ge. let same : i ≡ k = omega arith in rw same (omega arith))
    (lt_or_le i k)

pub returns : goal.returns
returns c =
    let rows = c.args.rows.now in
    let n = c.partition_point.result in
    let early : Row → Bool = λ r. ltb r.end c.args.instant in
    let in_order : IsPartitionedBy early rows =
    λ i j d le lt h.
    rw (get_or_default rows i d no_row (omega arith))
    (lt-ltb (row_at rows i).end c.args.instant
    (omega (arith, later_end 0 rows i j c.requires le lt, ltb-true (row_at rows j).end c.args.instant (rw (get_or_default rows j d no_row lt) at h)))) in
    let point = IsPartitionPoint-from_clause early rows n c.partition_point.ensures.partitioned in_order (λ a r q k. search rules) in
    record {
      within = c.partition_point.ensures.bound;
      early = each_of _ (take n rows) (λ k lt.
          let below : k < n = omega (arith, length-take-le n rows c.partition_point.ensures.bound) in
          rw (get_or-take n rows k no_row below) (ltb-true (row_at rows k).end c.args.instant (point.0 k no_row (omega arith) below)));
      late = each_of _ (drop n rows) (λ k lt.
          rw (get_or-drop n rows k no_row)
          (ltb-false (row_at rows (n + k)).end c.args.instant (point.1 (n + k) no_row (omega arith) (omega (arith, length-drop n rows)))));
    }
