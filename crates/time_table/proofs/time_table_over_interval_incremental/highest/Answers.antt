-- `highest` meets its contract: it folds the heights by their maximum, from 0 on.
-- Assumes nothing.
use Rattle.std.proofs.Common.{◌≡◌, ℕ, max, List, [], ◌∷◌, arith, rules}
use Rattle.std.specs.List.{fold}
use Rattle.std.proofs.iter.runs.Made.{chains}
use Rattle.time_table.specs.declared.Row.{Row}
use Rattle.time_table.specs.Overload.{highest}
use Rattle.time_table.proofs.time_table_over_interval_incremental.highest.Goals as goal

folded : (a : ℕ) (rows : List Row) → fold (λ (h : ℕ) (r : Row). max h r.height) a rows ≡ max a (highest rows)
unfolding highest
folded a [] = omega arith
folded a (r ∷ rs) = omega (arith, folded (max a r.height) rs)

pub returns : goal.returns
returns c =
    let is : c.fold.result ≡ fold (λ (h : ℕ) (r : Row). max h r.height) 0 c.args.rows.now = search (rules, chains) in
    omega (arith, is, folded 0 c.args.rows.now)
