-- `find_conflicting_profile` meets its contract: where the greatest height is not too high no row is, and else the first that is too high is found.
-- Assumes nothing.
use Rattle.std.proofs.Common.{◌≡◌, sym, ◌∙◌, ap, ℕ, ◌≤◌, cond, List, [], ◌∷◌, refl, None, Some, nat_lt, arith}
use Rattle.std.specs.List.{find}
use borrow.Author.Tests.{le-ltb}
use Rattle.time_table.specs.declared.Row.{Row}
use Rattle.time_table.specs.Rows.{rows_of}
use Rattle.time_table.specs.Overload.{highest, conflict_in}
use Rattle.time_table.proofs.time_table_over_interval_incremental.find_conflicting_profile.Goals as goal

found : (capacity : ℕ) (rows : List Row) → find (λ r. nat_lt capacity r.height) rows ≡ conflict_in capacity rows
unfolding conflict_in
found capacity [] = refl
found capacity (r ∷ rs) = ap (cond (nat_lt capacity r.height) (Some r)) (found capacity rs)

none_higher : (capacity : ℕ) (rows : List Row) → highest rows ≤ capacity → conflict_in capacity rows ≡ None
unfolding conflict_in highest
none_higher capacity [] le = refl
none_higher capacity (r ∷ rs) le = rw (le-ltb capacity r.height (omega arith)) (none_higher capacity rs (omega arith))

pub returns-then-capacity-highest : goal.returns-then-capacity-highest
returns-then-capacity-highest c = c.copied.ensures ∙ c.first_higher.ensures ∙ found c.args.capacity (rows_of c.args.table.now)

pub returns : goal.returns
returns c = sym (none_higher c.args.capacity (rows_of c.args.table.now) (omega (arith, c.highest.ensures, c.if-capacity-highest.false)))
