-- `remove_task_from_profile` meets its contract: the list has the task, so its place is found; the last id is stored there, and a 0 in the last place.
-- Assumes nothing.
use Rattle.std.proofs.Common.{◌≡◌, refl, ap, cond, ◌<◌, ℕ, List, length, ◌==◌, Some}
use Rattle.std.specs.List.{position as first_place, position_or_len}
use Rattle.std.proofs.lemmas.List.Recursion.{is_position_or_len}
use borrow.Author.Tests.{lt-ltb}
use Rattle.time_table.specs.Rows.{tasks}
use Rattle.time_table.specs.Removal.{position, without}
use Rattle.time_table.proofs.RowOf.{row_held, held_taken}
use native.Mathlib.Omega.{arith}
use Rattle.time_table.proofs.removal.remove_task_from_profile.Goals as goal

-- where a list has a number, std's first place is its position
first_is : (id : ℕ) (l : List ℕ) → position id l < length l → first_place (λ x. x == id) l ≡ Some (position id l)
first_is id l lt =
    let same : position id l ≡ position_or_len (λ x. x == id) l = is_position_or_len (position id) (λ x. x == id) refl (λ x xs. ap (λ (k : ℕ). cond (x == id) 0 k) (omega arith)) l in
    rw (← same, lt-ltb (position id l) (length l) lt)

pub unwrap-at-requires : goal.unwrap-at-requires
unwrap-at-requires c =
    let r = c.requires in
    rw (c.position.ensures, first_is c.args.part.id (tasks c.args.profile) (omega (arith, r.listed.counts, r.profile_bound))) refl

pub returns : goal.returns
unfolding without
returns c =
    let r = c.requires in
    let found = first_is c.args.part.id (tasks c.args.profile) (omega (arith, r.listed.counts, r.profile_bound)) in
    let at : c.unwrap-at.result ≡ position c.args.part.id (tasks c.args.profile) = cc (c.unwrap-at.ensures, c.position.ensures, found) in
    row_held _ _ _ (held_taken r.listed c.args.part.id c.unwrap-at.result at (omega (arith, at, r.profile_bound)))
