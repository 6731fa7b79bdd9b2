-- `table` meets its contract: what is written is followed by empty rows up to the end of the array.
-- Assumes nothing.
use Rattle.std.proofs.Common.{◌≡◌, sym, ap, ◌∙◌, ◌-◌, ◌++◌, ℕ, length, take, replicate}
use Rattle.std.proofs.lemmas.List.{take-append-drop}
use Rattle.time_table.specs.Rows.{empty_row}
use Rattle.time_table.specs.Rewriting.{Rewritten}
use Rattle.time_table.proofs.rewriting.Places.{cleared_level}
use Rattle.time_table.proofs.rewriting.Rewriting.table.Goals as goal

pub returns : goal.returns
returns c =
    let i = c.self.invariant in
    let s = c.self.inside in
    let level = cleared_level i (rw (← c.self.view_is) at c.requires) in
    let end : s.table.count ≡ length c.args.self.written = ap (λ (r : Rewritten). r.end) c.self.view_is ∙ c.requires.end in
    let written = ap (λ (n : ℕ). take n s.table.rows) (sym level.1) ∙ ap (λ (r : Rewritten). r.written) c.self.view_is in
    let rows = sym (take-append-drop s.table.count s.table.rows) ∙ (λ k. written k ++ (i.blank ∙ ap (λ (n : ℕ). replicate (128 - n) empty_row) end) k) in
    λ k. record { rows = rows k; count = end k }
