-- What writers wrote: nothing; numbers, and then others.
-- Assumes nothing.
use mathlib.Core.Path.{refl, sym, ap, ◌∙◌}
use mathlib.Core.List.{List, [], ◌++◌}
use lib.IntN.{ℤ}
use Rattle.script.specs.declared.answers.Writer.{Writer}
use Rattle.script.specs.Pages.{Page, puts}
use Rattle.script.specs.Written.{Written}
use Rattle.script.proofs.Pages.{puts_append}

pub wrote_none : (w : Writer) → Written w [] w
unfolding puts
wrote_none w = record { slice = refl; page = refl }

pub wrote_then : {a b c : Writer} {xs ys : List ℤ} → Written a xs b → Written b ys c → Written a (xs ++ ys) c
wrote_then {xs = xs} {ys = ys} first second =
    record { slice = second.slice ∙ first.slice; page = second.page ∙ ap (λ (p : Page). puts p ys) first.page ∙ sym (puts_append _ xs ys) }
