-- Splitting a line at its spaces gives its fields, one after the other; a line that is too long says nothing.
-- Assumes nothing.
use Rattle.std.proofs.Common.{◌≡◌, ℕ, ◌<◌, ◌≤◌, Bool, true, false, cond, List, [], ◌∷◌, ◌++◌, length, refl, sym, ap, ◌∙◌, subst, arith, get_or}
use Rattle.std.specs.Bool.{MatchBool}
use Rattle.std.specs.List.{All, slice_split, onto_first, IsFirstMatchOrLen}
use Rattle.std.proofs.lemmas.Grind.{common_steps}
use Rattle.std.proofs.lemmas.List.Splits.{slice_split_none, slice_split_at}
use Rattle.std.specs.Fn.{ComputesKey}
use Rattle.std.specs.Prelude.{Some}
use Rattle.std.specs.Slice.Iter.{split_done, split_rest, split_callee, split_steps}
use Rattle.std.specs.declared.slice.Split.{Split}
use denote.Param.Members.{Mut}
use denote.Ref.{Bor}
use lib.Dec.{eqb}
use borrow.Author.Tests.{le-leb, lt-leb}
use Rattle.command.specs.declared.Command.TheVariants.{Unreadable}
use Rattle.command.specs.Grammar.{in_first, fields_of, asked_by, line_limit, command_of}

-- whether a byte is a space
abbrev pub space : ℕ → Bool
space b = eqb b 32

same_first : (b : ℕ) (fs : List (List ℕ)) → in_first b fs ≡ onto_first b fs
same_first b [] = refl
same_first b (f ∷ fs) = refl

fields_split : (l : List ℕ) → fields_of l ≡ slice_split space l
unfolding fields_of
fields_split [] = refl
fields_split (b ∷ bs) = rw (fields_split bs, same_first b (slice_split space bs)) refl

-- the fields that are left: none when it is done, and else those of the rest
abbrev pub left : Bool → List ℕ → List (List ℕ)
left done rest = cond done [] (fields_of rest)

pub left_first : {done : Bool} {rest l : List ℕ} → rest ≡ l → done ≡ false → fields_of l ≡ left done rest
left_first e f = rw (e, f) refl

pub left_over : (done : Bool) (l : List ℕ) → done ≡ true → left done l ≡ []
left_over done l e = rw e refl

left_more : (l x rest : List ℕ) (now then : Bool) → now ≡ false → MatchBool then (l ≡ x) ((y : ℕ) × (l ≡ x ++ (y ∷ rest))) → IsFirstMatchOrLen space l (length x)
    → left now l ≡ x ∷ left then rest
left_more l x rest now then more cut first = ap (λ (done : Bool). left done l) more ∙ go then cut first
  where
    go : (then : Bool) → MatchBool then (l ≡ x) ((y : ℕ) × (l ≡ x ++ (y ∷ rest))) → IsFirstMatchOrLen space l (length x) → fields_of l ≡ x ∷ left then rest
    go true e h =
        ap fields_of e ∙ fields_split x ∙ slice_split_none space x (λ k d m. subst (λ (ys : List ℕ). space (get_or ys k d) ≡ false) e (h.0 k d (omega arith) m))
    go false e h =
        let front : All (λ z. space z ≡ false) x = λ k d m. let a = h.0 k d (omega arith) m in let b = e.1 in grind (arith, common_steps) in
        let hit : space e.0 ≡ true = let b = e.1 in let a = h.1 (grind (arith, common_steps)) e.0 in grind (arith, common_steps) in
        ap fields_of e.1 ∙ fields_split (x ++ (e.0 ∷ rest)) ∙ slice_split_at space x e.0 rest front hit ∙ ap (λ (fs : List (List ℕ)). x ∷ fs) (sym (fields_split rest))

-- so what a call of `next` gives is the first of them, where the test is that for a space
pub next_field : {F : Type 0} (g : Mut F (Bor ℕ × Unit {0}) Bool) (s t : Split ℕ F) (x : Bor (List ℕ)) → split_steps g s (Some x) t → ComputesKey g space (split_callee s)
    → left (split_done s) (split_rest s) ≡ x.now ∷ left (split_done t) (split_rest t)
next_field g s t x step test = left_more _ _ _ _ _ step.0 step.1 (step.2 space test).1

-- a line that is too long, and one that is not
pub line_long : (line : List ℕ) → line_limit < length line → command_of line ≡ Unreadable
unfolding command_of
line_long line many = simp (lt-leb (length line) line_limit many)

pub line_short : (line : List ℕ) → length line ≤ line_limit → command_of line ≡ asked_by (fields_of line)
unfolding command_of
line_short line few = simp (le-leb (length line) line_limit few)
