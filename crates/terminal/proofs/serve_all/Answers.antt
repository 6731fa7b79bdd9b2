-- `serve_all` meets its contract: each turn takes a byte at least, and what is left leads to the state after all bytes.
-- Assumes nothing.
use Rattle.std.proofs.Common.{◌≡◌, ℕ, List, [], ◌∷◌, ◌<◌, refl, ◌∙◌, rules, arith, length, length-drop, length-take}
use Rattle.command.specs.declared.lines.State.{State}
use Rattle.terminal.specs.Reads.{state_after, BytesAnswered}
use Rattle.terminal.proofs.ServedBytes.{serves_some, serves_within, serves_leads}
use Rattle.terminal.proofs.serve_all.Goals as goal

none_left : (s : State) (rest : List ℕ) → length rest ≡ 0 → s ≡ state_after s rest
unfolding state_after
none_left s [] over = refl
none_left s (b ∷ bs) over = absurd (omega arith)

pub slice_bounds-rest-count : goal.slice_bounds-rest-count
slice_bounds-rest-count g c = serves_within c.serve-served.ensures.serves

pub slice_bounds-rest-start : goal.slice_bounds-rest-start
slice_bounds-rest-start g c = search (rules, slice_bounds-rest-count g c)

pub loop-rest-smaller : goal.loop-rest-smaller
loop-rest-smaller g c =
    let some : 0 < length c.loop-rest.rest.now = grind arith in
    grind (arith, length-drop, length-take, serves_some c.serve-served.ensures.serves (search rules) some)

pub loop-rest-preserved : goal.loop-rest-preserved
loop-rest-preserved g c =
    record { ready = c.serve-served.ensures.ready_state_2; leads = serves_leads c.serve-served.ensures.serves ∙ c.loop-rest.invariant.leads }

pub returns-clause-bytes_answered : goal.returns-clause-bytes_answered
returns-clause-bytes_answered g c = BytesAnswered.all refl refl (none_left c.loop-rest.state c.loop-rest.rest.now (grind arith) ∙ c.loop-rest.invariant.leads)
