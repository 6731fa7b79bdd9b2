-- `answer_read` meets its contract: each of the three things that a read gives has its arm.
-- Assumes nothing.
use Rattle.std.proofs.Common.{◌≡◌, refl, ap, ◌∙◌, subst, ℕ, zero, suc, Ok, List, take}
use Rattle.std.proofs.lemmas.List.{take_min}
use Rattle.command.specs.declared.lines.State.{State}
use Rattle.terminal.specs.declared.Reading.{Reading}
use Rattle.terminal.specs.Reads.{BytesAnswered, FollowsRead}
use Rattle.terminal.proofs.answer_read.Goals as goal

-- a number of bytes that is not 0 is of some
some_read : {s : State} {r : Reading} (buffer : List ℕ) (n : ℕ) → ¬ (n ≡ 0) → BytesAnswered s (take n buffer) r → FollowsRead s (Ok n) buffer r
some_read buffer zero other answered = absurd (other refl)
some_read buffer (suc n) other answered = answered

pub returns-in-Ok-clause-follows_read : goal.returns-in-Ok-clause-follows_read
returns-in-Ok-clause-follows_read g c =
    let n = c.in-Ok.n in
    let buffer = c.args.buffer.now in
    let test = rw c.in-Ok.is at c.in-Ok.n-test in
    let read : take c.min.result buffer ≡ take n buffer = ap (λ (m : ℕ). take m buffer) c.min.ensures ∙ take_min n buffer in
    rw c.in-Ok.is (some_read buffer n test.1 (subst (λ (bytes : List ℕ). BytesAnswered c.args.state bytes c.serve_all.result) read c.serve_all.ensures.bytes_answered))
