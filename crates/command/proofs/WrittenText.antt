-- Text written behind text is both texts written in one piece.
-- Assumes nothing.
use mathlib.Core.Path.{◌≡◌, refl, sym, ap, ◌∙◌}
use mathlib.Core.List.{List, [], ◌∷◌, ◌++◌, append_assoc}
use Prim.Native.Nat.{ℕ, suc, ◌+◌, ◌≤◌}
use native.Mathlib.Omega.{arith}
use lib.ListN.{length, take, drop, set, length-append, take-append-drop}
use lib.Seq.{sets, sets-eq, length-sets}
use Rattle.command.specs.declared.text.Writer.{Writer}
use Rattle.command.specs.Written.{Written}

sets_append : (out : List ℕ) (at m : ℕ) (s t : List ℕ) → m ≡ at + length s → sets (sets out at s) m t ≡ sets out at (s ++ t)
sets_append out at m [] t e =
    let same : m ≡ at = omega arith in
    ap (λ (k : ℕ). sets out k t) same
sets_append out at m (b ∷ s) t e = sets_append (set out at b) (suc at) m s t (omega arith)

module _ {before after : Writer} {s : List ℕ} where
  pub written_length : Written before s after → length after.out.now ≡ length before.out.now
  written_length w = ap length w.bytes ∙ length-sets before.out.now before.len s

  pub written_more : {t : List ℕ} {last : Writer} → Written before s after → Written after t last → Written before (s ++ t) last
  written_more {t} w v =
      record {
        slice = v.slice ∙ w.slice;
        bytes = v.bytes ∙ ap (λ (l : List ℕ). sets l after.len t) w.bytes ∙ sets_append before.out.now before.len after.len s t w.place;
        place = omega (arith, w.place, v.place, length-append s t);
        fits = omega (arith, v.fits, written_length w);
      }

-- the same text in other words
pub written_as : {before after : Writer} {text text' : List ℕ} → Written before text after → text ≡ text' → Written before text' after
written_as w e = rw e at w

-- the same place in other words
pub written_at : {w after : Writer} {text : List ℕ} {n : ℕ} → Written (record { out = w.out; len = n }) text after → n ≡ w.len → Written w text after
written_at {w} {text = text} v e =
    record { slice = v.slice; bytes = v.bytes ∙ ap (λ (k : ℕ). sets w.out.now k text) e; place = omega (arith, v.place, e); fits = v.fits }

-- nothing was written
pub written_none : (w : Writer) → w.len ≤ length w.out.now → Written w [] w
written_none w h = record { slice = refl; bytes = refl; place = omega arith; fits = h }

-- from the front on: the text, and behind it what was there
pub written_front : {before after : Writer} {text : List ℕ} → before.len ≡ 0 → Written before text after → after.out.now ≡ text ++ drop after.len before.out.now
written_front {before} {after} {text} front w =
    let e : after.len ≡ length text = omega (arith, w.place) in
    let room : 0 + length text ≤ length before.out.now = omega (arith, w.place, w.fits) in
    let f : length text ≡ 0 + length text = omega arith in
    w.bytes ∙ ap (λ (k : ℕ). sets before.out.now k text) front ∙ sets-eq text before.out.now 0 room ∙ ap (λ (k : ℕ). text ++ drop k before.out.now) (sym f ∙ sym e)

-- the text stands before a place, and what is before the text and behind the place is as it was
pub written_before : {before after : Writer} {text : List ℕ} {start : ℕ} → after.out.ghost_name ≡ before.out.ghost_name → start + length text ≡ after.len → start ≡ before.len
    → after.len ≤ length before.out.now → drop start after.out.now ≡ text ++ drop after.len before.out.now → take start after.out.now ≡ take start before.out.now → Written before text after
written_before {before} {after} {text} {start} same end begins fits behind front =
    let long : after.len ≡ before.len + length text = omega arith in
    record {
      slice = same;
      bytes =
          sym (take-append-drop start after.out.now)
          ∙ (λ i. front i ++ behind i)
          ∙ sym (append_assoc (take start before.out.now) text (drop after.len before.out.now))
          ∙ (λ i. take (begins i) before.out.now ++ text ++ drop (long i) before.out.now)
          ∙ sym (sets-eq text before.out.now before.len (omega arith));
      place = long;
      fits = fits;
    }
