-- What a step makes of rows, one after another: rows before the part and rows behind it stay, and a row that it goes through falls into pieces.
-- Assumes nothing.
use mathlib.Core.Path.{◌≡◌, refl, ap}
use mathlib.Core.Bool.{Bool, true, false, cond, false≢true}
use mathlib.Core.Logic.{◌⊎◌, inl, inr, ⊎_elim}
use mathlib.Core.List.{List, [], ◌∷◌, ◌++◌}
use Prim.Native.Nat.{ℕ, ◌+◌, ◌≤◌, ◌<◌, min, max}
use native.Mathlib.Omega.{arith}
use borrow.Author.Tests.{lt-ltb, le-leb, leb-true}
use lib.Dec.{eqb}
use lib.ListN.{length, length-append}
use Rattle.time_table.specs.declared.Row.{Row}
use Rattle.time_table.specs.declared.Part.{Part}
use Rattle.time_table.specs.declared.part_by_part.Step.{Step}
use Rattle.time_table.specs.declared.part_by_part.Step.TheVariants.{Remove, Add}
use Rattle.time_table.specs.Rows.{cut}
use Rattle.time_table.specs.Order.{Each, Ordered, ticks}
use Rattle.time_table.specs.Pieces.{before_part, after_part}
use Rattle.time_table.specs.Insertion.{alone, joined, gap_before, heightened, grown, started_at, past_row, insertion}
use Rattle.time_table.specs.Removal.{without, lessened, removal}
use Rattle.time_table.specs.PartByPart.{part_of, stepped, pieces_of, behind, made_last, untouched, Changeable}
use Rattle.time_table.proofs.Cut.{cut_none, cut_some}
use Rattle.time_table.proofs.CoveredPiece.{insertable_later}
use Rattle.time_table.proofs.Apart.{reduced_early, reduced_late, grown_early, grown_late}
use Rattle.time_table.proofs.RowsInOrder.{ordered_from}
use Rattle.time_table.proofs.Sums.{lt_or_le}

-- what a step makes of no rows, and of a first row and the others
pub stepped_nil : (s : Step) → stepped s [] ≡ made_last s
unfolding removal insertion
stepped_nil (Remove p) = refl
stepped_nil (Add p) = refl

pub stepped_cons : (s : Step) (r : Row) (rs : List Row) → stepped s (r ∷ rs) ≡ pieces_of s r ++ stepped (behind s r) rs
unfolding removal insertion
stepped_cons (Remove p) r rs = refl
stepped_cons (Add p) r rs = refl

-- rows that end before the part stay
pub stepped_early : (s : Step) (lo : ℕ) (early late : List Row) → (part_of s).from ≤ (part_of s).until → Ordered ticks lo (early ++ late)
    → Each (λ (r : Row). r.end < (part_of s).from) early → stepped s (early ++ late) ≡ early ++ stepped s late
unfolding Ordered Each removal insertion
stepped_early s lo [] late some o e = refl
stepped_early (Remove p) lo (r ∷ rs) late some o e =
    rw (reduced_early p r some o.1 e.0) (ap (λ (l : List Row). r ∷ l) (stepped_early (Remove p) (r.end + 1) rs late some o.3 e.1))
stepped_early (Add p) lo (r ∷ rs) late some o e =
    let still : past_row p r ≡ p.from = omega (arith, e.0) in
    rw (grown_early p r some o.1 e.0, still) (ap (λ (l : List Row). r ∷ l) (stepped_early (Add p) (r.end + 1) rs late some o.3 e.1))

-- rows that lie behind the part, where it is taken out or is put in already
abbrev pub Used : Step → ℕ → Type 0
Used (Remove p) lo = p.until ≤ lo
Used (Add p) lo = p.until ≤ p.from

-- they stay, and what is laid behind the last row follows
pub stepped_late : (s : Step) (lo : ℕ) (rows : List Row) → (part_of s).from ≤ (part_of s).until → (part_of s).until ≤ lo → Used s lo → Ordered ticks lo rows
    → stepped s rows ≡ rows ++ made_last s
unfolding Ordered removal insertion
stepped_late s lo [] some past used o = stepped_nil s
stepped_late (Remove p) lo (r ∷ rs) some past used o =
    rw (reduced_late p r some o.1 (omega (arith, o.0))) (ap (λ (l : List Row). r ∷ l) (stepped_late (Remove p) (r.end + 1) rs some (omega (arith, o.0, o.1)) (omega (arith, o.0, o.1)) o.3))
stepped_late (Add p) lo (r ∷ rs) some past used o =
    let still : past_row p r ≡ p.from = omega (arith, some, used) in
    let none = cut_none (alone p) p.from p.until used in
    rw (grown_late p r p.from some o.1 (omega (arith, o.0)), none, still)
    (ap (λ (l : List Row). r ∷ l) (rw none at (stepped_late (Add p) (r.end + 1) rs some (omega (arith, o.0, o.1)) used o.3)))

-- a row that the part does not touch, and so none of those that follow
pub untouched_late : (s : Step) (lo : ℕ) (r : Row) (rs : List Row) → (part_of s).from ≤ (part_of s).until → ((part_of s).from < (part_of s).until) ⊎ ((part_of s).from ≤ lo)
    → (part_of s).from ≤ r.end → Ordered ticks lo (r ∷ rs) → untouched s r ≡ true → stepped s (r ∷ rs) ≡ (r ∷ rs) ++ made_last s
unfolding Ordered
untouched_late (Remove p) lo r rs some start ge o e =
    let past : p.until ≤ r.start =
    ⊎_elim (λ lt. absurd (false≢true (rw (lt-ltb r.start p.until lt, le-leb p.from r.end ge) at e))) (λ le. le) (lt_or_le r.start p.until) in
    stepped_late (Remove p) r.start (r ∷ rs) some past past (omega arith, o.1, o.2, o.3)
untouched_late (Add p) lo r rs some start ge o e =
    let used = leb-true p.until p.from e in
    ⊎_elim (λ lt. absurd (omega (arith, used, lt))) (λ le. stepped_late (Add p) lo (r ∷ rs) some (omega (arith, used, le)) used o) start

-- what follows a row can be changed by the step behind it
pub changeable_behind : (s : Step) (r : Row) (rows : List Row) → (part_of s).from ≤ (part_of s).until → Each (Changeable s) rows → Each (Changeable (behind s r)) rows
unfolding Each
changeable_behind (Remove p) r rows some e = e
changeable_behind (Add p) r [] some e = tt
changeable_behind (Add p) r (q ∷ rows) some e = (insertable_later p q (past_row p r) (omega arith) e.0, changeable_behind (Add p) r rows some e.1)

-- behind a row a step has not come further than to the instant after it, nor past its end
pub behind_low : (s : Step) (r : Row) → (part_of s).from ≤ r.end → (part_of (behind s r)).from ≤ r.end + 1
behind_low (Remove p) r ge = omega arith
behind_low (Add p) r ge = omega arith

pub behind_some : (s : Step) (r : Row) → (part_of s).from ≤ (part_of s).until → (part_of (behind s r)).from ≤ (part_of (behind s r)).until
behind_some (Remove p) r some = some
behind_some (Add p) r some = omega arith

ends_from : (x lo : ℕ) (rows : List Row) → Ordered ticks lo rows → x ≤ lo → Each (λ (q : Row). x ≤ q.end) rows
unfolding Ordered Each
ends_from x lo [] o le = tt
ends_from x lo (q ∷ rows) o le = (omega (arith, o.0, o.1), ends_from x (q.end + 1) rows o.3 (omega (arith, o.0, o.1)))

pub late_behind : (s : Step) (r : Row) (rows : List Row) → (part_of s).from ≤ r.end → Ordered ticks (r.end + 1) rows → Each (λ (q : Row). (part_of (behind s r)).from ≤ q.end) rows
late_behind s r rows ge o = ends_from (part_of (behind s r)).from (r.end + 1) rows o (behind_low s r ge)

-- an insertion leaves no fewer rows
cut_length : (r : Row) (x y : ℕ) → x < y → length (cut r x y) ≡ 1
cut_length r x y lt = ap length (cut_some r x y lt)

grown_some : (p : Part) (r : Row) → r.start ≤ r.end → 1 ≤ length (grown p r)
grown_some p r le =
    let sum : length (grown p r) ≡ length (gap_before p r) + length (before_part p r) + length (heightened p r) + length (after_part p r) = rw (length-append, length-append, length-append) refl in
    ⊎_elim
    (λ lt. omega (arith, sum, cut_length r r.start (min p.from (r.end + 1)) (omega arith)))
    (λ ge. ⊎_elim
    (λ short. omega (arith, sum, cut_length r (max p.until r.start) (r.end + 1) (omega arith)))
    (λ long. omega (arith, sum, cut_length (joined r p.id p.usage) (max p.from r.start) (min p.until (r.end + 1)) (omega arith)))
    (lt_or_le p.until (r.end + 1)))
    (lt_or_le r.start p.from)

insertion_longer : (p : Part) (lo : ℕ) (rows : List Row) → Ordered ticks lo rows → length rows ≤ length (insertion p rows)
unfolding insertion Ordered
insertion_longer p lo [] o = omega arith
insertion_longer p lo (r ∷ rs) o =
    rw length-append (omega (arith, grown_some p r o.1, insertion_longer (started_at p (past_row p r)) (r.end + 1) rs o.3))

-- pieces are one row at most
cut_short : (r : Row) (x y : ℕ) → length (cut r x y) ≤ 1
cut_short r x y = ⊎_elim (λ lt. omega (arith, cut_length r x y lt)) (λ ge. rw (cut_none r x y ge) (omega arith)) (lt_or_le x y)

lessened_short : (p : Part) (r : Row) → length (lessened p r) ≤ 1
unfolding lessened
lessened_short p r = go (eqb r.height p.usage)
  where
    go : (b : Bool) → length (cond b [] (cut (without r p.id p.usage) (max p.from r.start) (min p.until (r.end + 1)))) ≤ 1
    go true = omega arith
    go false = cut_short _ _ _

-- Where there is no place for all pieces of a row, the step is over. An insertion makes of each row that follows one at least. A removal has laid two rows more
-- than it has read only with the last row that it touches, so all that follow stay.
pub pieces_over : (s : Step) (lo n : ℕ) (r : Row) (rs : List Row) → (part_of s).from ≤ (part_of s).until → (part_of s).from ≤ r.end → Ordered ticks lo (r ∷ rs)
    → n + (1 + length rs) ≤ 129 → (n + (1 + length rs) ≤ 128) ⊎ ((part_of s).from ≤ lo) → 129 < n + length (pieces_of s r) + max 1 (length rs)
    → 128 < n + length (pieces_of s r ++ stepped (behind s r) rs)
unfolding Ordered
pieces_over (Remove p) lo n r rs some ge o few lead over =
    let sum : length (pieces_of (Remove p) r) ≡ length (before_part p r) + length (lessened p r) + length (after_part p r) = rw (length-append, length-append) refl in
    let first = cut_short r r.start (min p.from (r.end + 1)) in
    rw length-append
    (⊎_elim
    (λ lt. omega (
      arith,
      sum,
      over,
      few,
      first,
      lessened_short p r,
      ap length (cut_none r (max p.until r.start) (r.end + 1) (omega arith)),
      ⊎_elim {C = (n + (1 + length rs) ≤ 128) ⊎ (length (before_part p r) ≡ 0)} (λ l. inl l) (λ l. inr (ap length (cut_none r r.start (min p.from (r.end + 1)) (omega (arith, l, o.0))))) lead,
    ))
    (λ le. omega (arith, over, ap length (stepped_late (Remove p) (r.end + 1) rs some (omega arith) (omega arith) o.3), length-append rs (made_last (Remove p))))
    (lt_or_le r.end p.until))
pieces_over (Add p) lo n r rs some ge o few lead over =
    rw length-append (omega (arith, over, insertion_longer (started_at p (past_row p r)) (r.end + 1) rs o.3))

-- rows in order behind others
pub ordered_behind : (lo : ℕ) (xs ys : List Row) → Ordered ticks lo (xs ++ ys) → Ordered ticks lo ys
unfolding Ordered
ordered_behind lo [] ys o = o
ordered_behind lo (r ∷ rs) ys o = ordered_from ticks lo (r.end + 1) ys (omega (arith, o.0, o.1)) (ordered_behind (r.end + 1) rs ys o.3)

pub each_behind : (P : Row → Type 0) (xs ys : List Row) → Each P (xs ++ ys) → Each P ys
unfolding Each
each_behind P [] ys e = e
each_behind P (r ∷ rs) ys e = each_behind P rs ys e.1
