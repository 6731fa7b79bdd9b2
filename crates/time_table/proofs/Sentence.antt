-- An insertion and a removal are what the document's sentences say: rows that the part does not overlap stay, and at each overlapping row but the first
-- the part has come just behind the row before, so that what of it lies before the row is the gap between the two.
-- Assumes nothing.
use mathlib.Core.Path.{◌≡◌, refl, sym, ap, ◌∙◌}
use mathlib.Core.Bool.{Bool, true, false, cond}
use mathlib.Core.Logic.{⊎_elim}
use mathlib.Core.List.{List, [], ◌∷◌, ◌++◌, append_assoc, append-nil, flat_map}
use Prim.Native.Nat.{ℕ, suc, ◌+◌, ◌-◌, ◌≤◌, ◌<◌, min, max}
use native.Mathlib.Omega.{arith}
use lib.Dec.{eqb}
use lib.ListN.{length, take, get_or, set}
use Rattle.time_table.specs.declared.Row.{Row}
use Rattle.time_table.specs.declared.Part.{Part}
use Rattle.time_table.specs.Rows.{row_of, tasks, cut}
use Rattle.time_table.specs.Order.{Each, Ordered}
use Rattle.time_table.specs.Pieces.{before_part, after_part}
use Rattle.time_table.specs.Insertion.{alone, joined, gap_before, heightened, grown, started_at, past_row, insertion}
use Rattle.time_table.specs.Removal.{position, taken_out, without, lessened, reduced, removal}
use Rattle.time_table.specs.Sentence.{Before, Overlapping, Behind, Around, Split, uncovered, covered_piece, pieces, replaced, inserted, last_of, all_but_last, losing, pieces_left, removed}
use Rattle.time_table.proofs.Cut.{cut_none, cut_some}
use Rattle.time_table.proofs.Apart.{reduced_early, reduced_late, grown_early, grown_late}
use Rattle.time_table.proofs.RowsInOrder.{ordered_from}
use Rattle.time_table.proofs.Sums.{lt_or_le}

-- of rows that are in order the later ones are so too, and what holds of each row from an instant on holds of all that start there or later
ordered_behind : (hi lo : ℕ) (first rest : List Row) → Ordered hi lo (first ++ rest) → Ordered hi lo rest
unfolding Ordered
ordered_behind hi lo [] rest o = o
ordered_behind hi lo (r ∷ rs) rest o = ordered_from hi lo (r.end + 1) rest (omega arith) (ordered_behind hi (r.end + 1) rs rest o.3)

each_later : (P : Row → Type 0) (x hi lo : ℕ) (rows : List Row) → ((r : Row) → x ≤ r.start → r.start ≤ r.end → P r) → x ≤ lo → Ordered hi lo rows → Each P rows
unfolding Ordered Each
each_later P x hi lo [] holds le o = tt
each_later P x hi lo (r ∷ rs) holds le o = (holds r (omega arith) o.1, each_later P x hi (r.end + 1) rs holds (omega arith) o.3)

-- the list of a row that loses a task, by one step of `losing`
others : (y : ℕ) (ys : List ℕ) → take (length ys) (y ∷ ys) ≡ all_but_last y ys
unfolding all_but_last
others y [] = refl
others y (z ∷ zs) = ap (λ (l : List ℕ). y ∷ l) (others z zs)

last_is : (y : ℕ) (ys : List ℕ) → get_or (y ∷ ys) (length ys) 0 ≡ last_of y ys
unfolding last_of
last_is y [] = refl
last_is y (z ∷ zs) = last_is z zs

loses : (id : ℕ) (l : List ℕ) → taken_out id l ≡ losing id l
unfolding losing
loses id [] = refl
loses id (x ∷ []) = refl
loses id (x ∷ y ∷ ys) = go (eqb x id) (length (x ∷ y ∷ ys) - 1) (omega arith) (rw less at (loses id (y ∷ ys)))
  where
    less : length (y ∷ ys) - 1 ≡ length ys
    less = omega arith

    go : (b : Bool) (k : ℕ) → k ≡ suc (length ys) → take (length ys) (set (y ∷ ys) (position id (y ∷ ys)) (get_or (y ∷ ys) (length ys) 0)) ≡ losing id (y ∷ ys)
        → take k (set (x ∷ y ∷ ys) (cond b 0 (suc (position id (y ∷ ys)))) (get_or (x ∷ y ∷ ys) k 0)) ≡ cond b (last_of y ys ∷ all_but_last y ys) (x ∷ losing id (y ∷ ys))
    go true k e later = rw e (λ i. last_is y ys i ∷ others y ys i)
    go false k e later = rw e (ap (λ (l : List ℕ). x ∷ l) later)

-- what a removal leaves of a row
reduced_is : (p : Part) (r : Row) → reduced p r ≡ pieces_left p r
unfolding lessened without
reduced_is p r =
    ap (λ (l : List ℕ). before_part p r ++ cond (eqb r.height p.usage) [] (covered_piece p r (r.height - p.usage) l) ++ after_part p r) (loses p.id (tasks r))

-- a row's pieces without the gap before it
grouped : (a b c d : List Row) → a ++ b ++ c ++ d ≡ a ++ (b ++ c ++ d)
grouped a b c d = simp append_assoc

module _ (p : Part) (some : p.from < p.until) (hi : ℕ) where
  -- rows before the part stay
  removal_early : (lo : ℕ) (early rest : List Row) → Ordered hi lo (early ++ rest) → Each (Before p) early → removal p (early ++ rest) ≡ early ++ removal p rest
  unfolding removal Ordered Each
  removal_early lo [] rest o b = refl
  removal_early lo (r ∷ rs) rest o b =
      rw (reduced_early p r (omega arith) o.1 b.0) (ap (λ (l : List Row). r ∷ l) (removal_early (r.end + 1) rs rest o.3 b.1))

  insertion_early : (lo : ℕ) (early rest : List Row) → Ordered hi lo (early ++ rest) → Each (Before p) early → insertion p (early ++ rest) ≡ early ++ insertion p rest
  unfolding insertion Ordered Each
  insertion_early lo [] rest o b = refl
  insertion_early lo (r ∷ rs) rest o b =
      let still : past_row p r ≡ p.from = omega (arith, b.0) in
      rw (grown_early p r (omega arith) o.1 b.0, still) (ap (λ (l : List Row). r ∷ l) (insertion_early (r.end + 1) rs rest o.3 b.1))

  -- and so do rows behind it, before which an insertion has what is left of the part
  removal_late : (lo : ℕ) (late : List Row) → Ordered hi lo late → Each (Behind p) late → removal p late ≡ late
  unfolding removal Ordered Each
  removal_late lo [] o b = refl
  removal_late lo (r ∷ rs) o b =
      rw (reduced_late p r (omega arith) o.1 b.0) (ap (λ (l : List Row). r ∷ l) (removal_late (r.end + 1) rs o.3 b.1))

  insertion_late : (lo x : ℕ) (late : List Row) → x ≤ p.until → Ordered hi lo late → Each (Behind p) late
      → insertion (started_at p x) late ≡ uncovered p x p.until ++ late
  unfolding insertion Ordered Each
  insertion_late lo x [] le o b = sym (append-nil _)
  insertion_late lo x (r ∷ rs) le o b =
      let done : past_row (started_at p x) r ≡ p.until = omega (arith, b.0) in
      let rest = insertion_late (r.end + 1) p.until rs (omega arith) o.3 b.1 in
      rw (grown_late p r x le o.1 b.0, done, rest, cut_none (alone p) p.until p.until (omega arith)) (append_assoc (uncovered p x p.until) (r ∷ []) rs)

  -- the pieces of a row are the same where the part has come to x, at the row's start or before it
  pieces_later : (x : ℕ) (r : Row) → p.from ≤ x → x ≤ r.start → pieces (started_at p x) r ≡ pieces p r
  pieces_later x r low high =
      let left : before_part (started_at p x) r ≡ before_part p r = cut_none r r.start (min x (r.end + 1)) (omega arith) ∙ sym (cut_none r r.start (min p.from (r.end + 1)) (omega arith)) in
      let start : max x r.start ≡ max p.from r.start = omega arith in
      λ i. left i ++ cut (row_of r.start r.end (r.height + p.usage) (tasks r ++ p.id ∷ [])) (start i) (min p.until (r.end + 1)) ++ after_part p r

  -- what of the part lies behind a row, whether it reaches that far or not
  behind_row : (x : ℕ) (r : Row) → x ≤ r.end → uncovered p (past_row (started_at p x) r) p.until ≡ uncovered p (r.end + 1) p.until
  behind_row x r le =
      ⊎_elim
      (λ lt.
      let end : past_row (started_at p x) r ≡ r.end + 1 = omega arith in
      rw end)
      (λ ge. cut_none (alone p) (past_row (started_at p x) r) p.until (omega arith) ∙ sym (cut_none (alone p) (r.end + 1) p.until ge))
      (lt_or_le (r.end + 1) p.until)

  -- the overlapping rows
  removal_over : (over rest : List Row) → removal p (over ++ rest) ≡ removed p over ++ removal p rest
  unfolding removal flat_map
  removal_over [] rest = refl
  removal_over (r ∷ rs) rest = rw (reduced_is p r, removal_over rs rest) (sym (append_assoc (pieces_left p r) (removed p rs) (removal p rest)))

  insertion_row : (x : ℕ) (r : Row) (rs : List Row) → r.start < p.until → pieces (started_at p x) r ≡ pieces p r
      → insertion (started_at p x) (r ∷ rs) ≡ uncovered p x r.start ++ pieces p r ++ insertion (started_at p (past_row (started_at p x) r)) rs
  unfolding insertion joined
  insertion_row x r rs lt same =
      let q = started_at p x in
      let start : min p.until r.start ≡ r.start = omega arith in
      let grows : grown q r ≡ uncovered p x r.start ++ pieces p r =
      grouped (gap_before q r) (before_part q r) (heightened q r) (after_part q r) ∙ (λ i. uncovered p x (start i) ++ same i) in
      ap (λ (l : List Row). l ++ insertion (started_at p (past_row q r)) rs) grows

  insertion_over : (lo x : ℕ) (r : Row) (rs late : List Row) → x ≤ r.end → x ≤ p.until → pieces (started_at p x) r ≡ pieces p r
      → Ordered hi lo (r ∷ (rs ++ late)) → Each (Overlapping p) (r ∷ rs) → Each (Behind p) late
      → insertion (started_at p x) (r ∷ (rs ++ late)) ≡ uncovered p x r.start ++ replaced p r rs ++ late
  unfolding replaced Ordered Each
  insertion_over lo x r [] late le top same o m b =
      rw (insertion_row x r late m.0.1 same, insertion_late (r.end + 1) (past_row (started_at p x) r) late (omega arith) o.3 b, behind_row x r le)
      (simp append_assoc)
  insertion_over lo x r (q ∷ qs) late le top same o m b =
      let end : past_row (started_at p x) r ≡ r.end + 1 = omega arith in
      let rest = insertion_over (r.end + 1) (r.end + 1) q qs late (omega arith) (omega arith) (pieces_later (r.end + 1) q (omega arith) (omega arith)) o.3 m.1 b in
      rw (insertion_row x r (q ∷ (qs ++ late)) m.0.1 same, end, rest) (simp append_assoc)

  insertion_between : (lo : ℕ) (over late : List Row) → Ordered hi lo (over ++ late) → Each (Overlapping p) over → Each (Behind p) late
      → insertion p (over ++ late) ≡ inserted p over ++ late
  unfolding inserted Each
  insertion_between lo [] late o m b = insertion_late lo p.from late (omega arith) o b ∙ ap (λ (l : List Row). l ++ late) (cut_some (alone p) p.from p.until some)
  insertion_between lo (r ∷ rs) late o m b = insertion_over lo p.from r rs late m.0.0 (omega arith) refl o m b

  -- rows in order, of which `early` are before the part, `over` overlap it and `late` are behind it
  module _ (lo : ℕ) (rows early over late : List Row) (ordered : Ordered hi lo rows) (around : Around p rows early over late) where
    whole : Ordered hi lo (early ++ (over ++ late))
    whole = rw (around.is, append_assoc) at ordered

    rest : Ordered hi lo (over ++ late)
    rest = ordered_behind hi lo early (over ++ late) whole

    -- an insertion: with no overlapping row one new row is put between those before the part and those behind it; otherwise the overlapping rows are
    -- replaced, left to right
    pub insertion_is : insertion p rows ≡ early ++ inserted p over ++ late
    insertion_is =
        rw (around.is, append_assoc early over late, insertion_early lo early (over ++ late) whole around.before, insertion_between lo over late rest around.overlaps around.behind)
        (sym (append_assoc early (inserted p over) late))

    -- a removal: the rows before the part and behind it stay, and so do the untouched pieces of the overlapping ones; the covered pieces lose the task
    pub removal_is : removal p rows ≡ early ++ removed p over ++ late
    removal_is =
        rw (
          around.is,
          append_assoc early over late,
          removal_early lo early (over ++ late) whole around.before,
          removal_over over late,
          removal_late lo late (ordered_behind hi lo over late rest) around.behind,
        )
        (sym (append_assoc early (removed p over) late))

module _ (p : Part) (hi : ℕ) where
  -- rows none of which ends before the part
  split_over : (lo : ℕ) (rows : List Row) → Ordered hi lo rows → Each (λ (r : Row). p.from ≤ r.end) rows → (over : List Row) × (late : List Row) × Around p rows [] over late
  unfolding Ordered Each
  split_over lo [] o e = ([], [], record { is = refl; before = tt; overlaps = tt; behind = tt })
  split_over lo (r ∷ rs) o e =
      let s = split_over (r.end + 1) rs o.3 e.1 in
      ⊎_elim
      (λ lt.
      (r ∷ s.0, s.1, record { is = ap (λ (l : List Row). r ∷ l) s.2.is; before = tt; overlaps = ((e.0, lt), s.2.overlaps); behind = s.2.behind }))
      (λ ge.
      ([], r ∷ rs, record { is = refl; before = tt; overlaps = tt; behind = (ge, each_later (Behind p) p.until hi (r.end + 1) rs (λ q le _. le) (omega arith) o.3) }))
      (lt_or_le r.start p.until)

  -- any rows in order are such rows
  pub rows_split : (lo : ℕ) (rows : List Row) → Ordered hi lo rows → Split p rows
  unfolding Ordered Each
  rows_split lo [] o = record { early = []; over = []; late = []; around = record { is = refl; before = tt; overlaps = tt; behind = tt } }
  rows_split lo (r ∷ rs) o =
      let s = rows_split (r.end + 1) rs o.3 in
      ⊎_elim
      (λ lt.
      record {
        early = r ∷ s.early;
        over = s.over;
        late = s.late;
        around = record { is = ap (λ (l : List Row). r ∷ l) s.around.is; before = (lt, s.around.before); overlaps = s.around.overlaps; behind = s.around.behind };
      })
      (λ ge.
      let t = split_over lo (r ∷ rs) o (ge, each_later (λ (q : Row). p.from ≤ q.end) p.from hi (r.end + 1) rs (λ q le ends. omega arith) (omega arith) o.3) in
      record { early = []; over = t.0; late = t.1; around = t.2 })
      (lt_or_le r.end p.from)
