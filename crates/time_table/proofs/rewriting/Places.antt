-- The places of an array whose rows are written over: a free place is made by moving the rows that are not read yet up, or by taking one of them in hand; and
-- the places behind what is written are cleared.
-- Assumes nothing.
use Rattle.std.proofs.Common.{◌≡◌, refl, sym, ap, ◌∙◌, ℕ, suc, ◌+◌, ◌-◌, ◌<◌, ◌≤◌, List, [], ◌∷◌, ◌++◌, Option, None, Some, length, take, drop, get_or, set, replicate, arith, add-one, length-append, drop-cons}
use Rattle.std.specs.List.{copy_within, slice_range}
use Rattle.std.specs.Option.{IsSome, is_some, option_to_list}
use Rattle.std.proofs.lemmas.List.{length-take-le, take-take, drop-take, take-append-drop, drop-drop, drop-set-lt, drop-replicate, replicate-append-replicate}
use borrow.Rule.Slice.PartMut.{put_mid}
use Rattle.std.proofs.lemmas.List.Edits.{length-paste, take-paste, drop-paste}
use mathlib.Core.Bool.{false, false≢true, true≢false}
use lib.ListN.{length-set, length-drop, length-replicate}
use lib.Seq.{drop_at, take-add}
use Rattle.time_table.specs.declared.Row.{Row}
use Rattle.time_table.specs.Rows.{empty_row}
use Rattle.time_table.specs.Rewriting.{rewritten, Ranged, Ended, IsCleared, Starts}

-- the first of the places from `read` up to `count`, and the others
pub range_next : {A : Type 0} (l : List A) (read count : ℕ) (d : A) → read < count → count ≤ length l → slice_range l read count ≡ get_or l read d ∷ slice_range l (read + 1) count
range_next l read count d lt le =
    let more : count - read ≡ suc (count - (read + 1)) = omega arith in
    rw (more, drop-cons l read d (omega arith), add-one) refl

-- with a free place
pub record Free (rows : List Row) (write read count : ℕ) (in_hand : Option Row) : Type 0 where
  pub size : length rows ≡ 128
  pub free : write < read
  pub within : read ≤ count
  pub fits : count ≤ 128
  pub blank : drop count rows ≡ replicate (128 - count) empty_row
  pub full : IsSome in_hand → (write + 1 ≡ read) × (count ≡ 128)

module _ {rows : List Row} {write read count : ℕ} {in_hand : Option Row} where
  pub laid : Free rows write read count in_hand → (row : Row) → Ranged (set rows write row) (write + 1) read count in_hand
  laid f row =
      record {
        size = rw length-set f.size;
        below = omega (arith, f.free);
        within = f.within;
        fits = f.fits;
        blank = drop-set-lt count rows write row (omega (arith, f.free, f.within)) ∙ f.blank;
        full = f.full;
      }

  module _ (r : Ranged rows write read count in_hand) where
    pub free_there : (write ≡ read → ⊥) → Free rows write read count in_hand
    free_there ne =
        record { size = r.size; free = omega (arith, r.below); within = r.within; fits = r.fits; blank = r.blank; full = λ h. absurd (ne (r.full h).0) }

    module _ (none : write ≡ read) where
      pub free_up : (p : ℕ) → 0 < p → p ≤ 128 - count → Free (copy_within rows read count (read + p)) write (read + p) (count + p) in_hand
      free_up p some le =
          let moved : count - read ≤ length (drop read rows) = omega (arith, length-drop read rows, r.size, r.fits) in
          let there : read + p + (count - read) ≡ count + p = omega (arith, r.within) in
          record {
            size = length-paste rows (read + p) (drop read rows) (count - read) (omega (arith, r.size, r.within)) moved ∙ r.size;
            free = omega arith;
            within = omega (arith, r.within);
            fits = omega (arith, r.fits);
            blank = ap (λ (k : ℕ). drop k (copy_within rows read count (read + p))) (sym there)
                ∙ drop-paste rows (read + p) (drop read rows) (count - read) (omega (arith, r.size, r.within, r.fits)) moved
                ∙ ap (λ (k : ℕ). drop k rows) there ∙ sym (drop-drop p count rows) ∙ ap (drop p) r.blank ∙ drop-replicate p (128 - count) empty_row
                ∙ ap (λ (k : ℕ). replicate k empty_row) (omega arith);
            full = λ h. absurd (omega (arith, (r.full h).1));
          }

      pub free_hand : (row : Row) → read < count → 128 ≤ count → Free rows write (read + 1) count (Some row)
      free_hand row lt full =
          record { size = r.size; free = omega arith; within = omega arith; fits = r.fits; blank = r.blank; full = λ h. (omega arith, omega (arith, r.fits)) }

-- the same, where the rows up to a number that is `count` moved up
pub free_up_to : (rows : List Row) (read count place : ℕ) {n write r c : ℕ} {in_hand : Option Row} → Free (copy_within rows read count place) write r c in_hand → n ≡ count
    → Free (copy_within rows read n place) write r c in_hand
free_up_to rows read count place f same = rw same f

-- the places from `write` up to `count` are cleared
pub cleared : (rows mid : List Row) (write count : ℕ) → length rows ≡ 128 → write ≤ count → count ≤ 128 → drop count rows ≡ replicate (128 - count) empty_row
    → mid ≡ replicate (length (slice_range rows write count)) empty_row → put_mid write (count - write) rows mid ≡ take write rows ++ replicate (128 - write) empty_row
cleared rows mid write count size le fits blank e =
    let there : write + (count - write) ≡ count = omega arith in
    let long : length (slice_range rows write count) ≡ count - write = length-take-le (count - write) (drop write rows) (omega (arith, length-drop write rows)) in
    let tail : mid ++ drop (count - write) (drop write rows) ≡ replicate (128 - write) empty_row =
    rw (e, long, drop-drop, there, blank, replicate-append-replicate) (ap (λ (k : ℕ). replicate k empty_row) (omega arith)) in
    ap (λ (l : List Row). take write rows ++ l) tail

-- the same, where the places are cleared up to a number that is `count`
pub cleared_up_to : (rows mid : List Row) (write count : ℕ) {n : ℕ} → length rows ≡ 128 → write ≤ count → count ≤ 128 → drop count rows ≡ replicate (128 - count) empty_row
    → mid ≡ replicate (length (slice_range rows write n)) empty_row → n ≡ count → put_mid write (n - write) rows mid ≡ take write rows ++ replicate (128 - write) empty_row
cleared_up_to rows mid write count size le fits blank e same = rw same (cleared rows mid write count size le fits blank (rw same at e))

-- nothing is in hand where all is read
pub none_in_hand : {A : Type 0} (o : Option A) (l : List A) → option_to_list o ++ l ≡ [] → o ≡ None
none_in_hand None l e = refl
none_in_hand (Some x) l e = absurd (cc)

-- an array whose first w places are written, and whose others are empty
pub cleared_ranged : (written rows : List Row) (w : ℕ) (in_hand : Option Row) → length written ≡ w → w ≤ 128 → rows ≡ written ++ replicate (128 - w) empty_row → in_hand ≡ None
    → Ranged rows w w w in_hand
cleared_ranged written rows w in_hand long fits is none =
    record {
      size = rw (is, length-append, long, length-replicate) (omega arith);
      below = omega arith;
      within = omega arith;
      fits = fits;
      blank = ap (drop w) is ∙ drop_at written _ w long;
      full = λ h. absurd (false≢true (rw none at h));
    }

-- where all is read and nothing is left to clear, no row is in hand, and what is written goes up to `count`
pub cleared_level : {rows : List Row} {write read count : ℕ} {in_hand : Option Row} → Ranged rows write read count in_hand → IsCleared (rewritten rows write read count in_hand)
    → (in_hand ≡ None) × (write ≡ count)
cleared_level {rows} {write} {read} {count} {in_hand} r c =
    (none_in_hand in_hand _ c.all, omega (arith, c.end, length-take-le write rows (omega (arith, r.size, r.below, r.within, r.fits))))

-- of the rows up to `count` the first k end before an instant
module _ (rows : List Row) (count k : ℕ) (le : k ≤ count) where
  pub starts_ranged : {write read : ℕ} {in_hand : Option Row} → Ranged rows write read count in_hand → in_hand ≡ None → Ranged rows k k count in_hand
  starts_ranged r none =
      record { size = r.size; below = omega arith; within = le; fits = r.fits; blank = r.blank; full = λ h. absurd (false≢true (rw none at h)) }

  pub starts : (instant : ℕ) → length (take count rows) ≤ 128 → Ended (take count rows) instant k
      → Starts (take count rows) instant (record { written = take k rows; unread = slice_range rows k count; end = count })
  starts instant few e =
      let there : k + (count - k) ≡ count = omega arith in
      let front : take k (take count rows) ≡ take k rows = take-take k count rows le in
      let back : drop k (take count rows) ≡ slice_range rows k count = ap (λ (n : ℕ). drop k (take n rows)) (sym there) ∙ drop-take k (count - k) rows in
      record {
        joins = (λ i. sym front i ++ sym back i) ∙ take-append-drop k (take count rows);
        early = rw front at e.early;
        late = rw back at e.late;
        few = few;
      }

-- the rows that are not read yet follow those that are written
pub record Lowered (rows : List Row) (write read count : ℕ) (lower : List Row) : Type 0 where
  pub size : length lower ≡ 128
  pub front : take (write + (count - read)) lower ≡ take write rows ++ slice_range rows read count
  pub blank : drop count lower ≡ drop count rows

module _ (rows : List Row) (write read count : ℕ) (size : length rows ≡ 128) (below : write ≤ read) (within : read ≤ count) (fits : count ≤ 128) where
  pub lowered : Lowered rows write read count (copy_within rows read count write)
  lowered =
      let moved : count - read ≤ length (drop read rows) = omega (arith, length-drop read rows) in
      let past : write + (count - read) + (count - (write + (count - read))) ≡ count = omega arith in
      let end : drop (write + (count - read)) (copy_within rows read count write) ≡ drop (write + (count - read)) rows =
      drop-paste rows write (drop read rows) (count - read) (omega arith) moved in
      record {
        size = length-paste rows write (drop read rows) (count - read) (omega arith) moved ∙ size;
        front = take-paste rows write (drop read rows) (count - read) (omega arith) moved;
        blank = ap (λ (k : ℕ). drop k (copy_within rows read count write)) (sym past) ∙ sym (drop-drop _ (write + (count - read)) _) ∙ ap (drop (count - (write + (count - read)))) end
            ∙ drop-drop _ (write + (count - read)) rows ∙ ap (λ (k : ℕ). drop k rows) past;
      }

  pub level : read ≤ write → Lowered rows write read count rows
  level le =
      let same : write ≡ read = omega arith in
      record { size = size; front = take-add write (count - read) rows ∙ ap (λ (k : ℕ). take write rows ++ take (count - read) (drop k rows)) same; blank = refl }

pub lowered_ranged : {rows lower : List Row} {write read count : ℕ} {in_hand : Option Row} → Ranged rows write read count in_hand → in_hand ≡ None
    → Lowered rows write read count lower → Ranged lower (write + (count - read)) count count in_hand
lowered_ranged r none l =
    record {
      size = l.size;
      below = omega (arith, r.below, r.within);
      within = omega arith;
      fits = r.fits;
      blank = l.blank ∙ r.blank;
      full = λ h. absurd (false≢true (rw none at h));
    }

pub range_none : {A : Type 0} (l : List A) (n : ℕ) → slice_range l n n ≡ []
range_none l n = let none : n - n ≡ 0 = omega arith in rw none

pub no_value : {A : Type 0} (o : Option A) → is_some o ≡ false → o ≡ None
no_value None e = refl
no_value (Some x) e = absurd (true≢false e)
