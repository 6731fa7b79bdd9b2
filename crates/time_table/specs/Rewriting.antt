-- Rows that steps go through are written over in their place. Of each state two lists are told: the rows that are written so far, and those that are not read
-- yet.
use Rattle.std.specs.Prelude.{◌≡◌, List, [], ◌++◌, ℕ, ◌+◌, ◌-◌, ◌≤◌, ◌<◌, max, length, take, drop, replicate, slice_range, Option, IsSome, option_to_list}
use Rattle.time_table.specs.declared.Row.{Row}
use Rattle.time_table.specs.declared.part_by_part.Step.{Step}
use Rattle.time_table.specs.Rows.{room_for_rows, empty_row}
use Rattle.time_table.specs.Order.{Each, Ordered, ticks}
use Rattle.time_table.specs.PartByPart.{part_of, stepped, Changeable}

pub record Rewritten : Type 0 where
  pub written : List Row
  pub unread : List Row
  pub end : ℕ

-- the first `write` of an array are written; not read yet are one that is in hand, and those from `read` up to `count`; from `count` on it is empty
abbrev pub rewritten : List Row → ℕ → ℕ → ℕ → Option Row → Rewritten
rewritten rows write read count in_hand =
    record { written = take write rows; unread = option_to_list in_hand ++ slice_range rows read count; end = count }

-- from `count` on places are empty; and a row is in hand only in a full table without a free place
pub record Ranged (rows : List Row) (write read count : ℕ) (in_hand : Option Row) : Type 0 where
  pub size : length rows ≡ room_for_rows
  pub below : write ≤ read
  pub within : read ≤ count
  pub fits : count ≤ room_for_rows
  pub blank : drop count rows ≡ replicate (room_for_rows - count) empty_row
  pub full : IsSome in_hand → (write ≡ read) × (count ≡ room_for_rows)

-- all is read, and all places behind what is written are empty
pub record IsCleared (now : Rewritten) : Type 0 where
  pub all : now.unread ≡ []
  pub end : now.end ≡ length now.written

-- n of the rows, the first ones, end before an instant
pub record Ended (rows : List Row) (instant n : ℕ) : Type 0 where
  pub within : n ≤ length rows
  pub early : Each (λ (r : Row). r.end < instant) (take n rows)
  pub late : Each (λ (r : Row). instant ≤ r.end) (drop n rows)

-- these rows more are written
pub record Lays (old : Rewritten) (rows : List Row) (new : Rewritten) : Type 0 where
  pub written : new.written ≡ old.written ++ rows
  pub unread : new.unread ≡ old.unread

-- there is no place for n rows more, even with one of those not read yet in hand
abbrev pub NoPlace : Rewritten → ℕ → Type 0
NoPlace old n = room_for_rows + 1 < length old.written + n + max 1 (length old.unread)

-- of these rows those that end before an instant are written, and the others not read yet
pub record Starts (rows : List Row) (instant : ℕ) (new : Rewritten) : Type 0 where
  pub joins : new.written ++ new.unread ≡ rows
  pub early : Each (λ (r : Row). r.end < instant) new.written
  pub late : Each (λ (r : Row). instant ≤ r.end) new.unread
  pub few : length rows ≤ room_for_rows

-- a step can go through the rows that are not read yet: they are in order, and do not end before its part
pub record Walks (s : Step) (old : Rewritten) : Type 0 where
  pub some : (part_of s).from < (part_of s).until
  pub lo : ℕ
  pub ordered : Ordered ticks lo old.unread
  pub each : Each (Changeable s) old.unread
  pub late : Each (λ (r : Row). (part_of s).from ≤ r.end) old.unread
  pub few : length old.written + length old.unread ≤ room_for_rows

-- a step is made of the rows that are written
pub record Applied (s : Step) (old new : Rewritten) : Type 0 where
  pub written : new.written ≡ stepped s old.written
  pub cleared : IsCleared new
  pub few : length new.written ≤ room_for_rows
