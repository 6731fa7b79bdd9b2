-- A byte goes behind the line until that is full; and a reader is the bytes that it holds.
-- Assumes nothing.
use mathlib.Core.Path.{◌≡◌, refl}
use mathlib.Core.List.{List, [], ◌∷◌, ◌++◌}
use Prim.Native.Nat.{ℕ, ◌≤◌, ◌<◌}
use borrow.Author.Tests.{lt-ltb, le-ltb}
use lib.ListN.{length}
use Rattle.time_table.specs.Held.{Held}
use Rattle.time_table.proofs.Held.{held_list}
use Rattle.command.specs.declared.lines.Reader.{Reader}
use Rattle.command.specs.Lines.{bytes_of, reader_of, grown, reader_room}

pub grown_more : (l : List ℕ) (b : ℕ) → length l < reader_room → grown l b ≡ l ++ b ∷ []
grown_more l b room = simp (lt-ltb (length l) reader_room room)

pub grown_full : (l : List ℕ) (b : ℕ) → reader_room ≤ length l → grown l b ≡ l
grown_full l b full = simp (le-ltb (length l) reader_room full)

pub reader_is : {line l : List ℕ} {n : ℕ} → Held reader_room 0 line n l → ◌≡◌ {A = Reader} (record { line = line; len = n }) (reader_of l)
reader_is h i = record { line = h.is i; len = h.counts i }

-- a reader has the bytes that it was made of
pub reader_bytes : (l : List ℕ) → length l ≤ reader_room → bytes_of (reader_of l) ≡ l
reader_bytes l h = held_list {cap = reader_room} {n = length l} {blank = 0} {arr = (reader_of l).line} {l = l} (record { is = refl; counts = refl; fits = h })
