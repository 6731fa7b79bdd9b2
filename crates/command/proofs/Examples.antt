-- Lines and texts of document 01, typed, printed and read, by computation.
-- Assumes nothing.
use mathlib.Core.Path.{◌≡◌, refl}
use mathlib.Core.List.{[], ◌∷◌, map, flat_map}
use lib.IntN.{pos, negsuc}
use Rattle.time_table.specs.Held.{pad}
use Rattle.planner.specs.declared.Refusal.{Refusal}
use Rattle.std.specs.Prelude.{Some, None, Ok}
use Rattle.command.specs.declared.Command.TheVariants.{Keep, Load, Update, Fit, Rows, Unreadable}
use Rattle.command.specs.Decimal.{digits_in, decimal, signed_text}
use Rattle.command.specs.Numbers.{is_digit, magnitude_from, signed_of, number_of}
use Rattle.command.specs.Grammar.{fields_of, values_of, numbers_taken, command_with, by_letter, command_of}
use Rattle.command.specs.Text.{refusal_text, start_text, fit_text, row_text, count_text, overload_text}
use Rattle.command.specs.Listing.{shown}
use Rattle.command.specs.ReadAnswers.{Reply, split_at, read_digits, read_number, read_numbers, read_line, read_pieces, read_answers}

-- `J 0 0 4 2`, `L 5`, `U 2 -9 11`, `P -0`, `T`
job : command_of (74 ∷ 32 ∷ 48 ∷ 32 ∷ 48 ∷ 32 ∷ 52 ∷ 32 ∷ 50 ∷ []) ≡ Keep (record { earliest = pos 0; latest = pos 0; duration = pos 4; usage = pos 2 })
unfolding command_of fields_of values_of by_letter command_with numbers_taken number_of signed_of magnitude_from is_digit
job = refl

load : command_of (76 ∷ 32 ∷ 53 ∷ []) ≡ Load (pos 5)
unfolding command_of fields_of values_of by_letter command_with numbers_taken number_of signed_of magnitude_from is_digit
load = refl

update : command_of (85 ∷ 32 ∷ 50 ∷ 32 ∷ 45 ∷ 57 ∷ 32 ∷ 49 ∷ 49 ∷ []) ≡ Update (pos 2) (negsuc 8) (pos 11)
unfolding command_of fields_of values_of by_letter command_with numbers_taken number_of signed_of magnitude_from is_digit
update = refl

minus_nothing : command_of (80 ∷ 32 ∷ 45 ∷ 48 ∷ []) ≡ Fit (pos 0)
unfolding command_of fields_of values_of by_letter command_with numbers_taken number_of signed_of magnitude_from is_digit
minus_nothing = refl

rows : command_of (84 ∷ []) ≡ Rows
unfolding command_of fields_of values_of by_letter command_with numbers_taken
rows = refl

-- no line, a space behind, two spaces, a plus, a number too many
empty : command_of [] ≡ Unreadable
unfolding command_of fields_of
empty = refl

space_behind : command_of (84 ∷ 32 ∷ []) ≡ Unreadable
unfolding command_of fields_of values_of number_of
space_behind = refl

two_spaces : command_of (80 ∷ 32 ∷ 32 ∷ 48 ∷ []) ≡ Unreadable
unfolding command_of fields_of values_of number_of
two_spaces = refl

plus : command_of (80 ∷ 32 ∷ 43 ∷ 48 ∷ []) ≡ Unreadable
unfolding command_of fields_of values_of number_of signed_of magnitude_from is_digit
plus = refl

too_many : command_of (76 ∷ 32 ∷ 53 ∷ 32 ∷ 53 ∷ []) ≡ Unreadable
unfolding command_of fields_of values_of by_letter command_with numbers_taken number_of signed_of magnitude_from is_digit
too_many = refl

-- the ends of the range: -2147483648 and 2147483647 are numbers, and 2147483648 is none
least : number_of (45 ∷ 50 ∷ 49 ∷ 52 ∷ 55 ∷ 52 ∷ 56 ∷ 51 ∷ 54 ∷ 52 ∷ 56 ∷ []) ≡ Some (negsuc 2147483647)
unfolding number_of signed_of magnitude_from is_digit
least = refl

greatest : number_of (50 ∷ 49 ∷ 52 ∷ 55 ∷ 52 ∷ 56 ∷ 51 ∷ 54 ∷ 52 ∷ 55 ∷ []) ≡ Some (pos 2147483647)
unfolding number_of signed_of magnitude_from is_digit
greatest = refl

past : number_of (50 ∷ 49 ∷ 52 ∷ 55 ∷ 52 ∷ 56 ∷ 51 ∷ 54 ∷ 52 ∷ 56 ∷ []) ≡ None
unfolding number_of signed_of magnitude_from is_digit
past = refl

-- `3 3 5 1 0`, `O -5 20 7`, `E 12`, `E 128`, `S -10`, `N`, and `R` with each number that the program gives
row : row_text (record { start = pos 3; end = pos 3; height = 5; ids = pad 32 0 (1 ∷ 0 ∷ []); count = 2 }) ≡ 51 ∷ 32 ∷ 51 ∷ 32 ∷ 53 ∷ 32 ∷ 49 ∷ 32 ∷ 48 ∷ 10 ∷ []
unfolding row_text flat_map decimal digits_in signed_text
row = refl

overload : overload_text (record { start = negsuc 4; end = pos 20; height = 7; ids = pad 32 0 []; count = 0 }) ≡ 79 ∷ 32 ∷ 45 ∷ 53 ∷ 32 ∷ 50 ∷ 48 ∷ 32 ∷ 55 ∷ 10 ∷ []
unfolding overload_text decimal digits_in signed_text
overload = refl

twelve : count_text 69 12 ≡ 69 ∷ 32 ∷ 49 ∷ 50 ∷ 10 ∷ []
unfolding count_text decimal digits_in
twelve = refl

most : count_text 69 128 ≡ 69 ∷ 32 ∷ 49 ∷ 50 ∷ 56 ∷ 10 ∷ []
unfolding count_text decimal digits_in
most = refl

start : fit_text (Ok (Some (negsuc 9))) ≡ 83 ∷ 32 ∷ 45 ∷ 49 ∷ 48 ∷ 10 ∷ []
unfolding fit_text start_text signed_text decimal digits_in
start = refl

nowhere : fit_text (Ok None) ≡ 78 ∷ 10 ∷ []
unfolding fit_text
nowhere = refl

refusals : map refusal_text (
    Refusal.TooManyJobs ∷ Refusal.CapacityOutOfRange ∷ Refusal.BoundOutOfRange ∷ Refusal.BoundsCrossed ∷ Refusal.DurationOutOfRange
    ∷ Refusal.UsageOutOfRange ∷ Refusal.UnknownTask ∷ Refusal.TooManyRows ∷ Refusal.Stale ∷ Refusal.Unreadable ∷ [])
    ≡ (82 ∷ 32 ∷ 49 ∷ 10 ∷ []) ∷ (82 ∷ 32 ∷ 50 ∷ 10 ∷ []) ∷ (82 ∷ 32 ∷ 51 ∷ 10 ∷ []) ∷ (82 ∷ 32 ∷ 52 ∷ 10 ∷ []) ∷ (82 ∷ 32 ∷ 53 ∷ 10 ∷ [])
    ∷ (82 ∷ 32 ∷ 54 ∷ 10 ∷ []) ∷ (82 ∷ 32 ∷ 55 ∷ 10 ∷ []) ∷ (82 ∷ 32 ∷ 56 ∷ 10 ∷ []) ∷ (82 ∷ 32 ∷ 57 ∷ 10 ∷ []) ∷ (82 ∷ 32 ∷ 49 ∷ 49 ∷ 10 ∷ []) ∷ []
unfolding refusal_text count_text decimal digits_in
refusals = refl

-- the output of document 01's listing, as it reads
listing_read : read_answers shown
    ≡ Reply.fits
    ∷ Reply.row (pos 0) (pos 1) (pos 2) (pos 1 ∷ [])
    ∷ Reply.row (pos 2) (pos 3) (pos 5) (pos 1 ∷ pos 0 ∷ [])
    ∷ Reply.row (pos 4) (pos 5) (pos 3) (pos 0 ∷ [])
    ∷ Reply.count (pos 3)
    ∷ Reply.fits
    ∷ Reply.fits
    ∷ Reply.overloaded (pos 3) (pos 3) (pos 6)
    ∷ Reply.fits
    ∷ Reply.row (pos 2) (pos 2) (pos 3) (pos 0 ∷ [])
    ∷ Reply.row (pos 3) (pos 3) (pos 5) (pos 1 ∷ pos 0 ∷ [])
    ∷ Reply.row (pos 4) (pos 5) (pos 5) (pos 0 ∷ pos 1 ∷ [])
    ∷ Reply.row (pos 6) (pos 6) (pos 3) (pos 1 ∷ pos 2 ∷ [])
    ∷ Reply.row (pos 7) (pos 8) (pos 1) (pos 2 ∷ [])
    ∷ Reply.count (pos 5)
    ∷ []
unfolding read_answers split_at read_pieces read_line read_numbers read_number read_digits
listing_read = refl

-- `S -10` and `N`; then what is no answer: an empty line, `S  4`, ` F`, `S -`, `O 3 3`, and `F` without its line feed
start_read : read_answers (83 ∷ 32 ∷ 45 ∷ 49 ∷ 48 ∷ 10 ∷ 78 ∷ 10 ∷ []) ≡ Reply.starts_at (negsuc 9) ∷ Reply.nowhere ∷ []
unfolding read_answers split_at read_pieces read_line read_numbers read_number read_digits
start_read = refl

not_read : map read_line ([] ∷ (83 ∷ 32 ∷ 32 ∷ 52 ∷ []) ∷ (32 ∷ 70 ∷ []) ∷ (83 ∷ 32 ∷ 45 ∷ []) ∷ (79 ∷ 32 ∷ 51 ∷ 32 ∷ 51 ∷ []) ∷ [])
    ≡ Reply.garbage ∷ Reply.garbage ∷ Reply.garbage ∷ Reply.garbage ∷ Reply.garbage ∷ []
unfolding split_at read_line read_numbers read_number read_digits
not_read = refl

feed_missing : read_answers (70 ∷ 10 ∷ 70 ∷ []) ≡ Reply.fits ∷ Reply.garbage ∷ []
unfolding read_answers split_at read_pieces read_line read_numbers read_number read_digits
feed_missing = refl
