-- The commands of a script, by their numbers: 1 earliest latest duration usage keeps a job, 2 capacity loads, 3 id earliest latest updates,
-- 4 id asks for the first fit, 5 asks for the rows. Anything else, and a command that is cut off, cannot be read.
use Rattle.std.specs.Prelude.{cond, ◌&&◌, List, ℕ, eqb, leb, ℤ, pos, negsuc, length, get_or}
use Rattle.script.specs.declared.Command.{Command}
use Rattle.script.specs.declared.Command.TheVariants.{Keep, Load, Update, FirstFit, Rows, Unreadable}

-- a command's kind by its first number; no kind is negative
abbrev pub kind_of : ℤ → ℕ
kind_of (pos n) = n
kind_of (negsuc n) = 0

-- the command of a kind with the numbers behind it, where the script has so many numbers from the kind on
unfoldable pub command_of_kind : ℕ → ℕ → ℤ → ℤ → ℤ → ℤ → Command
command_of_kind kind left a b c d =
    cond (eqb kind 1 && leb 5 left) (Keep (record { earliest = a; latest = b; duration = c; usage = d }))
    (cond (eqb kind 2 && leb 2 left) (Load a)
    (cond (eqb kind 3 && leb 4 left) (Update a b c)
    (cond (eqb kind 4 && leb 2 left) (FirstFit a)
    (cond (eqb kind 5 && leb 1 left) Rows Unreadable))))

-- the number at a place
abbrev pub number_at : List ℤ → ℕ → ℤ
number_at l i = get_or l i (pos 0)

-- the command at the start of a script
unfoldable pub command_at : List ℤ → Command
command_at l = command_of_kind (kind_of (number_at l 0)) (length l) (number_at l 1) (number_at l 2) (number_at l 3) (number_at l 4)

-- how many of the numbers behind its kind belong to a command; one that cannot be read has all of them
abbrev pub arguments_of : Command → ℕ → ℕ
arguments_of (Keep job) rest = 4
arguments_of (Load capacity) rest = 1
arguments_of (Update id earliest latest) rest = 3
arguments_of (FirstFit id) rest = 1
arguments_of Rows rest = 0
arguments_of Unreadable rest = rest
