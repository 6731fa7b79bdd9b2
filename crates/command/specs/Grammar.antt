-- The grammar of a line: a letter, then numbers, single spaces between, in at most 80 bytes.
use Rattle.std.specs.Prelude.{cond, List, [], ◌∷◌, ◌++◌, ℕ, leb, eqb, ℤ, pos, length, get_or, Option, Some, None}
use Rattle.planner.specs.declared.Job.{Job}
use Rattle.command.specs.declared.Command.{Command}
use Rattle.command.specs.declared.Command.TheVariants.{Keep, Load, Update, Fit, Rows, Unreadable}
use Rattle.command.specs.Numbers.{number_of}

-- a byte in front of the first field
abbrev pub in_first : ℕ → List (List ℕ) → List (List ℕ)
in_first b [] = (b ∷ []) ∷ []
in_first b (f ∷ fs) = (b ∷ f) ∷ fs

-- the fields of a line: what stands before, between and behind its spaces
unfoldable pub fields_of : List ℕ → List (List ℕ)
fields_of [] = [] ∷ []
fields_of (b ∷ bs) = cond (eqb b 32) ([] ∷ fields_of bs) (in_first b (fields_of bs))

-- the numbers of some fields, if each is one
abbrev pub before : List ℤ → Option (List ℤ) → Option (List ℤ)
before l (Some m) = Some (l ++ m)
before l None = None

abbrev pub first_of : Option ℤ → Option (List ℤ) → Option (List ℤ)
first_of (Some z) v = before (z ∷ []) v
first_of None v = None

unfoldable pub values_of : List (List ℕ) → Option (List ℤ)
values_of [] = Some []
values_of (f ∷ fs) = first_of (number_of f) (values_of fs)

abbrev pub nth : List ℤ → ℕ → ℤ
nth l i = get_or l i (pos 0)

-- how many numbers a letter takes: `J` 74, `U` 85, `L` 76, `P` 80; `T` 84 takes none
unfoldable pub numbers_taken : ℕ → ℕ
numbers_taken letter = cond (eqb letter 74) 4 (cond (eqb letter 85) 3 (cond (eqb letter 76) 1 (cond (eqb letter 80) 1 0)))

abbrev pub job_of : List ℤ → Job
job_of l = record { earliest = nth l 0; latest = nth l 1; duration = nth l 2; usage = nth l 3 }

-- a letter with the numbers that it takes
unfoldable pub command_with : ℕ → List ℤ → Command
command_with letter l =
    cond (eqb letter 74) (Keep (job_of l))
    (cond (eqb letter 76) (Load (nth l 0))
    (cond (eqb letter 85) (Update (nth l 0) (nth l 1) (nth l 2)) (cond (eqb letter 80) (Fit (nth l 0)) (cond (eqb letter 84) Rows Unreadable))))

unfoldable pub by_letter : ℕ → List ℤ → Command
by_letter letter l = cond (eqb (length l) (numbers_taken letter)) (command_with letter l) Unreadable

abbrev pub asked : ℕ → Option (List ℤ) → Command
asked letter (Some l) = by_letter letter l
asked letter None = Unreadable

abbrev pub asked_by : List (List ℕ) → Command
asked_by [] = Unreadable
asked_by ([] ∷ fields) = Unreadable
asked_by ((letter ∷ []) ∷ fields) = asked letter (values_of fields)
asked_by ((letter ∷ b ∷ bs) ∷ fields) = Unreadable

-- the most bytes that a line may have
abbrev pub line_limit : ℕ
line_limit = 80

-- the command of a line
unfoldable pub command_of : List ℕ → Command
command_of line = cond (leb (length line) line_limit) (asked_by (fields_of line)) Unreadable

-- the numbers of what stands behind a letter: nothing before its first space, and then the fields
abbrev pub values_behind : List (List ℕ) → Option (List ℤ)
values_behind [] = Some []
values_behind ([] ∷ fs) = values_of fs
values_behind ((b ∷ bs) ∷ fs) = None

-- so many numbers, or none
abbrev pub counted : ℕ → Option (List ℤ) → Option (List ℤ)
counted n (Some l) = cond (eqb (length l) n) (Some l) None
counted n None = None

-- what is read behind a letter that takes so many numbers
abbrev pub numbers_behind : ℕ → List ℕ → Option (List ℤ)
numbers_behind n text = counted n (values_behind (fields_of text))
