-- Demand 3, in signed instants, of the jobs as they were handed in, by their last accepted bounds.
use Rattle.std.specs.Prelude.{◌≡◌, true, false, cond, Ok, IsOk, List, [], ◌∷◌, ◌↔◌, ℕ, ◌+◌, ◌<◌, ℤ, pos, length, get_or}
use Rattle.std.specs.Int.Signed.{le_z, lt_z}
use Rattle.time_table.specs.Meaning.{bit, occurs}
use Rattle.planner.specs.declared.Job.{Job}
use Rattle.planner.specs.declared.RowRecord.{RowRecord}
use Rattle.planner.specs.declared.Answer.TheVariants.{Overloaded}
use Rattle.planner.specs.declared.Updated.{Updated}
use Rattle.planner.specs.Instants.{amount}
use Rattle.planner.specs.Running.{must_run}
use Rattle.planner.specs.Records.{ids_of, no_record}
use Rattle.planner.specs.Questions.{rows_shown, shown_rows}
use Rattle.planner.specs.Places.{Idle}
use Rattle.planner.specs.Answers.{fresh_plan}
use Rattle.planner.specs.History.{Call, Heard, job_at, Told, nothing, heard_after}

-- the sum of the draws of the jobs that must be running at t
unfoldable pub drawn_at : List Job → ℤ → ℕ
drawn_at [] t = 0
drawn_at (j ∷ js) t = cond (must_run j t) (amount j.usage) 0 + drawn_at js t

-- at t they sum to more than the capacity
abbrev pub ExceedsAt : Heard → ℤ → Type 0
ExceedsAt h t = amount h.capacity < drawn_at h.jobs t

pub record Exceeds (h : Heard) : Type 0 where
  pub instant : ℤ
  pub there : ExceedsAt h instant

-- t is the first such instant
pub record FirstExceeds (h : Heard) (t : ℤ) : Type 0 where
  pub there : ExceedsAt h t
  pub before : (s : ℤ) → lt_z s t ≡ true → ExceedsAt h s → ⊥

-- the row at the place k contains t
abbrev pub record_at : List RowRecord → ℕ → RowRecord
record_at rows k = get_or rows k no_record

pub record In (rows : List RowRecord) (k : ℕ) (t : ℤ) : Type 0 where
  pub one_of : k < length rows
  pub from : le_z (record_at rows k).start t ≡ true
  pub to : le_z t (record_at rows k).end ≡ true

pub record RowOf (rows : List RowRecord) (t : ℤ) : Type 0 where
  pub place : ℕ
  pub there : In rows place t

-- each job that draws something has an id, and no two have the same
pub record Named (h : Heard) (p : ℕ) : Type 0 where
  pub id : ℕ
  pub told : Told h p id

pub record Identified (h : Heard) : Type 0 where
  pub every : (p : ℕ) → p < length h.jobs → ¬ Idle (job_at h p) → Named h p
  pub once : (p q i : ℕ) → Told h p i → Told h q i → p ≡ q

-- some job was told the id i; and none was told this number
pub record SomeJob (h : Heard) (i : ℕ) : Type 0 where
  pub place : ℕ
  pub told : Told h place i

abbrev pub NoJob : Heard → ℤ → Type 0
NoJob h id = (i : ℕ) → id ≡ pos i → ¬ SomeJob h i

-- the rows of a live table
pub record Demanded (h : Heard) (rows : List RowRecord) : Type 0 where
  -- are sorted and disjoint, and none is empty
  pub sorted : (j k : ℕ) → j < k → k < length rows → lt_z (record_at rows j).end (record_at rows k).start ≡ true
  pub proper : (k : ℕ) → k < length rows → le_z (record_at rows k).start (record_at rows k).end ≡ true
  -- each instant's row lists a job, by its id, once if it must be running and else not, and nothing but jobs
  pub lists : (k : ℕ) (t : ℤ) (p i : ℕ) → In rows k t → Told h p i → occurs i (ids_of (record_at rows k)) ≡ bit (must_run (job_at h p) t)
  pub only : (k i : ℕ) → k < length rows → 0 < occurs i (ids_of (record_at rows k)) → SomeJob h i
  -- with the sum of the draws
  pub sums : (k : ℕ) (t : ℤ) → In rows k t → (record_at rows k).height ≡ drawn_at h.jobs t
  -- an instant at which one must be running has a row, and an instant without one has none
  pub covered : (t : ℤ) (p i : ℕ) → Told h p i → must_run (job_at h p) t ≡ true → RowOf rows t
  pub bare : (t : ℤ) → ((p i : ℕ) → Told h p i → must_run (job_at h p) t ≡ false) → RowOf rows t → ⊥

-- after an accepted call "overloaded" is answered exactly if some instant exceeds the capacity, the row shown starts at the first such
-- instant, and the rows that a question then gets are as demanded
pub record Answered (h : Heard) (o : Updated) : Type 0 where
  pub identified : Identified h
  pub overloaded : (o.answer ≡ Ok Overloaded) ↔ Exceeds h
  pub first : o.answer ≡ Ok Overloaded → FirstExceeds h o.row.start
  pub rows : IsOk (rows_shown o.plan) → Demanded h (shown_rows (rows_shown o.plan))

-- rows as demanded of a live table after some calls of a fresh plan
abbrev pub DemandedAfter : List Call → List RowRecord → Type 0
DemandedAfter calls rows = Demanded (heard_after fresh_plan nothing calls) rows
