-- What each public function promises of its outcome: its `ensures` clauses. No two outcomes meet a promise, which is proved (proofs/Unique.antt).
use Rattle.std.specs.Prelude.{◌≡◌, Option, Result, [], ℕ, ℤ}
use Rattle.planner.specs.declared.Job.{Job}
use Rattle.planner.specs.declared.Jobs.{Jobs}
use Rattle.planner.specs.declared.Plan.{Plan}
use Rattle.planner.specs.declared.Refusal.{Refusal}
use Rattle.planner.specs.declared.RowRecord.{RowRecord}
use Rattle.planner.specs.declared.Rows.{Rows}
use Rattle.planner.specs.declared.Updated.{Updated}
use Rattle.planner.specs.declared.Loaded.{Loaded}
use Rattle.planner.specs.Sound.{Sound}
use Rattle.planner.specs.Refusals.{number_of}
use Rattle.planner.specs.Kept.{jobs_with, keeping}
use Rattle.planner.specs.Records.{no_record}
use Rattle.planner.specs.Answers.{fresh_plan}
use Rattle.planner.specs.Loads.{loaded}
use Rattle.planner.specs.Updates.{updated}
use Rattle.planner.specs.Questions.{fit_of, rows_shown}

abbrev pub FreshPromise : Plan → Type 0
FreshPromise r = (r ≡ fresh_plan) × Sound r

abbrev pub LoadPromise : Plan → Jobs → ℤ → Loaded → Type 0
LoadPromise plan jobs capacity r = (r ≡ loaded plan jobs capacity) × Sound r.plan

abbrev pub UpdatePromise : Plan → ℤ → ℤ → ℤ → Updated → Type 0
UpdatePromise plan id earliest latest r = (r ≡ updated plan id earliest latest) × Sound r.plan

abbrev pub FitPromise : Plan → ℤ → Result (Option ℤ) Refusal → Type 0
FitPromise plan id r = r ≡ fit_of plan id

abbrev pub RowsPromise : Plan → Result Rows Refusal → Type 0
RowsPromise plan r = r ≡ rows_shown plan

abbrev pub EmptyPromise : Jobs → Type 0
EmptyPromise r = r ≡ jobs_with []

abbrev pub KeepPromise : Jobs → Job → Jobs → Type 0
KeepPromise jobs job r = r ≡ keeping jobs job

abbrev pub NumberPromise : Refusal → ℕ → Type 0
NumberPromise why r = r ≡ number_of why

abbrev pub NoRecordPromise : RowRecord → Type 0
NoRecordPromise r = r ≡ no_record
