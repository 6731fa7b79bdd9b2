-- Document 01's corners by example that are marked *, a to m: what is asked, and what is to be said. That the definitions say just that is
-- proved (proofs/Corners.antt).
use Rattle.std.specs.Prelude.{Option, Some, None, Result, Ok, Err, List, [], ◌∷◌, map, ℕ, ℤ, pos, negsuc, take}
use Rattle.time_table.specs.declared.Part.{Part}
use Rattle.time_table.specs.Adjustments.{stretch, removed_parts, added_parts}
use Rattle.sweep.specs.Tasks.{part_of}
use Rattle.planner.specs.declared.Job.{Job}
use Rattle.planner.specs.declared.Plan.{Plan}
use Rattle.planner.specs.declared.RowRecord.{RowRecord}
use Rattle.planner.specs.declared.Rows.{Rows}
use Rattle.planner.specs.declared.Answer.{Answer}
use Rattle.planner.specs.declared.Refusal.{Refusal}
use Rattle.planner.specs.Refusals.{number_of}
use Rattle.planner.specs.Instants.{instant, tick}
use Rattle.planner.specs.Kept.{jobs_with}
use Rattle.planner.specs.Answers.{fresh_plan}
use Rattle.planner.specs.Loads.{task_of, loaded}
use Rattle.planner.specs.Updates.{updated}
use Rattle.planner.specs.Questions.{fit_of, rows_shown, records_of}

-- the instants from `from` up to but without `until`
pub record Span : Type 0 where
  pub from : ℤ
  pub until : ℤ

-- a row: its start, its inclusive end, its height and its ids
pub record Line : Type 0 where
  pub start : ℤ
  pub end : ℤ
  pub height : ℕ
  pub ids : List ℕ

-- what is asked of a plan: the command program's L with its jobs, U, P and T
pub data Call : Type 0 where
  load : List Job → ℤ → Call
  update : ℤ → ℤ → ℤ → Call
  fit : ℤ → Call
  rows : Call

-- what an entry asks: a job's part, the adjustments from an old part to a new one, or calls from a fresh plan on
pub data Question : Type 0 where
  part : Job → Question
  adjust : Span → Span → Question
  calls : List Call → Question

-- what is said: a part, unless it is empty; what is removed, and what is added; and the command program's F, O, R, S, N, and its rows
pub data Said : Type 0 where
  covers : List Span → Said
  removed : List Span → Said
  added : List Span → Said
  fits : Said
  overloaded : ℤ → ℤ → ℕ → Said
  refused : ℕ → Said
  starts : ℤ → Said
  nowhere : Said
  shows : List Line → Said

-- parts in ticks and in instants
abbrev pub of_span : Span → Part
of_span s = record { from = tick s.from; until = tick s.until; id = 0; usage = 1 }

abbrev pub to_span : Part → Span
to_span p = record { from = instant p.from; until = instant p.until }

abbrev pub spans : Part → List Span
spans p = map to_span (stretch p p.from p.until)

-- answers as they are said
abbrev pub said_answer : Result Answer Refusal → RowRecord → Said
said_answer (Ok Answer.Fits) r = fits
said_answer (Ok Answer.Overloaded) r = overloaded r.start r.end r.height
said_answer (Err why) r = refused (number_of why)

abbrev pub said_fit : Result (Option ℤ) Refusal → Said
said_fit (Ok (Some s)) = starts s
said_fit (Ok None) = nowhere
said_fit (Err why) = refused (number_of why)

abbrev pub line_of : RowRecord → Line
line_of r = record { start = r.start; end = r.end; height = r.height; ids = take r.count r.ids }

abbrev pub said_rows : Result Rows Refusal → Said
said_rows (Ok r) = shows (map line_of (records_of r))
said_rows (Err why) = refused (number_of why)

-- one call: what it says, and the plan after it
unfoldable pub says : Plan → Call → Said
says plan (load js capacity) = said_answer (loaded plan (jobs_with js) capacity).answer (loaded plan (jobs_with js) capacity).row
says plan (update id earliest latest) = said_answer (updated plan id earliest latest).answer (updated plan id earliest latest).row
says plan (fit id) = said_fit (fit_of plan id)
says plan rows = said_rows (rows_shown plan)

unfoldable pub next : Plan → Call → Plan
next plan (load js capacity) = (loaded plan (jobs_with js) capacity).plan
next plan (update id earliest latest) = (updated plan id earliest latest).plan
next plan (fit id) = plan
next plan rows = plan

-- calls, one after another
unfoldable pub said_by : Plan → List Call → List Said
said_by plan [] = []
said_by plan (c ∷ cs) = says plan c ∷ said_by (next plan c) cs

-- what the definitions say to a question
unfoldable pub answered : Question → List Said
answered (part j) = covers (spans (part_of 0 (task_of j))) ∷ []
answered (adjust old new) =
    removed (map to_span (removed_parts (of_span old) (of_span new))) ∷ added (map to_span (added_parts (of_span old) (of_span new))) ∷ []
answered (calls cs) = said_by fresh_plan cs

-- an entry of the table: what is asked, and what is to be said
pub record Corner : Type 0 where
  pub asked : Question
  pub said : List Said

abbrev corner : Question → List Said → Corner
corner asked said = record { asked = asked; said = said }

abbrev job : ℤ → ℤ → ℤ → ℤ → Job
job earliest latest duration usage = record { earliest = earliest; latest = latest; duration = duration; usage = usage }

abbrev span : ℕ → ℕ → Span
span from until = record { from = pos from; until = pos until }

abbrev line : ℤ → ℤ → ℕ → List ℕ → Line
line start end height ids = record { start = start; end = end; height = height; ids = ids }

-- the listing's load with another third job
abbrev listing : Job → Call
listing third = load (job (pos 0) (pos 0) (pos 4) (pos 2) ∷ job (pos 2) (pos 2) (pos 4) (pos 3) ∷ third ∷ []) (pos 5)

-- a to m
unfoldable pub table : List Corner
table =
    -- a
    corner (part (job (pos 5) (pos 7) (pos 3) (pos 1))) (covers (span 7 8 ∷ []) ∷ [])
    -- b
    ∷ corner (part (job (pos 5) (pos 8) (pos 3) (pos 1))) (covers [] ∷ [])
    -- c
    ∷ corner (adjust (span 2 8) (span 4 6)) (removed (span 6 8 ∷ span 2 4 ∷ []) ∷ added [] ∷ [])
    -- d
    ∷ corner (adjust (span 4 6) (span 2 8)) (removed [] ∷ added (span 6 8 ∷ span 2 4 ∷ []) ∷ [])
    -- e
    ∷ corner (adjust (span 3 6) (span 6 9)) (removed (span 3 6 ∷ []) ∷ added (span 6 9 ∷ []) ∷ [])
    -- f
    ∷ corner
    (calls (load (job (pos 0) (pos 0) (pos 4) (pos 3) ∷ job (pos 4) (pos 4) (pos 4) (pos 3) ∷ []) (pos 3) ∷ rows ∷ []))
    (fits ∷ shows (line (pos 0) (pos 3) 3 (0 ∷ []) ∷ line (pos 4) (pos 7) 3 (1 ∷ []) ∷ []) ∷ [])
    -- g
    ∷ corner
    (calls (load (job (negsuc 0) (negsuc 0) (pos 3) (pos 2) ∷ []) (pos 2) ∷ rows ∷ []))
    (fits ∷ shows (line (negsuc 0) (pos 1) 2 (0 ∷ []) ∷ []) ∷ [])
    -- h
    ∷ corner
    (calls (load (job (pos 0) (pos 0) (pos 4) (pos 3) ∷ []) (pos 2) ∷ rows ∷ []))
    (overloaded (pos 0) (pos 3) 3 ∷ refused 9 ∷ [])
    -- i
    ∷ corner
    (calls (load (job (pos 0) (pos 10) (pos 4) (pos 3) ∷ []) (pos 2) ∷ update (pos 0) (pos 5) (pos 5) ∷ []))
    (fits ∷ overloaded (pos 5) (pos 8) 3 ∷ [])
    -- j
    ∷ corner (calls (load [] (pos 0) ∷ rows ∷ [])) (fits ∷ shows [] ∷ [])
    -- k
    ∷ corner
    (calls (load (job (pos 1000000000) (pos 1000000000) (pos 1000000000) (pos 1) ∷ []) (pos 1) ∷ rows ∷ []))
    (fits ∷ shows (line (pos 1000000000) (pos 1999999999) 1 (0 ∷ []) ∷ []) ∷ [])
    -- l
    ∷ corner (calls (listing (job (pos 0) (pos 10) (pos 3) (pos 1)) ∷ fit (pos 2) ∷ [])) (fits ∷ starts (pos 4) ∷ [])
    -- m
    ∷ corner (calls (listing (job (pos 1) (pos 3) (pos 2) (pos 1)) ∷ fit (pos 2) ∷ [])) (fits ∷ nowhere ∷ [])
    ∷ []
