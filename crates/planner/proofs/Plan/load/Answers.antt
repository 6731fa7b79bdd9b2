-- `Plan::load` meets its contract: its checks are the definition's; a refused load hands the plan back, and an accepted one is the jobs' own.
-- Assumes nothing.
use Rattle.std.specs.Prelude.{Result, Ok, ⊤}
use mathlib.Core.Path.{◌≡◌, sym, ap, ◌∙◌}
use lib.IntN.{ℤ}
use mir.Syntax.{w32}
use mir.Val.{SFits, to_z, of_z}
use mir.Facts.{to_z-of_z}
use Rattle.planner.specs.declared.Refusal.{Refusal}
use Rattle.planner.specs.declared.Jobs.{Jobs}
use Rattle.planner.specs.Loads.{load_checked, accepted_load}
use Rattle.planner.proofs.LoadedTasks.{load_by, load_accepted}
use Rattle.planner.proofs.Plan.load.Goals as goal

found : (jobs : Jobs) (capacity : ℤ) {said : Result ⊤ Refusal} → SFits w32 capacity → said ≡ load_checked jobs (to_z w32 (of_z w32 capacity))
    → load_checked jobs capacity ≡ said
found jobs capacity fits told = ap (load_checked jobs) (sym (to_z-of_z fits)) ∙ sym told

pub accepted_load-requires : goal.accepted_load-requires
accepted_load-requires c =
    let ok = load_accepted c.args.jobs c.args.capacity (found c.args.jobs c.args.capacity c.ranges.capacity c.in-Ok.ensures) in
    (ok.0, rw (to_z-of_z c.ranges.capacity) ok.1)

pub returns-in-Err : goal.returns-in-Err
returns-in-Err c =
    record {
      value =
          c.refused_load.ensures ∙ sym (load_by c.args.self c.args.jobs c.args.capacity _ (found c.args.jobs c.args.capacity c.ranges.capacity c.in-Err.ensures));
      sound = rw c.refused_load.ensures c.requires;
    }

pub returns-in-Ok : goal.returns-in-Ok
returns-in-Ok c =
    record {
      value =
          c.accepted_load.ensures.value ∙ ap (accepted_load c.args.jobs) (to_z-of_z c.ranges.capacity)
          ∙ sym (load_by c.args.self c.args.jobs c.args.capacity (Ok tt) (found c.args.jobs c.args.capacity c.ranges.capacity c.in-Ok.ensures));
      sound = c.accepted_load.ensures.sound;
    }
