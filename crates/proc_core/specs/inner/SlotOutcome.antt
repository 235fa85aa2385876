-- The outcome of an ended run, over slots. `Outcome` of `run_model` defines it by names.
use Rattle.std.specs.Prelude.{List, [], ◌∷◌, ◌++◌, unwrap_or}
use Rattle.std.specs.Ordering.{nat_cmp}
use Rattle.std.specs.declared.cmp.Ordering.{Ordering}
use Rattle.std.specs.Cmp.Lexicographic.{slice_cmp}
use Rattle.sql_model.specs.Sorting.{sorted_by}
use Rattle.run_model.specs.Outcome.{outcomes_of_paths}
use Rattle.run_model.specs.declared.outcome.Outcome.{Outcome}
use Rattle.run_model.specs.declared.outcome.ProcOutcome.{ProcOutcome}
use Rattle.proc_core.specs.declared.machine.Machine.{Machine}
use Rattle.proc_core.specs.declared.process.SlotProcess.{SlotProcess}

abbrev pub slot_outcome : SlotProcess → ProcOutcome
slot_outcome r = record {
  name = record { parts = r.name };
  status = unwrap_or r.status 0;
  printed = r.printed;
  replies = r.replies;
}

-- from the last process to the first
abbrev pub slot_outcomes : List SlotProcess → List ProcOutcome
slot_outcomes [] = []
slot_outcomes (r ∷ rs) = slot_outcomes rs ++ slot_outcome r ∷ []

abbrev pub name_cmp : ProcOutcome → ProcOutcome → Ordering
name_cmp a b = slice_cmp nat_cmp a.name.parts b.name.parts

abbrev pub slot_outcomes_by_name : List SlotProcess → List ProcOutcome
slot_outcomes_by_name rs = sorted_by name_cmp (slot_outcomes rs)

abbrev pub slot_outcome_of : Machine → Outcome
slot_outcome_of m = record {
  processes = slot_outcomes_by_name m.processes.items;
  paths = outcomes_of_paths m.tree;
}
