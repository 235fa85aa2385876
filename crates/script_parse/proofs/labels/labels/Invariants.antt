use Rattle.std.proofs.Common.{◌≡◌, ◌≤◌, ℕ, List, drop}
use Rattle.std.specs.BTreeMap.{get_by_text}
use Rattle.std.specs.Option.{option_or}
use Rattle.script_parse.specs.Script.{definition_of, labels_from, look_up}
use Rattle.script_parse.proofs.labels.labels.Given as goal

abbrev pub invariant-loop-entry : goal.invariant-loop-entry
invariant-loop-entry l = record {
  all : (name : List ℕ) → option_or (get_by_text l.labels name) (definition_of (labels_from l.place (drop l.entry-index l.entry-items)) name) ≡ look_up l.entries name;
  few : l.place ≤ l.entry-index;
}
