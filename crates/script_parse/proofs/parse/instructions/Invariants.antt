use Rattle.std.proofs.Common.{◌≡◌}
use Rattle.std.specs.BTreeMap.{get_by_text}
use Rattle.ldv_value.specs.Scan.{before}
use Rattle.script_parse.specs.Script.{instructions_of, first_unresolved_line}
use Rattle.script_parse.proofs.parse.instructions.Given as goal

abbrev pub invariant-loop-entry : goal.invariant-loop-entry
invariant-loop-entry l = record {
  due : before l.instructions (instructions_of (get_by_text l.labels) l.entry-iterator.rest.items) ≡ instructions_of (get_by_text l.labels) l.fn.entries;
  bad : first_unresolved_line (get_by_text l.labels) l.entry-iterator.rest.items ≡ first_unresolved_line (get_by_text l.labels) l.fn.entries;
}
