use Rattle.std.proofs.Common.{◌≡◌, ◌-◌, ◌<◌}
use Rattle.proc_core.specs.inner.NameKey.{key_onto, name_key, weight}
use Rattle.proc_core.proofs.keyed_outcome.name_key.Given as goal

abbrev pub invariant-loop-digit : goal.invariant-loop-digit
invariant-loop-digit l = record {
  key : key_onto l.key (16 - l._digit) l.rest ≡ name_key l.fn.parts;
  small : l.key < weight l._digit;
}
