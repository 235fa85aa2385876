use Rattle.std.proofs.Common.{◌≡◌, ◌^◌, ◌≤◌, drop}
use Rattle.script_parse.specs.Number.{magnitude_from}
use Rattle.script_parse.proofs.number.all_digits.Given as goal

abbrev pub invariant-loop-b : goal.invariant-loop-b
invariant-loop-b l = record {
  within : l.number ≤ 2 ^ 63;
  due : magnitude_from 0 l.digits ≡ magnitude_from l.number (drop l.b-index l.digits);
}
