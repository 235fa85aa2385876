use Rattle.std.proofs.Common.{◌≡◌, ◌≤◌, drop}
use Rattle.ldv_top.specs.WordNumbers.{with_digits}
use Rattle.ldv_top.proofs.numbers.with_digits.Given as goal

abbrev pub invariant-loop-byte : goal.invariant-loop-byte
invariant-loop-byte l = record {
  number : with_digits l.limit l.number (drop l.byte-index l.bytes) ≡ with_digits l.limit 0 l.bytes;
  bounded : l.number ≤ l.limit;
}
