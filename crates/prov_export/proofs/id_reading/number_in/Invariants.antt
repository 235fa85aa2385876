use Rattle.std.proofs.Common.{◌≡◌, drop}
use Rattle.prov_export.specs.Ids.{with_digits, number_in}
use Rattle.prov_export.proofs.id_reading.number_in.Given as goal

abbrev pub invariant-loop-byte : goal.invariant-loop-byte
invariant-loop-byte l = with_digits l.number (drop l.byte-index l.bytes) ≡ number_in l.bytes
