use Rattle.std.proofs.Common.{◌≡◌, drop}
use Rattle.prov_export.specs.Ids.{after}
use Rattle.prov_export.proofs.id_reading.after.Given as goal

abbrev pub invariant-loop-byte : goal.invariant-loop-byte
invariant-loop-byte l = after (drop l.byte-index l.head) l.rest ≡ after l.head l.text
