use Rattle.std.proofs.Common.{◌≡◌, map, take}
use Rattle.sql_model.specs.TextBytes.{lower_case_of}
use Rattle.sql_parse.proofs.scan.lower_case.Given as goal

abbrev pub invariant-loop-b : goal.invariant-loop-b
invariant-loop-b l = l.lower ≡ map lower_case_of (take l.b-index l.text)
