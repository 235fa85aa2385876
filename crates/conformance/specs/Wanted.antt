-- The cases to run.
use Rattle.std.specs.Prelude.{ℕ, List, Bool, true, Option, Some, None, length, filter}
use Rattle.std.specs.Prelude.{bytes_eq, string_bytes}
use Rattle.conformance.specs.declared.case.Case.{Case}

-- all, or those of a name
abbrev pub is_wanted : Option (List ℕ) → Case → Bool
is_wanted None case = true
is_wanted (Some name) case = bytes_eq (string_bytes case.name) name

abbrev pub wanted_count : Option (List ℕ) → List Case → ℕ
wanted_count only cases = length (filter (is_wanted only) cases)
