-- When a case ends as expected.
use Rattle.std.specs.Prelude.{Bool, false, ◌&&◌, Result, Ok, Err}
use Rattle.std.specs.Option.{is_none}
use Rattle.conformance.specs.declared.compare.Differences.{Differences}

-- it was run, and none of the four differs
abbrev pub is_same : {E : Type 0} → Result Differences E → Bool
is_same (Ok differences) =
    is_none differences.status && is_none differences.steady_status && is_none differences.output
    && is_none differences.error
is_same (Err _) = false
