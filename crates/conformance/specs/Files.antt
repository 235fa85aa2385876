-- What status 0 says about files of cases: each was read, and each wanted case came out as it wants.
use Rattle.std.specs.Prelude.{◌≡◌, ℕ, List, true, Option, Result, Ok, Err}
use Rattle.std.specs.List.{AllByRecursion}
use Rattle.conformance.specs.declared.case.Case.{Case}
use Rattle.conformance.specs.declared.file.ReadFile.{ReadFile}
use Rattle.conformance.specs.Runs.{IsAsWanted}
use Rattle.conformance.specs.Wanted.{is_wanted}

-- if a case is among the wanted ones, it comes out as it wants
abbrev pub ComesOut : Option (List ℕ) → Case → Type 0
ComesOut only case = is_wanted only case ≡ true → IsAsWanted case

abbrev pub AreAsWanted : Option (List ℕ) → List Case → Type 0
AreAsWanted only cases = AllByRecursion (ComesOut only) cases

-- there is a value, and this holds of it
abbrev pub IsOkWith : {X E : Type 0} → Result X E → (X → Type 0) → Type 0
IsOkWith (Ok x) holds = holds x
IsOkWith (Err e) holds = ⊥

abbrev pub IsFileAsWanted : Option (List ℕ) → ReadFile → Type 0
IsFileAsWanted only file = IsOkWith file.found (λ cases. AreAsWanted only cases.items)

abbrev pub AreFilesAsWanted : Option (List ℕ) → List ReadFile → Type 0
AreFilesAsWanted only files = AllByRecursion (IsFileAsWanted only) files
