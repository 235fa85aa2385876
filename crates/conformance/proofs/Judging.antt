-- A case that adds no difference was run, and ended as expected.
use Rattle.std.proofs.Common.{◌≡◌, ℕ, ◌+◌, ◌-◌, ◌^◌, Bool, true, false, ◌&&◌, Ok, Err, Result, IfOk, refl, arith, if◌then◌else◌, min, is_none}
use Rattle.ldv_value.proofs.Booleans.{and-parts}
use Rattle.ldv_value.proofs.Options.{is_none-true}
use Rattle.conformance.specs.declared.case.Case.{Case}
use Rattle.conformance.specs.declared.compare.Differences.{Differences}
use Rattle.conformance.specs.Runs.{IsJudged, IsAsWanted}
use Rattle.conformance.specs.inner.Same.{is_same}

same_when : (same : Bool) (old new : ℕ) → new ≡ (if same then old else min (old + 1) (2 ^ 64 - 1)) → new ≡ 0 → same ≡ true
same_when true old new counts none = refl
same_when false old new counts none = absurd (omega (arith, counts, none))

wanted_by : (case : Case) (d : Differences) → IsJudged case d → (is_none d.status && is_none d.steady_status && is_none d.output && is_none d.error) ≡ true → IsAsWanted case
wanted_by case d is all =
    let one = and-parts (is_none d.status && is_none d.steady_status && is_none d.output) (is_none d.error) all in
    let two = and-parts (is_none d.status && is_none d.steady_status) (is_none d.output) one.0 in
    let three = and-parts (is_none d.status) (is_none d.steady_status) two.0 in
    record {
      ended = is.ended;
      run = is.run;
      status = is.status.0 (is_none-true d.status three.0);
      steady_status = is.steady_status.0 (is_none-true d.steady_status three.1);
      output = is.output.0 (is_none-true d.output two.1);
      error = is.error.0 (is_none-true d.error one.1);
    }

pub as_wanted : (case : Case) {E : Type 0} (judged : Result Differences E) (old new : ℕ) → IfOk judged (IsJudged case) → new ≡ (if is_same judged then old else min (old + 1) (2 ^ 64 - 1)) → new ≡ 0 → IsAsWanted case
as_wanted case {E} (Ok d) old new is counts none = wanted_by case d is (same_when (is_same {E = E} (Ok d)) old new counts none)
as_wanted case {E} (Err e) old new is counts none = absurd (omega (arith, counts, none))
