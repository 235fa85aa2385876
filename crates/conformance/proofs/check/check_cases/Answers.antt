use Rattle.std.proofs.Common.{◌≡◌, ◌+◌, ◌≤◌, ◌∙◌, ap, drop, option_map, arith}
use Rattle.ldv_value.proofs.Places.{drop_item}
use Rattle.conformance.specs.Files.{ComesOut}
use Rattle.conformance.specs.Wanted.{wanted_count}
use Rattle.conformance.proofs.Wanting.{counted_first, counts_more, one_more}
use Rattle.conformance.proofs.check.check_cases.Goals as goal

pub loop-case-preserved : goal.loop-case-preserved
loop-case-preserved g c =
    let cases = c.args.cases.now in
    let i = c.loop-case.case-index in
    let only = option_map (λ name. name.now) c.args.only in
    let case = c.case-item.result in
    let split = drop_item cases i case c.loop-case-test.true c.case-item.is in
    let named = c.in_ok-check_name.ensures in
    let judged = c.in_ok-check_wanted.ensures in (
      omega (arith, c.loop-case.invariant.0, named.kept, judged.kept),
      counts_more _ _ _ _ _ _ _ _ (ap (wanted_count only) split ∙ counted_first only case (drop (i + 1) cases)) named.cases judged.cases
          c.loop-case.invariant.1,
      one_more (ComesOut only) cases (drop i cases) (drop (i + 1) cases) case c.loop-case.tally.differences
          c.check_wanted.new.tally.differences split (omega (arith, named.kept, judged.kept)) judged.same c.loop-case.invariant.2,
    )
