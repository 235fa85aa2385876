use Rattle.std.proofs.Common.{◌≡◌, sym, ◌∙◌, subst, true, Option, Some}
use Rattle.std.specs.Prelude.{IfSome}
use Rattle.std.proofs.lemmas.Result.{on_ok_weaker}
use Rattle.dml_versions.proofs.FoundLaws.{found-missed, found-met, row-here}
use Rattle.dml_versions.specs.inner.Finding.{scope_in, test_in}
use Rattle.dml_versions.specs.Types.{TableRow}
use Rattle.dml_versions.proofs.finding.add_found.Goals as goal

pub returns-then-not-branch : goal.returns-then-not-branch
returns-then-not-branch c =
    let table = c.args.table.now in
    let number = c.in-Some.number in
    let values = c.in_ok-values-in-Some.values in
    let here = row-here table.slots c.args.slot number values c.in-Some.ensures c.in_ok-values-in-Some.ensures in
    found-missed table.slots c.args.slot (test_in table c.args.pick.now) c.args.found.now number values c.in-Some.ensures c.in_ok-values-in-Some.ensures
    (sym (c.in_ok-is_met-in-Some.ensures (scope_in table) number c.requires.placed
    (λ is. subst (λ (o : Option TableRow). IfSome o (λ row. test_in table c.args.pick.now row ≡ true)) here (c.requires.known is))) ∙ c.if-not-branch.true)

pub returns-else-not-branch : goal.returns-else-not-branch
returns-else-not-branch c =
    let table = c.args.table.now in
    let number = c.in-Some.number in
    let values = c.in_ok-values-in-Some.values in
    let here = row-here table.slots c.args.slot number values c.in-Some.ensures c.in_ok-values-in-Some.ensures in
    on_ok_weaker c.push.result
    (λ made. found-met table.slots c.args.slot (test_in table c.args.pick.now) c.args.found.now number values c.in-Some.ensures c.in_ok-values-in-Some.ensures
    (sym (c.in_ok-is_met-in-Some.ensures (scope_in table) number c.requires.placed
    (λ is. subst (λ (o : Option TableRow). IfSome o (λ row. test_in table c.args.pick.now row ≡ true)) here (c.requires.known is))) ∙ c.if-not-branch.false)
    c.version_of-version.result c.version_of-version.ensures c.push.new.self made)
    c.push.ensures.ok
