use Rattle.std.proofs.Common.{subst, sym, List, ℕ}
use Rattle.dml_versions.proofs.TestLaws.{slots-pass, covered}
use Rattle.dml_versions.specs.inner.Finding.{AllPass, CoverFound, scope_in, test_in}
use Rattle.dml_versions.proofs.finding.found_by_tests.Goals as goal

pub choose_slots-requires : goal.choose_slots-requires
choose_slots-requires c = c.requires.tests.fit

pub found_among-requires-clause-cover : goal.found_among-requires-clause-cover
found_among-requires-clause-cover c =
    let table = c.args.table.now in
    let test = test_in table c.args.pick.now in
    subst (λ (words : List ℕ). CoverFound words test table.slots) (sym c.as_slice.ensures.value)
    (covered c.args.tests.now test table.slots c.in_ok-words.words.items c.in_ok-words.ensures.members (c.requires.tests.pass (scope_in table) c.requires.placed))

pub found_among-requires-clause-exact : goal.found_among-requires-clause-exact
found_among-requires-clause-exact c = λ is.
    let table = c.args.table.now in
    let test = test_in table c.args.pick.now in
    subst (λ (words : List ℕ). AllPass words test table.slots) (sym c.as_slice.ensures.value)
    (slots-pass c.args.tests.now test table.slots c.in_ok-words.words.items c.in_ok-words.ensures.members (c.requires.exact is (scope_in table) c.requires.placed))
