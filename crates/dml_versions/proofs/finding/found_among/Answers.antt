use Rattle.dml_versions.proofs.TestLaws.{found_end, found_next}
use Rattle.dml_versions.specs.inner.Finding.{test_in, found_from}
use Rattle.dml_versions.proofs.finding.found_among.Goals as goal

pub returns-in-None : goal.returns-in-None
returns-in-None c =
    let slots = c.args.table.now.slots in
    let test = test_in c.args.table.now c.args.pick.now in
    found_end c.args.words.now test slots c.requires.cover c.slots.found c.slots.at (found_from test slots 0) c.in-None.ensures c.slots.invariant

pub slots-preserved : goal.slots-preserved
slots-preserved c =
    let slots = c.args.table.now.slots in
    let test = test_in c.args.table.now c.args.pick.now in
    found_next c.args.words.now test slots c.requires.cover c.slots.found c.add_found.new.found c.slots.at c.in-Some.slot c.after_member-at.result (found_from test slots 0)
    c.in-Some.ensures c.in_ok-add_found-in-Some.ensures c.after_member-at.ensures.next c.slots.invariant

pub add_found-requires-clause-known : goal.add_found-requires-clause-known
add_found-requires-clause-known c = λ is. c.requires.exact is c.in-Some.slot c.in-Some.ensures.1
