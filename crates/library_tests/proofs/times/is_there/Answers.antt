use Rattle.library_tests.proofs.StoreFacts.{table_there}
use Rattle.library_tests.proofs.times.is_there.Goals as goal

pub returns-in-Some : goal.returns-in-Some
returns-in-Some c = λ _. table_there c.args.name.now c.args.store.now c.in-Some._held.now c.in-Some.ensures.table
