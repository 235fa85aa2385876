use Rattle.library_tests.proofs.Named.{after_add}
use Rattle.library_tests.proofs.sets.add_entry.Goals as goal

pub returns : goal.returns
returns c = after_add c.add.result c.args.names.now c.args.set.now c.add.new.self (c.args.entry.0, c.args.entry.1) c.args.entry.2 c.add.ensures.ok c.add.ensures.err c.requires.named c.requires.table
