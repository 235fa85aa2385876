use Rattle.library_tests.proofs.Named.{after_union}
use Rattle.library_tests.proofs.lineage_rows.take_in.Goals as goal

pub returns : goal.returns
returns c = after_union c.add_rows.result c.args.names.now c.args.set.now c.args.list.now c.add_rows.new.self c.add_rows.ensures.ok c.add_rows.ensures.err c.requires.set c.requires.list
