use Rattle.library_tests.proofs.Named.{after_union}
use Rattle.library_tests.proofs.lineage_rows.unite_lists.Goals as goal

pub returns : goal.returns
returns c = after_union c.union.result c.args.names.now c.args.list.now c.args.other.now c.union.new.self c.union.ensures.ok c.union.ensures.err c.requires.list c.requires.other
