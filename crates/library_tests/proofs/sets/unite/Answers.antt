use Rattle.library_tests.proofs.Named.{after_union}
use Rattle.library_tests.proofs.sets.unite.Goals as goal

pub returns : goal.returns
returns c = after_union c.union.result c.args.names.now c.args.set.now c.args.other.now c.union.new.self c.union.ensures.ok c.union.ensures.err c.requires.set c.requires.other
