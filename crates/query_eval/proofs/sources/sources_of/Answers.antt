use Rattle.query_eval.proofs.StoredSourceLaws.{sources_none}
use Rattle.query_eval.proofs.sources.sources_of.Goals as goal

pub returns : goal.returns
returns c =
    sources_none c.args.store.now c.args.conds.now c.args.from.now c.sources.left.now c.sources.before c.sources.sources c.in_default.len_below c.sources.invariant.stored
