use Rattle.std.proofs.Common.{◌∙◌}
use Rattle.table_store.proofs.SearchLaws.{listed}
use Rattle.table_store.proofs.keys.given.is_given.Goals as goal

pub returns : goal.returns
returns c = c.is_ok.ensures.value ∙ listed c.args.numbers.now c.args.number c.binary_search.result c.binary_search.ensures.position c.requires
