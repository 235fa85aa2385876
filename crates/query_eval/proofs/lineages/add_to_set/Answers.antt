use Rattle.std.proofs.lemmas.Result.{on_ok_weaker}
use Rattle.lineage.proofs.Unions.{union_step}
use Rattle.query_eval.specs.Merging.{lineage_of_answers}
use Rattle.query_eval.proofs.lineages.add_to_set.Goals as goal

pub returns : goal.returns
returns c = on_ok_weaker c.add_rows.result (λ is rest. union_step c.args.lineage.now c.args.answer.now.lineage c.add_rows.new.self (lineage_of_answers rest) is) c.add_rows.ensures.ok
