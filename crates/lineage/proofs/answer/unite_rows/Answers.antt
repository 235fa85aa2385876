use Rattle.std.proofs.lemmas.Result.{on_ok_weaker}
use Rattle.lineage.proofs.Unions.{union_is}
use Rattle.lineage.proofs.answer.unite_rows.Goals as goal

pub returns-clause-ok : goal.returns-clause-ok
returns-clause-ok c =
    on_ok_weaker c.union.result (λ is. union_is c.args.rows.now c.args.other.now _ is) c.union.ensures.ok
