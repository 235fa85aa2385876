use Rattle.std.proofs.Common.{◌≡◌, [], Some, length, rules}
use Rattle.std.proofs.lemmas.Result.{IfOk-weaker}
use Rattle.predicates.specs.Fixing.{FixesKey}
use Rattle.query_eval.specs.inner.KeyLookup.{keyed_rows}
use Rattle.query_eval.specs.StoredSources.{AreChosen}
use Rattle.query_eval.proofs.sources.chosen_rows.Goals as goal

pub returns-in-Some-clause-chosen : goal.returns-in-Some-clause-chosen
returns-in-Some-clause-chosen c =
    let table = c.args.held.now in
    let conds = c.args.conds.now in
    let fixed : FixesKey conds c.args.before (length table.schema.columns) table.schema.key c.in-Some.values = search rules in
    IfOk-weaker c.rows_of_key.result (λ rows. rows ≡ keyed_rows c.in-Some.values table) (AreChosen conds c.args.before table)
    (λ rows is. record { key = Some c.in-Some.values; fixed = fixed; masks = []; given = tt; are = is }) c.rows_of_key.ensures.rows
