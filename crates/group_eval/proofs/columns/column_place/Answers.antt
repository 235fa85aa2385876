use Rattle.std.proofs.Common.{rules, ◌≡◌, drop, true}
use Rattle.group_eval.proofs.ColumnLaws.{column_at}
use Rattle.group_eval.proofs.columns.column_place.Goals as goal

pub returns-in-Some : goal.returns-in-Some
returns-in-Some c =
    let is : c.is_column.result ≡ true = search rules in
    column_at c.args.expr.now c.args.places.now c.in-Some.place.now (drop 1 c.args.places.now) (c.is_column.ensures is) c.in-Some.ensures.rest
