use Rattle.std.proofs.Common.{sym, ◌∙◌}
use Rattle.predicates.proofs.Lists.{none-counted}
use Rattle.query_eval.proofs.Abbreviations.{unsorted}
use Rattle.query_eval.proofs.sort.sort_answers.Goals as goal

pub returns-then-is_empty : goal.returns-then-is_empty
returns-then-is_empty c = sym (unsorted c.args.columns.now (none-counted c.args.columns.now (sym c.is_empty.ensures ∙ c.if-is_empty.true)) c.args.answers)
