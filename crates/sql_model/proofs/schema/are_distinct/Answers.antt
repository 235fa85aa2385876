use Rattle.std.proofs.Common.{ap, not, ◌∙◌}
use Rattle.sql_model.proofs.RepeatedNames.{repeats_texts}
use Rattle.sql_model.proofs.schema.are_distinct.Goals as goal

pub returns : goal.returns
returns c = ap not (c.in_ok-has_twice.ensures ∙ repeats_texts c.in_ok-names.names.items _ c.in_ok-names.ensures)
