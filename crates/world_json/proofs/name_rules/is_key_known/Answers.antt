use Rattle.std.proofs.Common.{sym, ◌∙◌}
use Rattle.sql_model.proofs.RepeatedNames.{repeats_texts, second_decides}
use Rattle.world_json.proofs.name_rules.is_key_known.Goals as goal

pub returns : goal.returns
returns c = second_decides _ _ _ (sym c.are_known.ensures ∙ c.if-not-are_known.false)
    (c.in_ok-has_twice.ensures ∙ repeats_texts c.in_ok-names.names.items _ c.in_ok-names.ensures)
