use Rattle.std.proofs.Common.{sym, ap, ◌∙◌}
use Rattle.std.specs.Prelude.{nat_eq}
use Rattle.sql_model.specs.Keys.{repeats}
use Rattle.sql_model.proofs.RepeatedNames.{repeats_numbers, second_decides}
use Rattle.sql_model.proofs.schema.meets_key_places.Goals as goal

pub returns : goal.returns
returns c = second_decides _ _ _ (sym c.are_places.ensures ∙ c.if-not-are_places.false)
    (c.in_ok-has_twice.ensures ∙ repeats_numbers c.into_vec.result.items ∙ ap (repeats nat_eq) (c.into_vec.ensures ∙ c.in_ok-places.ensures))
