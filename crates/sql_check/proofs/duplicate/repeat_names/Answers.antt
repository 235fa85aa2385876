use Rattle.std.proofs.Common.{◌∙◌, map}
use Rattle.sql_model.proofs.RepeatedNames.{repeats_texts}
use Rattle.sql_check.proofs.duplicate.repeat_names.Goals as goal

pub returns : goal.returns
returns g c =
    c.in_ok-twice.ensures ∙ repeats_texts c.in_ok-names.names.items (map g.N.Named.name c.args.items.now) c.in_ok-names.ensures
