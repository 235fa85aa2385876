use Rattle.std.proofs.Common.{◌∙◌, ℕ, List, ap, sym}
use Rattle.std.specs.List.{list_any}
use Rattle.ldv_value.proofs.Lists.{list_any-map}
use Rattle.sql_model.specs.Meaning.{is_null}
use Rattle.ldv_value.specs.Cells.{value_at}
use Rattle.sql_model.proofs.references.refers_to_none.Goals as goal

pub returns : goal.returns
returns c =
    c.is_null_at_some.ensures
    ∙ ap (λ (places : List ℕ). list_any (λ place. is_null (value_at c.args.values.now place)) places) c.items.ensures
    ∙ sym (list_any-map is_null (value_at c.args.values.now) c.args.foreign.now.columns)
