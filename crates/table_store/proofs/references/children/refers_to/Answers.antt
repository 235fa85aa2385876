use Rattle.std.proofs.Common.{◌∙◌, ap}
use Rattle.std.specs.List.{list_any}
use Rattle.sql_model.specs.Scope.{same_text}
use Rattle.table_store.specs.Types.{Foreign, Schema}
use Rattle.table_store.proofs.references.children.refers_to.Goals as goal

pub returns : goal.returns
returns c =
    c.has_parent.ensures
    ∙ ap (list_any (λ (f : Foreign). same_text f.parent c.args.target.now)) (c.items.ensures ∙ ap (λ (s : Schema). s.foreign) c.schema.ensures)
