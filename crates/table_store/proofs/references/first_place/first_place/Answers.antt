use Rattle.std.proofs.Common.{◌∙◌, ap}
use Rattle.std.specs.List.{position_or_len}
use Rattle.std.proofs.lemmas.List.{get_or_default}
use Rattle.table_store.specs.inner.ChildPairs.{has_columns, no_foreign}
use Rattle.table_store.specs.Types.{Foreign}
use Rattle.table_store.proofs.references.first_place.first_place.Goals as goal

pub returns : goal.returns
returns c =
    let foreigns = c.args.foreigns.now in
    c.place_or_len.ensures
    ∙ ap (λ (f : Foreign). position_or_len (has_columns f.columns) foreigns) (get_or_default foreigns c.args.place c.index-foreigns-place.result no_foreign c.requires)
