use Rattle.std.proofs.Common.{◌∙◌, map, sym}
use Rattle.ldv_value.proofs.Lists.{list_all-map}
use Rattle.sql_model.specs.ForeignKeys.{has_parents}
use Rattle.sql_model.specs.Types.{Catalog}
use Rattle.sql_model.proofs.foreign.have_parents.Goals as goal

pub returns : goal.returns
returns g c =
    let tables = c.args.tables.now in
    let catalog : Catalog = record { names = map g.T.NamedSchema.name_of tables; schemas = map g.T.NamedSchema.schema_of tables } in
    c.each_has_parents.ensures ∙ sym (list_all-map (has_parents catalog) g.T.NamedSchema.schema_of tables)
