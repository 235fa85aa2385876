use Rattle.std.proofs.Common.{◌∙◌, ap}
use Rattle.prov_export.specs.inner.Texts.{members_by}
use Rattle.prov_export.proofs.EntryLaws.{members-insert}
use Rattle.prov_export.proofs.ordering.put_place.Goals as goal

pub returns : goal.returns
returns c = λ value.
    ap (members_by value) c.in_ok-insert.ensures.entries
    ∙ members-insert value c.args.entries.now.entries c.args.name c.args.place
