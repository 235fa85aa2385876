use Rattle.std.proofs.Common.{◌∙◌, ap}
use Rattle.prov_export.specs.inner.Texts.{members_by, all_pass}
use Rattle.prov_export.proofs.EntryLaws.{members-insert, pass-insert}
use Rattle.prov_export.proofs.ordering.put_edge_named.Goals as goal

pub returns-clause-put : goal.returns-clause-put
returns-clause-put c = λ value.
    ap (members_by value) c.in_ok-insert.ensures.entries
    ∙ members-insert value c.args.entries.now.entries c.args.name c.args.edge

pub returns-clause-all : goal.returns-clause-all
returns-clause-all c = λ test here all.
    ap (all_pass test) c.in_ok-insert.ensures.entries
    ∙ pass-insert test c.args.entries.now.entries c.args.name c.args.edge here all
