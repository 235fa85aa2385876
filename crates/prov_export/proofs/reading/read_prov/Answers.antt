use Rattle.prov_export.proofs.Kept.{ok_of, never_of}
use Rattle.prov_export.proofs.reading.read_prov.Goals as goal

pub returns-clause-ok : goal.returns-clause-ok
returns-clause-ok c = ok_of c.args.bytes.now c.graph_of.result c.graph_of.ensures

pub returns-clause-not_prov : goal.returns-clause-not_prov
returns-clause-not_prov c = never_of c.args.bytes.now c.graph_of.result c.graph_of.ensures
