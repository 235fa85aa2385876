use Rattle.prov_export.specs.inner.Names.{names_of}
use Rattle.prov_export.specs.Reading.{node_by}
use Rattle.prov_export.proofs.Each.{each_stops}
use Rattle.prov_export.proofs.node_reading.nodes_by.Goals as goal

pub returns-in-Err : goal.returns-in-Err
returns-in-Err c =
    each_stops (node_by (names_of c.args.names.now)) c.in-Err.stop c.loop-place.place c.args.count c.in-Err.ensures c.loop-place-test.true
