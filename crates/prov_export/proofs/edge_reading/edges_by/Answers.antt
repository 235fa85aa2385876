use Rattle.prov_export.specs.inner.ObjectRefs.{objects_seen}
use Rattle.prov_export.specs.Reading.{edge_of}
use Rattle.prov_export.proofs.Each.{each_stops}
use Rattle.prov_export.proofs.edge_reading.edges_by.Goals as goal

pub returns-in-Err : goal.returns-in-Err
returns-in-Err c =
    each_stops (edge_of (objects_seen c.args.objects.now)) c.in-Err.stop c.loop-number.number c.args.count c.in-Err.ensures c.loop-number-test.true
