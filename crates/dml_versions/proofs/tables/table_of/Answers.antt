use Rattle.table_store.specs.Histories.{last_since}
use Rattle.dml_versions.proofs.EntryLaws.{timed-later}
use Rattle.dml_versions.proofs.tables.table_of.Goals as goal

pub returns-clause-held : goal.returns-clause-held
returns-clause-held c = record {
  order = c.tell_order.ensures;
  timed = timed-later (last_since c.in-Some.table.now.nexts) c.args.store.now.time c.in-Some.table.now.slots c.in-Some.ensures.timed c.tell_times.ensures;
}
