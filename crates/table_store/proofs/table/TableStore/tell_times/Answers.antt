use Rattle.std.proofs.Common.{subst}
use Rattle.table_store.specs.Histories.{TableHistory, last_since}
use Rattle.table_store.specs.TableView.{AreTimed}
use Rattle.table_store.proofs.table.TableStore.tell_times.Goals as goal

pub returns : goal.returns
returns c = subst (λ (t : TableHistory). AreTimed (last_since t.nexts) t.slots) c.self.view_is c.self.invariant.timed
