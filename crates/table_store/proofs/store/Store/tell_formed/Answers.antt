use Rattle.std.proofs.Common.{subst}
use Rattle.sql_model.specs.Tables.{AreWellFormed}
use Rattle.table_store.specs.Histories.{StoreHistory, tables_now}
use Rattle.table_store.proofs.store.Store.tell_formed.Goals as goal

pub returns : goal.returns
returns c = subst (λ (s : StoreHistory). AreWellFormed (tables_now s)) c.self.view_is c.self.invariant.formed
