use Rattle.std.proofs.Common.{◌∙◌, ap, sym}
use Rattle.table_store.specs.Histories.{TableHistory, last_next_number}
use Rattle.table_store.proofs.table.TableStore.next.Goals as goal

pub returns : goal.returns
returns c = c.next.ensures ∙ sym c.self.invariant.next ∙ ap (λ (t : TableHistory). last_next_number t.nexts) c.self.view_is
