use Rattle.table_store.proofs.table.TableStore.of_table.Goals as goal

pub invariant_of-result : goal.invariant_of-result
invariant_of-result c = c.in_ok-parts.ensures.stored
