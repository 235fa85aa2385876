use Rattle.std.proofs.Common.{◌≡◌, ℕ, List, None, subst}
use Rattle.table_store.specs.inner.ChildPairs.{first_number, first_place, is_child_in, pair_by}
use Rattle.table_store.specs.Histories.{TableHistory, rows_now}
use Rattle.table_store.specs.Types.{RowKey}
use Rattle.table_store.proofs.ChildRowLaws.{none_referred}
use Rattle.table_store.proofs.table.TableStore.has_no_reference.Goals as goal

pub returns : goal.returns
returns c = λ is.
    let a = c.self.inside in
    subst (λ (t : TableHistory). (given : List ℕ) (target : List ℕ) (keys : List RowKey)
    → None ≡ first_number (is_child_in given target keys t.schema.foreign) (rows_now t.slots)) c.self.view_is
    (none_referred (pair_by a.children a.schema.foreign) (λ place. c.is_empty.ensures is (first_place a.schema.foreign place)) a.schema.foreign (rows_now a.rows.slots)
    c.self.invariant.referred)
