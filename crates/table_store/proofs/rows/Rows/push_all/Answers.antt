use Rattle.std.proofs.Common.{◌∙◌, ap, subst, sym, ◌++◌, map}
use Rattle.table_store.specs.inner.Grid.{Rows, next_after}
use Rattle.table_store.specs.Histories.{history_of_new_row}
use Rattle.table_store.specs.inner.RowHistories.{RowsHistory, past_of, ends_of, histories_of, AreKept}
use Rattle.table_store.proofs.RowLaws.{rows_added, kept_added}
use Rattle.table_store.proofs.rows.Rows.push_all.Goals as goal

pub invariant_of-self-2 : goal.invariant_of-self-2
invariant_of-self-2 c =
    let a = c.self.inside in
    subst (λ (r : Rows). AreKept (past_of a) (ends_of a) r.slots) (sym c.in_ok-push_all.ensures.ok)
    (kept_added (past_of a) (ends_of a) c.args.time a.grid.slots c.self.invariant c.args.rows)

pub returns-clause-ok : goal.returns-clause-ok
returns-clause-ok c =
    let a = c.self.inside in
    ap (λ (r : Rows). record { slots = histories_of (past_of a) (ends_of a) r.slots; kinds = r.kinds; next = r.next }) c.in_ok-push_all.ensures.ok
    ∙ (λ j. record { slots = rows_added (past_of a) (ends_of a) c.args.time a.grid.slots c.self.invariant c.args.rows j; kinds = a.grid.kinds; next = next_after a.grid.next c.args.rows })
    ∙ ap (λ (r : RowsHistory). record { slots = r.slots ++ map (history_of_new_row c.args.time) c.args.rows; kinds = r.kinds; next = next_after r.next c.args.rows }) c.self.view_is
