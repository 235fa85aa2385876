use Rattle.std.proofs.Common.{◌≡◌, sym, subst, List, Option}
use Rattle.std.specs.Prelude.{IfSome}
use Rattle.table_store.specs.Histories.{table_now}
use Rattle.table_store.specs.Referring.{parents_in_order}
use Rattle.table_store.specs.Types.{Table, TableRow}
use Rattle.table_store.proofs.NowLaws.{not_absent, now_at}
use Rattle.table_store.proofs.RefusalLaws.{own_history}
use Rattle.table_store.proofs.store.Store.parents_of.Goals as goal

pub unreachable-requires : goal.unreachable-requires
unreachable-requires c = not_absent c.args.table.now c.args.self.now c.requires.there c.in-None.ensures.table

pub parents_in_order-requires : goal.parents_in_order-requires
parents_in_order-requires c = own_history c.args.table.now c.args.self.now c.in-Some.own.now c.in-Some.ensures.table

pub returns-clause-parents : goal.returns-clause-parents
returns-clause-parents c =
    let own = c.in-Some.own.now in
    let store = c.args.self.now in
    let members = c.in_ok-members-in-Some.members in
    subst (λ (o : Option Table). IfSome o (λ t. members ≡ parents_in_order store c.args.rows.now t)) (sym (now_at c.args.table.now store own c.in-Some.ensures.table))
    (subst (λ (rows : List TableRow). members ≡ parents_in_order store rows (table_now own)) c.items.ensures c.in_ok-members-in-Some.ensures.parents)
