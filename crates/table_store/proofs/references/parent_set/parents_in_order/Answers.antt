use Rattle.std.proofs.Common.{◌∙◌, sym}
use Rattle.table_store.specs.Histories.{table_now, tables_now}
use Rattle.table_store.specs.Referring.{parents_in_db}
use Rattle.table_store.proofs.NowLaws.{now_at}
use Rattle.table_store.proofs.OriginOrder.{collected}
use Rattle.table_store.proofs.ParentSetLaws.{all_found, all_stand}
use Rattle.table_store.proofs.RefusalLaws.{keyed_all}
use Rattle.table_store.proofs.references.parent_set.parents_in_order.Goals as goal

pub found_rows-requires : goal.found_rows-requires
found_rows-requires c =
    let own = c.args.own.now in
    let store = c.args.store.now in
    keyed_all (tables_now store) c.tell_formed.ensures own.name (table_now own) (now_at own.name store own (sym c.requires))

pub members_of-requires : goal.members_of-requires
members_of-requires c = λ row there.
    let own = c.args.own.now in
    let store = c.args.store.now in
    let rows = c.args.rows.now in
    let db = tables_now store in
    let found = now_at own.name store own (sym c.requires) in
    let keyed = keyed_all db c.tell_formed.ensures own.name (table_now own) found in
    all_stand db c.tell_formed.ensures (table_now own) found rows keyed row
    (all_found db c.tell_formed.ensures (table_now own) found rows keyed row ∙ sym (c.in_ok-found.ensures row) ∙ there)

pub returns-clause-parents : goal.returns-clause-parents
returns-clause-parents c =
    let own = c.args.own.now in
    let store = c.args.store.now in
    let rows = c.args.rows.now in
    let db = tables_now store in
    let there = now_at own.name store own (sym c.requires) in
    let keyed = keyed_all db c.tell_formed.ensures own.name (table_now own) there in
    c.in_ok-members.ensures.members
    ∙ collected store c.in_ok-found.found (parents_in_db rows db (table_now own)) c.in_ok-members.ensures.ordered
    (λ q. c.in_ok-found.ensures q ∙ sym (all_found db c.tell_formed.ensures (table_now own) there rows keyed q))
