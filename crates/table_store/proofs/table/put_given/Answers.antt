use Rattle.std.proofs.Common.{◌∙◌, ap, sym, subst, ℕ, List, [], Bool, map, refl}
use Rattle.row_version.specs.History.{Change}
use Rattle.table_store.specs.Types.{Schema, Table, TableRow}
use Rattle.table_store.specs.GivenKeys.{with_claims}
use Rattle.table_store.specs.Histories.{NextSince, changed_by, nexts_with, rows_now}
use Rattle.table_store.specs.inner.ChildPairs.{Pairs, AreReferred, StayReferred, pair_by}
use Rattle.table_store.specs.IndexView.{held_in}
use Rattle.table_store.specs.KeyIndex.{HeldKeys, AreIndexed}
use Rattle.table_store.specs.inner.Nexts.{nexts_of}
use Rattle.table_store.specs.inner.RowHistories.{RowsHistory}
use Rattle.table_store.specs.inner.RowChanges.{rewrite, changes_given, AllFitKinds}
use Rattle.table_store.specs.Stops.{replaced_by}
use Rattle.table_store.specs.TableView.{IsStored}
use Rattle.table_store.proofs.IndexChangeLaws.{claims_kept, indexed_same}
use Rattle.table_store.proofs.TableChangeLaws.{before_all, rewrites_rise, rewrites_stand, rewrites_fit, changes_written, stored_changed, stored_wider, indexed_replaced, referred_replaced, GivenStand, given_stand}
use Rattle.table_store.proofs.table.put_given.Goals as goal

pub write_given-requires-clause-before : goal.write_given-requires-clause-before
write_given-requires-clause-before c =
    before_all _ c.args.time c.args.rows.now.slots c.requires.stored.timed c.requires.later

pub write_given-requires-clause-apart : goal.write_given-requires-clause-apart
write_given-requires-clause-apart c = rewrites_rise c.args.given c.requires.sorted

pub write_given-requires-clause-stand : goal.write_given-requires-clause-stand
write_given-requires-clause-stand c = rewrites_stand c.args.rows.now.slots c.args.given c.requires.stand

pub write_given-requires-clause-fits : goal.write_given-requires-clause-fits
write_given-requires-clause-fits c =
    subst (λ (k : List Bool). AllFitKinds k (map rewrite c.args.given)) (sym c.requires.stored.kinds) (rewrites_fit c.args.schema.now.columns c.args.given c.requires.shape)

pub returns-in_err-numbers-clause-stored : goal.returns-in_err-numbers-clause-stored
returns-in_err-numbers-clause-stored c =
    stored_wider c.args.schema.now c.args.rows.now (λ key. held_in c.args.index.now key) (λ key. held_in c.make_way.new.index key) (pair_by c.args.children.now c.args.schema.now.foreign) (pair_by c.make_way.new.children c.args.schema.now.foreign) (nexts_of c.args.nexts.now.items)
    c.make_way.ensures.keys c.make_way.ensures.pairs c.requires.stored

pub returns-in_err-write_given-clause-stored : goal.returns-in_err-write_given-clause-stored
returns-in_err-write_given-clause-stored c =
    let opened : HeldKeys = λ key. held_in c.make_way.new.index key in
    let wider : Pairs = pair_by c.make_way.new.children c.args.schema.now.foreign in
    subst (λ (r : RowsHistory). IsStored c.args.schema.now r opened wider (nexts_of c.write_given.new.nexts.items)) (sym c.in_err-write_given.ensures.err)
    (subst (λ (n : List NextSince). IsStored c.args.schema.now c.args.rows.now opened wider n) (ap nexts_of (sym c.in_err-write_given.ensures.nexts_err))
    (stored_wider c.args.schema.now c.args.rows.now (λ key. held_in c.args.index.now key) opened (pair_by c.args.children.now c.args.schema.now.foreign) wider (nexts_of c.args.nexts.now.items)
    c.make_way.ensures.keys c.make_way.ensures.pairs c.requires.stored))

pub returns-clause-stored : goal.returns-clause-stored
returns-clause-stored c =
    let schema : Schema = c.args.schema.now in
    let time = c.args.time in
    let rows : List TableRow = c.args.given in
    let was : RowsHistory = c.args.rows.now in
    let old : HeldKeys = λ key. held_in c.args.index.now key in
    let held : HeldKeys = λ key. held_in c.set_all.new.self key in
    let nexts : List NextSince = nexts_of c.args.nexts.now.items in
    let given = map rewrite rows in
    let table : Table = record { name = []; schema = schema; rows = rows_now was.slots; next = was.next } in
    let stand : GivenStand rows was.slots = given_stand time rows table was.slots was.next refl c.tell_order.ensures.order c.requires.stand in
    let claims : HeldKeys = λ key. held_in c.args.claims key in
    let opened : HeldKeys = λ key. held_in c.make_way.new.index key in
    let after : List TableRow = map (replaced_by rows) (rows_now was.slots) in
    let keys : AreIndexed schema.key held after = indexed_same schema.key (with_claims claims opened) held (λ q. sym (c.set_all.ensures q)) after (claims_kept schema.key claims old opened c.make_way.ensures.keys after c.requires.claimed) in
    let indexed = indexed_replaced schema.key held time rows was.slots stand keys in
    let pairs : Pairs = pair_by c.args.children.now c.args.schema.now.foreign in
    let wider : Pairs = pair_by c.make_way.new.children c.args.schema.now.foreign in
    let referred = referred_replaced schema.foreign pairs wider time rows was.slots stand c.make_way.ensures.pairs c.requires.stored.referred
    (subst (λ (l : List TableRow). AreReferred wider schema.foreign l) c.items.ensures c.in_ok-numbers.ensures.referred) in
    let left : Pairs = pair_by c.settle_all.new.index c.args.schema.now.foreign in
    let settled = subst (λ (r : RowsHistory). StayReferred schema.foreign (rows_now r.slots) wider left) c.in_ok-write_given.ensures.ok c.settle_all.ensures in
    let whole = stored_changed schema was old held pairs left nexts time given c.requires.stored c.requires.later indexed (settled referred) in
    subst (λ (r : RowsHistory). IsStored schema r held left (nexts_of c.write_given.new.nexts.items)) (sym c.in_ok-write_given.ensures.ok)
    (subst (λ (n : List NextSince). IsStored schema (record was { slots = map (changed_by (changes_given time given)) was.slots }) held left n) (sym c.in_ok-write_given.ensures.nexts) whole)

pub returns-clause-ok : goal.returns-clause-ok
returns-clause-ok c =
    ap (λ (r : RowsHistory). r.slots) c.in_ok-write_given.ensures.ok
    ∙ ap (λ (changes : List (ℕ × Change)). map (changed_by changes) c.args.rows.now.slots) (changes_written c.args.time c.args.given)

pub returns-clause-nexts : goal.returns-clause-nexts
returns-clause-nexts c =
    c.in_ok-write_given.ensures.nexts ∙ ap (λ (n : ℕ). nexts_with c.args.time n (nexts_of c.args.nexts.now.items)) (sym c.requires.stored.next)
