use Rattle.std.proofs.Common.{◌≡◌, ◌∷◌, [], refl, subst, sym, List, map, arith}
use Rattle.table_store.specs.Types.{Schema, TableRow}
use Rattle.table_store.specs.inner.ChildPairs.{Pairs, AreReferred, pair_by}
use Rattle.table_store.specs.Histories.{NextSince, history_of_new_row, rows_now}
use Rattle.table_store.specs.IndexView.{held_in}
use Rattle.table_store.specs.KeyIndex.{HeldKeys, AreIndexed}
use Rattle.table_store.specs.inner.Nexts.{nexts_of}
use Rattle.table_store.specs.inner.RowHistories.{RowsHistory}
use Rattle.table_store.specs.TableView.{IsStored, kinds_in}
use Rattle.table_store.proofs.TableLaws.{added_now, added_timed, added_indexed}
use Rattle.table_store.proofs.start.parts_at_start.Goals as goal

pub returns-clause-stored : goal.returns-clause-stored
returns-clause-stored c =
    let schema : Schema = c.args.schema.now in
    let given : List TableRow = c.args.rows in
    let held : HeldKeys = λ key. held_in c.in_ok-beside.beside.index key in
    let pairs : Pairs = pair_by c.in_ok-beside.beside.children schema.foreign in
    let rows : RowsHistory = record { slots = map (history_of_new_row 0) given; kinds = kinds_in schema.columns; next = c.args.next } in
    let indexed = added_indexed schema.key held 0 given (subst (λ (l : List TableRow). AreIndexed schema.key held l) c.items.ensures c.in_ok-beside.ensures.indexed) in
    let referred : AreReferred pairs schema.foreign (rows_now (map (history_of_new_row 0) given)) =
    subst (λ (l : List TableRow). AreReferred pairs schema.foreign l) (sym (added_now 0 given)) (subst (λ (l : List TableRow). AreReferred pairs schema.foreign l) c.items.ensures c.in_ok-beside.ensures.referred) in
    let whole : IsStored schema rows held pairs (record { time = 0; next = c.args.next } ∷ []) = record { kinds = refl; next = refl; in_time = (omega arith, tt); timed = added_timed 0 given; indexed = indexed; referred = referred } in
    subst (λ (r : RowsHistory). IsStored schema r held pairs (nexts_of c.in_ok-beside.beside.nexts.items)) (sym c.in_ok-held.ensures)
    (subst (λ (n : List NextSince). IsStored schema rows held pairs n) (sym c.in_ok-beside.ensures.nexts) whole)
