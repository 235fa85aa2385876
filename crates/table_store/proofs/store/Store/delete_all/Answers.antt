use Rattle.std.proofs.Common.{refl, ◌≡◌, ◌∙◌, ap, sym, subst, List, Option, Some, true, get_or}
use Rattle.std.specs.Prelude.{Err}
use Rattle.sql_model.specs.Scope.{table_at}
use Rattle.sql_model.specs.Tables.{is_valid_table}
use Rattle.table_store.specs.Histories.{TableHistory, table_without, table_now, tables_now}
use Rattle.table_store.specs.Referring.{orphan_stop}
use Rattle.table_store.specs.Stops.{StopsAs, is_among, with_removed, all_stand}
use Rattle.table_store.specs.Types.{Table}
use Rattle.table_store.specs.declared.error.StoreStop.{StoreStop}
use Rattle.table_store.specs.StoreView.{no_table}
use Rattle.table_store.proofs.ClaimLaws.{stop_due}
use Rattle.table_store.proofs.FormedLaws.{removed_valid}
use Rattle.table_store.proofs.LaterLaws.{alone_is, later_is}
use Rattle.table_store.proofs.StoreChangeLaws.{remove_is, valid_there, at_place, later_there, given_there, after_stored, after_is, after_now, after_kept, not_missing}
use Rattle.table_store.proofs.TableChangeLaws.{removed_now}
use Rattle.table_store.proofs.store.Store.delete_all.Goals as goal

pub unreachable-requires : goal.unreachable-requires
unreachable-requires c =
    let a = c.self.inside in
    not_missing a.tables.items a.time c.args.self.now c.self.view_is c.args.table.now c.requires.there (c.place_in.ensures.absent c.in-None.is)

pub delete_in-requires-clause-later : goal.delete_in-requires-clause-later
delete_in-requires-clause-later c =
    let a = c.self.inside in
    let tables = a.tables.items in
    let place = c.in-Some.place in
    let found = c.in-Some.ensures.found in
    later_there a.catalog tables a.time c.self.invariant c.args.self.now c.self.view_is c.args.table.now place found c.args.time c.requires.later

pub delete_in-requires-clause-stand : goal.delete_in-requires-clause-stand
delete_in-requires-clause-stand c =
    let a = c.self.inside in
    let tables = a.tables.items in
    let place = c.in-Some.place in
    let found = c.in-Some.ensures.found in
    given_there a.catalog tables a.time c.self.invariant c.args.self.now c.self.view_is c.args.table.now place found c.args.time c.requires.later (λ table. all_stand c.args.numbers.now table ≡ true) c.requires.stand

pub invariant_of-self-in-Some : goal.invariant_of-self-in-Some
invariant_of-self-in-Some c =
    let a = c.self.inside in
    let tables = a.tables.items in
    let place = c.in-Some.place in
    let found = c.in-Some.ensures.found in
    let there : TableHistory = get_or tables place no_table in
    let valid = valid_there a.catalog tables a.time c.self.invariant c.args.table.now place found.0 found.1 in
    after_stored a.catalog tables a.time c.self.invariant c.args.self.now c.self.view_is c.args.table.now place found c.args.time c.requires.later (table_without c.args.time c.args.numbers.now) (remove_is c.args.time c.args.numbers.now) c.delete_in.new.tables.items c.in_ok-delete_in-in-Some.ensures.ok
    (ap is_valid_table (removed_now c.args.time c.args.numbers.now there) ∙ removed_valid (table_now there) valid c.args.numbers.now)

pub returns : goal.returns
returns c =
    let a = c.self.inside in
    let tables = a.tables.items in
    let place = c.in-Some.place in
    let found = c.in-Some.ensures.found in
    let there : TableHistory = get_or tables place no_table in
    let db : List Table = tables_now c.args.self.now in
    let o : Option Table = table_at c.args.table.now db in
    let at : o ≡ Some (table_now there) = at_place a.catalog tables a.time c.self.invariant c.args.self.now c.self.view_is c.args.table.now place found c.args.time c.requires.later in
    let rest : Table → Option StoreStop = λ (own : Table). orphan_stop (is_among c.args.numbers.now) own (with_removed c.args.numbers.now own) db in
    let told : Table → Option StoreStop = λ (own : Table). orphan_stop (is_among c.items.result.now) own (with_removed c.items.result.now own) db in
    let same : rest (table_now there) ≡ c.in_ok-judge_delete-in-Some.field-0 =
    (λ j. orphan_stop (is_among (sym c.items.ensures j)) (table_now there) (with_removed (sym c.items.ensures j) (table_now there)) db)
    ∙ later_is told o (table_now there) c.in_ok-judge_delete-in-Some.field-0 at c.in_ok-judge_delete-in-Some.ensures in
    let made = c.delete_in.new.tables.items in
    record {
      stop = alone_is rest o (table_now there) c.in_ok-judge_delete-in-Some.field-0 at same ∙ c.in-None-2.is;
      ok = after_is a.catalog tables a.time c.self.invariant c.args.self.now c.self.view_is c.args.table.now place found c.args.time c.requires.later (table_without c.args.time c.args.numbers.now) (remove_is c.args.time c.args.numbers.now) made c.in_ok-delete_in-in-Some.ensures.ok;
      now = after_now a.catalog tables a.time c.self.invariant c.args.self.now c.self.view_is c.args.table.now place found c.args.time c.requires.later (table_without c.args.time c.args.numbers.now) (remove_is c.args.time c.args.numbers.now) made c.in_ok-delete_in-in-Some.ensures.ok (with_removed c.args.numbers.now) (removed_now c.args.time c.args.numbers.now there);
      earlier = after_kept a.catalog tables a.time c.self.invariant c.args.self.now c.self.view_is c.args.table.now place found c.args.time c.requires.later (table_without c.args.time c.args.numbers.now) (remove_is c.args.time c.args.numbers.now) made c.in_ok-delete_in-in-Some.ensures.ok;
      err = tt;
    }

pub returns-in-Some-2 : goal.returns-in-Some-2
returns-in-Some-2 c =
    let a = c.self.inside in
    let tables = a.tables.items in
    let place = c.in-Some.place in
    let found = c.in-Some.ensures.found in
    let there : TableHistory = get_or tables place no_table in
    let db : List Table = tables_now c.args.self.now in
    let o : Option Table = table_at c.args.table.now db in
    let at : o ≡ Some (table_now there) = at_place a.catalog tables a.time c.self.invariant c.args.self.now c.self.view_is c.args.table.now place found c.args.time c.requires.later in
    let rest : Table → Option StoreStop = λ (own : Table). orphan_stop (is_among c.args.numbers.now) own (with_removed c.args.numbers.now own) db in
    let told : Table → Option StoreStop = λ (own : Table). orphan_stop (is_among c.items.result.now) own (with_removed c.items.result.now own) db in
    let same : rest (table_now there) ≡ c.in_ok-judge_delete-in-Some.field-0 =
    (λ j. orphan_stop (is_among (sym c.items.ensures j)) (table_now there) (with_removed (sym c.items.ensures j) (table_now there)) db)
    ∙ later_is told o (table_now there) c.in_ok-judge_delete-in-Some.field-0 at c.in_ok-judge_delete-in-Some.ensures in
    record {
      stop = subst (λ (due : Option StoreStop). StopsAs {X = Unit {0}} due (Err c.in-Some-2.stop)) (sym (alone_is rest o (table_now there) c.in_ok-judge_delete-in-Some.field-0 at same ∙ c.in-Some-2.is)) (stop_due (Unit {0}) c.in-Some-2.stop);
      ok = tt;
      now = tt;
      earlier = tt;
      err = refl;
    }
