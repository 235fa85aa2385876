-- A refusal by a reference is good: the named key has the values of a good row, and the table is a good table
-- or a parent of one.
use Rattle.std.proofs.Common.{◌≡◌, ℕ, ◌<◌, ◌≤◌, arith, List, [], ◌∷◌, Bool, true, false}
use Rattle.std.specs.Prelude.{Option, Some, None, option_map, map, filter, length, not, ◌&&◌, if◌then◌else◌}
use Rattle.std.specs.List.{AllByRecursion, cons_option, filter_map, list_any}
use Rattle.std.specs.Str.{IsUtf8}
use Rattle.std.proofs.lemmas.Bool.{lt-ltb}
use Rattle.ldv_value.proofs.Lists.{length-map}
use Rattle.sql_laws.specs.Types.{Value, Catalog, Foreign, Refused, NoParent, HasChild, Statement, Table, TableRow}
use Rattle.ldv_value.proofs.ItemLists.{all_filter, all_map, all_flat_map}
use Rattle.sql_model.specs.Changes.{table_after, new_rows}
use Rattle.sql_model.specs.Keys.{values_at}
use Rattle.sql_model.specs.Meaning.{is_null}
use Rattle.sql_model.specs.References.{reference, has_key, first_in, MissingParent, missing_key, missing_by, missing_parents, is_lost, Child, Orphan, orphan_by, orphans_of, other_rows, child_of, children, orphans, tables_after, first_missing_parent, is_changed, first_orphan}
use Rattle.ldv_value.specs.Cells.{value_at}
use Rattle.sql_model.specs.Scope.{same_text, is_table, table_at}
use Rattle.sql_model.specs.Statements.{parent_refusal, child_refusal, reference_refusal}
use Rattle.value_laws.specs.Values.{GoodValues, GoodStatement, GoodRow, GoodForeign, GoodTable, GoodTables, GoodReply}
use Rattle.value_laws.proofs.GoodChanges.{new_rows_good}
use Rattle.value_laws.proofs.GoodRefusals.{typed_values, short_values, key_good, GoodRefusal, GoodTarget, else_good}

-- ---- keys

-- the values by which a row refers
abbrev pub GoodKey : List Value → Type 0
GoodKey key = GoodValues key × (length key ≤ 64)

abbrev GoodReference : Option (List Value) → Type 0
GoodReference None = Unit {0}
GoodReference (Some key) = GoodKey key

some_good : (b : Bool) (key : List Value) → GoodKey key → GoodReference (if b then None else Some key)
some_good true key good = tt
some_good false key good = good

reference_good : (f : Foreign) (values : List Value) → GoodForeign f → GoodValues values → GoodReference (reference f values)
reference_good f values foreign good =
    let key : List Value = values_at f.columns values in
    let long : length key ≡ length f.columns = length-map f.columns (value_at values) in
    let few : length f.columns ≤ 64 = foreign.1 in
    some_good (list_any is_null key) key (key_good f.columns values good, omega (arith, long, few))

few_room : (key : List Value) → length key ≤ 64 → length key < 256
few_room key few = omega (arith, few)

parent_good : (table : List ℕ) (key : List Value) → IsUtf8 table → GoodKey key → GoodReply (Refused (NoParent table key))
parent_good table key utf good = record {
  typed = (utf, typed_values key good.0);
  ruled = short_values key good.0;
  room = lt-ltb (length key) 256 (few_room key good.1);
}

child_good : (table : List ℕ) (key : List Value) → IsUtf8 table → GoodKey key → GoodReply (Refused (HasChild table key))
child_good table key utf good = record {
  typed = (utf, typed_values key good.0);
  ruled = short_values key good.0;
  room = lt-ltb (length key) 256 (few_room key good.1);
}

-- ---- lists

module _ {X : Type 0} (P : X → Type 0) where
  abbrev pub Each : Option X → Type 0
  Each None = Unit {0}
  Each (Some x) = P x

  first_of : (xs : List X) → AllByRecursion P xs → Each (first_in xs)
  first_of [] all = tt
  first_of (x ∷ xs) all = all.0

  one_more : (o : Option X) (xs : List X) → Each o → AllByRecursion P xs → AllByRecursion P (cons_option o xs)
  one_more None xs here all = all
  one_more (Some x) xs here all = (here, all)

  some_of : {Y : Type 0} (f : Y → Option X) (ys : List Y) → AllByRecursion (λ y. Each (f y)) ys → AllByRecursion P (filter_map f ys)
  some_of f [] all = tt
  some_of f (y ∷ ys) all = one_more (f y) (filter_map f ys) all.0 (some_of f ys all.1)

-- ---- code 8

abbrev GoodMissing : MissingParent → Type 0
GoodMissing m = IsUtf8 m.parent × GoodKey m.key

missing_if : (b : Bool) (m : MissingParent) → GoodMissing m → Each GoodMissing (if b then None else Some m)
missing_if true m good = tt
missing_if false m good = good

missing_key_good : (o : Option Table) (f : Foreign) (k : Option (List Value)) → IsUtf8 f.parent → GoodReference k
    → Each GoodMissing (missing_key o f k)
missing_key_good None f None utf good = tt
missing_key_good (Some t) f None utf good = tt
missing_key_good None f (Some key) utf good = (utf, good)
missing_key_good (Some t) f (Some key) utf good =
    missing_if (list_any (has_key t.schema.key key) t.rows) (record { parent = f.parent; key = key }) (utf, good)

module _ (tables : List Table) where
  by_foreign : (values : List Value) → GoodValues values → (fs : List Foreign) → AllByRecursion GoodForeign fs
      → AllByRecursion (λ f. Each GoodMissing (missing_by tables values f)) fs
  by_foreign values good [] all = tt
  by_foreign values good (f ∷ fs) all = (
    missing_key_good (table_at f.parent tables) f (reference f values) all.0.0 (reference_good f values all.0 good),
    by_foreign values good fs all.1,
  )

  by_rows : (fs : List Foreign) → AllByRecursion GoodForeign fs → (rows : List TableRow) → AllByRecursion GoodRow rows
      → AllByRecursion (λ (row : TableRow). AllByRecursion GoodMissing (filter_map (missing_by tables row.values) fs)) rows
  by_rows fs all [] good = tt
  by_rows fs all (row ∷ rows) good = (
    some_of GoodMissing (missing_by tables row.values) fs (by_foreign row.values good.0 fs all),
    by_rows fs all rows good.1,
  )

  missing_good : (fs : List Foreign) → AllByRecursion GoodForeign fs → (rows : List TableRow) → AllByRecursion GoodRow rows
      → Each GoodMissing (first_in (missing_parents tables fs rows))
  missing_good fs all rows good =
      first_of GoodMissing (missing_parents tables fs rows)
      (all_flat_map GoodMissing (λ (row : TableRow). filter_map (missing_by tables row.values) fs) rows (by_rows fs all rows good))

refused_parent : (o : Option MissingParent) → Each GoodMissing o → GoodRefusal (option_map parent_refusal o)
refused_parent None good = tt
refused_parent (Some m) good = parent_good m.parent m.key good.0 good.1

-- ---- code 9

record GoodChild (c : Child) : Type 0 where
  table : IsUtf8 c.table
  foreign : AllByRecursion GoodForeign c.foreign
  row : GoodRow c.row

abbrev GoodOrphan : Orphan → Type 0
GoodOrphan o = IsUtf8 o.table × GoodKey o.key

orphan_if : (b : Bool) (o : Orphan) → GoodOrphan o → Each GoodOrphan (if b then Some o else None)
orphan_if true o good = good
orphan_if false o good = tt

module _ (target : List ℕ) (lost : List Value → Bool) where
  orphan_by_good : (c : Child) (f : Foreign) (k : Option (List Value)) → GoodChild c → GoodReference k
      → Each GoodOrphan (orphan_by target lost c f k)
  orphan_by_good c f None good key = tt
  orphan_by_good c f (Some key) good kept =
      orphan_if (same_text f.parent target && lost key) (record { table = c.table; row = c.row.number; key = key }) (good.table, kept)

  each_foreign : (c : Child) → GoodChild c → (fs : List Foreign) → AllByRecursion GoodForeign fs
      → AllByRecursion (λ f. Each GoodOrphan (orphan_by target lost c f (reference f c.row.values))) fs
  each_foreign c good [] all = tt
  each_foreign c good (f ∷ fs) all = (
    orphan_by_good c f (reference f c.row.values) good (reference_good f c.row.values all.0 good.row),
    each_foreign c good fs all.1,
  )

  each_child : (cs : List Child) → AllByRecursion GoodChild cs → AllByRecursion (λ c. AllByRecursion GoodOrphan (orphans_of target lost c)) cs
  each_child [] all = tt
  each_child (c ∷ cs) all = (
    some_of GoodOrphan (λ (f : Foreign). orphan_by target lost c f (reference f c.row.values)) c.foreign (each_foreign c all.0 c.foreign all.0.foreign),
    each_child cs all.1,
  )

module _ (has : TableRow → Bool) (target : List ℕ) where
  others_by : (b : Bool) (rows : List TableRow) → AllByRecursion GoodRow rows
      → AllByRecursion GoodRow (if b then filter (λ row. not (has row)) rows else rows)
  others_by true rows all = all_filter GoodRow (λ row. not (has row)) rows all
  others_by false rows all = all

  rows_children : (t : Table) → GoodTable t → (rows : List TableRow) → AllByRecursion GoodRow rows
      → AllByRecursion (λ (row : TableRow). GoodChild (child_of t row)) rows
  rows_children t table [] all = tt
  rows_children t table (row ∷ rows) all =
      (record { table = table.name; foreign = table.foreign; row = all.0 }, rows_children t table rows all.1)

  table_children : (t : Table) → GoodTable t → AllByRecursion GoodChild (map (child_of t) (other_rows has target t))
  table_children t table =
      all_map GoodChild (child_of t) (other_rows has target t)
      (rows_children t table (other_rows has target t) (others_by (is_table target t) t.rows table.rows))

  each_table : (ts : List Table) → GoodTables ts
      → AllByRecursion (λ (t : Table). AllByRecursion GoodChild (map (child_of t) (other_rows has target t))) ts
  each_table [] all = tt
  each_table (t ∷ ts) all = (table_children t all.0, each_table ts all.1)

  children_good : (db : List Table) → GoodTables db → AllByRecursion GoodChild (children has target db)
  children_good db tables = all_flat_map GoodChild (λ (t : Table). map (child_of t) (other_rows has target t)) db (each_table db tables)

orphans_good : (has : TableRow → Bool) (before after : Table) (db : List Table) → GoodTables db
    → Each GoodOrphan (first_in (orphans has before after db))
orphans_good has before after db tables =
    let lost : List Value → Bool = is_lost before.schema.key before.rows after.rows in
    let cs : List Child = children has before.name db in
    first_of GoodOrphan (orphans has before after db)
    (all_flat_map GoodOrphan (orphans_of before.name lost) cs
    (each_child before.name lost cs (children_good has before.name db tables)))

refused_child : (o : Option Orphan) → Each GoodOrphan o → GoodRefusal (option_map child_refusal o)
refused_child None good = tt
refused_child (Some o) good = child_good o.table o.key good.0 good.1

-- ---- of a statement

pub references_good : (s : Statement) (catalog : Catalog) (o : Option Table) (db : List Table) → GoodStatement s → GoodTarget o
    → GoodTables db → GoodRefusal (reference_refusal s catalog o db)
references_good s catalog None db good table tables = tt
references_good s catalog (Some t) db good table tables =
    else_good (option_map parent_refusal (first_missing_parent s catalog t db)) (option_map child_refusal (first_orphan s catalog t db))
    (refused_parent (first_missing_parent s catalog t db)
    (missing_good (tables_after s catalog db) t.schema.foreign table.foreign (new_rows s catalog t) (new_rows_good s catalog t good table)))
    (refused_child (first_orphan s catalog t db)
    (orphans_good (is_changed s catalog) t (table_after s catalog t) db tables))
