-- The refusals of a change by references, as the code looks them up.
use Rattle.std.proofs.Common.{◌≡◌, ℕ, ◌+◌, ◌<◌, List, [], ◌∷◌, length, refl, sym, ap, ◌∙◌, subst, Bool, true, false, cond, is_some, inl, inr, arith}
use Rattle.std.specs.Prelude.{Option, Some, None, map, find, zip, not, ◌&&◌, ◌||◌, ◌==◌, if◌then◌else◌}
use Rattle.std.specs.List.{list_any, list_all}
use Rattle.std.specs.Option.{option_map, option_map_or, option_or}
use Rattle.std.proofs.lemmas.Bool.{cases_Bool, not-true}
use Rattle.ldv_value.proofs.Booleans.{and-parts, not-so, or-left, or-right, true≢false}
use Rattle.ldv_value.proofs.Lists.{found-all, found-passes, list_all-map, list_all-weaker, list_any-map}
use Rattle.ldv_value.proofs.Options.{same-some}
use Rattle.ldv_value.proofs.SameBytes.{bytes_eq-true}
use Rattle.sql_model.proofs.Databases.{parents_of_database, valid_of_database}
use Rattle.sql_model.proofs.Equations.{table_schema, schema_found}
use Rattle.sql_model.proofs.ValidTables.{table-parts}
use Rattle.sql_model.specs.Changes.{numbered_rows}
use Rattle.sql_model.specs.ForeignKeys.{fits_place, fits_parent, has_parents, have_parents}
use Rattle.sql_model.specs.References.{Orphan, has_key, is_lost}
use Rattle.sql_model.specs.Scope.{is_table, table_at, schema_at, catalog_of}
use Rattle.sql_model.specs.Tables.{AreWellFormed, are_keys_unique, is_valid_table}
use Rattle.sql_model.proofs.UniqueKeys.{values_in}
use Rattle.table_store.specs.inner.Afterwards.{has_values, keeps, has_put, is_keyed, missing_in_rows, loses, orphan_in_tables, refers_to}
use Rattle.table_store.specs.Histories.{StoreHistory, TableHistory, history_at, is_history, table_now}
use Rattle.table_store.specs.Referring.{parent_stop, child_stop, missing_stop, orphan_stop, is_of}
use Rattle.table_store.specs.Stops.{is_among, had_rows, are_sorted_rows, with_changed, with_inserted, with_removed, with_replaced}
use Rattle.table_store.specs.Types.{Foreign, Table, TableRow, Value}
use Rattle.table_store.specs.declared.error.StoreStop.{StoreStop}
use Rattle.table_store.proofs.LossLaws.{away_tables, in_tables, same_lost, same_has, removed_lost, replaced_lost, bare_orphans}
use Rattle.table_store.proofs.PutLaws.{given_same, missing_are, inserted_has, replaced_has, takes_place}

-- ---- the table of a history

-- it has its own name
pub own_history : (name : List ℕ) (store : StoreHistory) (h : TableHistory) → Some h ≡ history_at name store → history_at h.name store ≡ Some h
own_history name store h is =
    let named : h.name ≡ name = bytes_eq-true h.name name (found-passes (is_history name) store.tables h (sym is)) in
    ap (λ (n : List ℕ). history_at n store) named ∙ sym is

pub table_there : (name : List ℕ) (hs : List TableHistory) (h : TableHistory) → find (is_history name) hs ≡ Some h
    → table_at name (map table_now hs) ≡ Some (table_now h)
table_there name [] h is = cc
table_there name (g ∷ gs) h is = elim (cases_Bool (is_history name g)) [
  | inl hit ↦
      let e : Some g ≡ Some h = rw hit at is in
      rw hit (ap (λ (x : TableHistory). Some (table_now x)) (same-some g h e))
  | inr miss ↦ rw miss (table_there name gs h (rw miss at is))
]

module _ (db : List Table) (formed : AreWellFormed db) where
  parents : have_parents (catalog_of db) ≡ true
  parents = parents_of_database db formed.database

  -- the parents of a table's foreign keys have a key
  pub keyed_all : (name : List ℕ) (t : Table) → table_at name db ≡ Some t → list_all (is_keyed db) t.schema.foreign ≡ true
  keyed_all name t found =
      let fits : has_parents (catalog_of db) t.schema ≡ true =
      found-all (is_table name) (λ (u : Table). has_parents (catalog_of db) u.schema) db t
      (sym (list_all-map (has_parents (catalog_of db)) table_schema db) ∙ parents) found in
      list_all-weaker (λ (f : Foreign). fits_parent t.schema.columns f (schema_at f.parent (catalog_of db))) (is_keyed db)
      (λ f fit. by f fit (table_at f.parent db) refl) t.schema.foreign fits
    where
      by : (f : Foreign) → fits_parent t.schema.columns f (schema_at f.parent (catalog_of db)) ≡ true
          → (o : Option Table) → table_at f.parent db ≡ o → is_keyed db f ≡ true
      by f fit None is = ap (λ (o : Option Table). option_map_or (λ (p : Table). not (length p.schema.key == 0)) o true) is
      by f fit (Some p) is =
          let there : schema_at f.parent (catalog_of db) ≡ Some p.schema = schema_found f.parent db ∙ ap (option_map table_schema) is in
          let fits : fits_parent t.schema.columns f (Some p.schema) ≡ true = sym (ap (fits_parent t.schema.columns f) there) ∙ fit in
          let two = and-parts (not (length p.schema.key == 0) && (length f.columns == length p.schema.key)) (list_all (fits_place t.schema.columns p.schema.columns) (zip f.columns p.schema.key)) fits in
          let one = and-parts (not (length p.schema.key == 0)) (length f.columns == length p.schema.key) two.0 in
          ap (λ (o : Option Table). option_map_or (λ (q : Table). not (length q.schema.key == 0)) o true) is ∙ one.0

  pub unique_found : (name : List ℕ) (t : Table) → table_at name db ≡ Some t → are_keys_unique t.schema.key (values_in t.rows) ≡ true
  unique_found name t found =
      (table-parts t (found-all (is_table name) is_valid_table db t (valid_of_database db formed.database) found)).keys

pub keyed_parent : (db : List Table) (f : Foreign) (p : Table) → is_keyed db f ≡ true → table_at f.parent db ≡ Some p → 0 < length p.schema.key
keyed_parent db f p keyed found =
    let one : not (length p.schema.key == 0) ≡ true =
    sym (ap (λ (o : Option Table). option_map_or (λ (q : Table). not (length q.schema.key == 0)) o true) found) ∙ keyed in
    some p.schema.key (not-true (length p.schema.key == 0) one)
  where
    some : (key : List ℕ) → (length key == 0) ≡ false → 0 < length key
    some [] none = cc
    some (place ∷ places) none = omega arith

-- ---- parents

module _ (own : List ℕ) (change : Table → Table) (given : List Value → Bool) (numbers : List ℕ) (db : List Table) (t : Table)
    (found : table_at own db ≡ Some t)
    (after : (key : List Value) → list_any (has_key (change t).schema.key key) (change t).rows ≡ (given key || keeps numbers t key)) where
  right_of : (u : Table) → u ≡ t → (key : List Value)
      → list_any (has_key (change u).schema.key key) (change u).rows ≡ (given key || keeps numbers u key)
  right_of u same key =
      subst (λ (v : Table). list_any (has_key (change v).schema.key key) (change v).rows ≡ (given key || keeps numbers v key)) (sym same) (after key)

  pub right : (name : List ℕ) (u : Table) → table_at name db ≡ Some u → (key : List Value)
      → list_any (has_key (if is_table own u then change u else u).schema.key key) (if is_table own u then change u else u).rows ≡ has_put given numbers own u key
  right name u is key = elim (cases_Bool (is_table own u)) [
    | inl hit ↦
        let named : u.name ≡ own = bytes_eq-true u.name own hit in
        let by_name : u.name ≡ name = bytes_eq-true u.name name (found-passes (is_table name) db u is) in
        let there : table_at own db ≡ Some u = ap (λ (n : List ℕ). table_at n db) (sym named ∙ by_name) ∙ is in
        rw hit (right_of u (same-some u t (sym there ∙ found)) key)
    | inr miss ↦ rw miss refl
  ]

values_back : (next : ℕ) (rows : List (List Value)) → map (λ (row : TableRow). row.values) (numbered_rows next rows) ≡ rows
values_back next [] = refl
values_back next (values ∷ rows) = ap (λ (l : List (List Value)). values ∷ l) (values_back (next + 1) rows)

-- of new rows
pub insert_missing : (db : List Table) (t : Table) → table_at t.name db ≡ Some t → (rows : List (List Value)) (given : List Value → Bool)
    → ((key : List Value) → given key ≡ list_any (has_values t.schema.key key) rows)
    → option_map parent_stop (missing_in_rows (has_put given [] t.name) db t.schema.foreign rows)
    ≡ missing_stop t.schema.foreign (numbered_rows t.next rows) (with_changed t.name (with_inserted rows) db)
insert_missing db t found rows given are =
    let has = has_put given [] t.name in
    ap (option_map parent_stop)
    (ap (missing_in_rows has db t.schema.foreign) (sym (values_back t.next rows))
    ∙ sym (missing_are t.name (with_inserted rows) (λ u. refl) has db
    (right t.name (with_inserted rows) given [] db t found
    (λ key. inserted_has rows t key ∙ ap (λ (b : Bool). b || keeps [] t key) (sym (are key)))) t.schema.foreign (numbered_rows t.next rows)))

-- of other values of rows
pub replace_missing : (db : List Table) (t : Table) → table_at t.name db ≡ Some t → (rows : List TableRow) → are_sorted_rows rows ≡ true → had_rows rows t ≡ true
    → (given : List Value → Bool) → ((key : List Value) → given key ≡ list_any (λ (row : TableRow). has_values t.schema.key key row.values) rows)
    → option_map parent_stop (missing_in_rows (has_put given (map (λ (row : TableRow). row.number) rows) t.name) db t.schema.foreign (map (λ (row : TableRow). row.values) rows))
    ≡ missing_stop t.schema.foreign rows (with_changed t.name (with_replaced rows) db)
replace_missing db t found rows sorted stand given are =
    let numbers : List ℕ = map (λ (row : TableRow). row.number) rows in
    let has = has_put given numbers t.name in
    ap (option_map parent_stop)
    (sym (missing_are t.name (with_replaced rows) (λ u. refl) has db
    (right t.name (with_replaced rows) given numbers db t found
    (λ key. replaced_has rows t (takes_place rows sorted) stand (has_key t.schema.key key) ∙ ap (λ (b : Bool). b || keeps numbers t key) (sym (are key)))) t.schema.foreign rows))

-- ---- children

abbrev pub child_or : Bool → Option Orphan → Option StoreStop
child_or bare o = if bare then None else option_map child_stop o

module _ (hs : List TableHistory) (h : TableHistory) (formed : AreWellFormed (map table_now hs))
    (found : table_at h.name (map table_now hs) ≡ Some (table_now h)) where
  abbrev t : Table
  t = table_now h

  abbrev db : List Table
  db = map table_now hs

  abbrev bare : Bool
  bare = length h.schema.key == 0

  -- by the keys that are lost
  child_by : (has : TableRow → Bool) (lost : List Value → Bool) (after : Table)
      → (bare ≡ false → (key : List Value) → is_lost t.schema.key t.rows after.rows key ≡ lost key)
      → (b : Bool) → bare ≡ b
      → child_or b (orphan_in_tables has h.name lost hs) ≡ orphan_stop has t after db
  child_by has lost after are true is = ap (option_map child_stop) (sym (bare_orphans db t (parents_of_database db formed.database) found is has after))
  child_by has lost after are false is =
      ap (option_map child_stop)
      (same_lost has h.name lost (is_lost t.schema.key t.rows after.rows) (λ key. sym (are is key)) hs
      ∙ sym (in_tables has h.name (is_lost t.schema.key t.rows after.rows) hs))

  unique : are_keys_unique t.schema.key (values_in t.rows) ≡ true
  unique = unique_found db formed h.name t found

  pub delete_child : (numbers : List ℕ) (given : List Value → Bool) → ((key : List Value) → given key ≡ false)
      → child_or bare (orphan_in_tables (is_among numbers) h.name (loses given numbers t) hs)
      ≡ orphan_stop (is_among numbers) t (with_removed numbers t) db
  delete_child numbers given none =
      child_by (is_among numbers) (loses given numbers t) (with_removed numbers t)
      (λ keyed key. removed_lost t keyed unique numbers key
      ∙ ap (λ (b : Bool). list_any (λ row. is_among numbers row && has_key t.schema.key key row) t.rows && not b) (sym (none key)))
      bare refl

  pub replace_child : (rows : List TableRow) → are_sorted_rows rows ≡ true → had_rows rows t ≡ true → (given : List Value → Bool)
      → ((key : List Value) → given key ≡ list_any (λ (row : TableRow). has_values t.schema.key key row.values) rows)
      → child_or bare (orphan_in_tables (is_among (map (λ (row : TableRow). row.number) rows)) h.name (loses given (map (λ (row : TableRow). row.number) rows) t) hs)
      ≡ orphan_stop (is_of rows) t (with_replaced rows t) db
  replace_child rows sorted stand given are =
      let numbers : List ℕ = map (λ (row : TableRow). row.number) rows in
      ap (child_or bare) (same_has (is_among numbers) (is_of rows) (λ row. list_any-map (λ (n : ℕ). n == row.number) (λ (r : TableRow). r.number) rows) h.name (loses given numbers t) hs)
      ∙ child_by (is_of rows) (loses given numbers t) (with_replaced rows t)
      (λ keyed key. replaced_lost t keyed unique rows (takes_place rows sorted) stand key
      ∙ ap (λ (b : Bool). list_any (λ row. is_among numbers row && has_key t.schema.key key row) t.rows && not b) (sym (are key)))
      bare refl

-- ---- what the code has of it

-- a first refusal, and one that comes where there is none
pub either_first : (a b m : Option StoreStop) → m ≡ a → is_some m ≡ true → m ≡ option_or a b
either_first None b m is some = let wrong : false ≡ true = sym (ap is_some is) ∙ some in cc
either_first (Some stop) b m is some = is

pub either_second : (a b m l : Option StoreStop) → m ≡ a → is_some m ≡ false → l ≡ b → l ≡ option_or a b
either_second None b m l is none same = same
either_second (Some stop) b m l is none same = let wrong : true ≡ false = sym (ap is_some is) ∙ none in cc

-- where no foreign key of any table refers to the own one
pub none_child : (b : Bool) (o : Option Orphan) → o ≡ None → None ≡ child_or b o
none_child true o is = refl
none_child false o is = sym (ap (option_map child_stop) is)

found_any : {X : Type 0} (p q : X → Bool) (xs : List X) (x : X) → find q xs ≡ Some x → p x ≡ true → list_any p xs ≡ true
found_any p q [] x is hit = cc
found_any p q (y ∷ ys) x is hit = elim (cases_Bool (q y)) [
  | inl here ↦
      let e : Some y ≡ Some x = sym (ap (λ b. cond b (Some y) (find q ys)) here) ∙ is in
      or-left (p y) (list_any p ys) (ap p (same-some y x e) ∙ hit)
  | inr miss ↦ or-right (p y) (list_any p ys) (found_any p q ys x (sym (ap (λ b. cond b (Some y) (find q ys)) miss) ∙ is) hit)
]

module _ (hs : List TableHistory) (h : TableHistory) (found : find (is_history h.name) hs ≡ Some h) where
  -- a table that is its own parent is a parent
  pub own_apart : list_any (λ (one : TableHistory). refers_to h.name (table_now one)) hs ≡ false → refers_to h.name (table_now h) ≡ false
  own_apart none = not-so (refers_to h.name (table_now h)) (λ refers.
      true≢false (sym (found_any (λ (one : TableHistory). refers_to h.name (table_now one)) (is_history h.name) hs h found refers) ∙ none))

  -- the keys of given rows don't matter where the table is no parent
  module _ (one two : List Value → Bool) (b : Bool) (is : list_any (λ (t : TableHistory). refers_to h.name (table_now t)) hs ≡ b)
      (same : b ≡ true → (key : List Value) → one key ≡ two key) where
    pub missing_same : (numbers : List ℕ) (db : List Table) (rows : List (List Value))
        → missing_in_rows (has_put one numbers h.name) db h.schema.foreign rows ≡ missing_in_rows (has_put two numbers h.name) db h.schema.foreign rows
    missing_same numbers db rows = by b is same
      where
        by : (a : Bool) → list_any (λ (t : TableHistory). refers_to h.name (table_now t)) hs ≡ a → (a ≡ true → (key : List Value) → one key ≡ two key)
            → missing_in_rows (has_put one numbers h.name) db h.schema.foreign rows ≡ missing_in_rows (has_put two numbers h.name) db h.schema.foreign rows
        by true told alike = ap (λ (given : List Value → Bool). missing_in_rows (has_put given numbers h.name) db h.schema.foreign rows) (λ j key. alike refl key j)
        by false told alike = given_same h.name numbers db one two h.schema.foreign rows false (own_apart told) (λ wrong key. cc)

    pub orphan_same : (numbers : List ℕ)
        → orphan_in_tables (is_among numbers) h.name (loses one numbers (table_now h)) hs ≡ orphan_in_tables (is_among numbers) h.name (loses two numbers (table_now h)) hs
    orphan_same numbers = by b is same
      where
        by : (a : Bool) → list_any (λ (t : TableHistory). refers_to h.name (table_now t)) hs ≡ a → (a ≡ true → (key : List Value) → one key ≡ two key)
            → orphan_in_tables (is_among numbers) h.name (loses one numbers (table_now h)) hs ≡ orphan_in_tables (is_among numbers) h.name (loses two numbers (table_now h)) hs
        by true told alike = ap (λ (given : List Value → Bool). orphan_in_tables (is_among numbers) h.name (loses given numbers (table_now h)) hs) (λ j key. alike refl key j)
        by false told alike =
            away_tables (is_among numbers) h.name (loses one numbers (table_now h)) hs told
            ∙ sym (away_tables (is_among numbers) h.name (loses two numbers (table_now h)) hs told)
