-- A change of one table of a store.
use Rattle.std.proofs.Common.{◌≡◌, ℕ, zero, suc, ◌+◌, ◌<◌, ◌≤◌, inl, inr, true, ◌&&◌, List, [], ◌∷◌, map, length, get_or, set, refl, ap, sym, subst, ◌∙◌, arith, Option, Some, None, get_or-set_same, get_or-set_other}
use Rattle.std.specs.Prelude.{find, IfSome, IsSome}
use Rattle.std.specs.Option.{option_map}
use Rattle.std.proofs.lemmas.Bool.{cases_eq}
use Rattle.std.proofs.lemmas.List.{length-set, length-map, get_or-map, map-set}
use Rattle.ldv_value.proofs.Options.{none-some, same-some}
use Rattle.ldv_value.specs.Sorted.{is_strictly_sorted, precedes_first, text_precedes}
use Rattle.sql_model.specs.Scope.{is_table, table_at}
use Rattle.sql_model.specs.Tables.{AreWellFormed, is_valid_table, table_precedes}
use Rattle.table_store.specs.Types.{Value, Catalog, Table, TableRow}
use Rattle.table_store.specs.Histories.{TableHistory, StoreHistory, history_at, table_now, tables_now, is_history, in_table, changed_at, rows_as_of, next_as_of, AreKeptBefore, last_since, last_next_number, table_with_rows, table_with_values, table_without}
use Rattle.table_store.specs.Stops.{with_changed}
use Rattle.table_store.specs.StoreView.{AreStored, are_sorted, no_table}
use Rattle.table_store.proofs.FormedLaws.{all_at, formed_set, valid_all}
use Rattle.table_store.proofs.NowLaws.{found_now, there_from}
use Rattle.table_store.proofs.TableChangeLaws.{noted_since, noted_earlier, inserted_before, replaced_before, removed_before}
use Rattle.table_store.proofs.NamedLaws.{named_set, named_found, found_set, set_sorted}

kept_map : {Y : Type 0} (g : TableHistory → Y) (tables : List TableHistory) (place : ℕ) (new : TableHistory) → g new ≡ g (get_or tables place no_table) → map g (set tables place new) ≡ map g tables
kept_map g [] place new same = refl
kept_map g (table ∷ tables) zero new same = ap (λ y. y ∷ map g tables) same
kept_map g (table ∷ tables) (suc place) new same = ap (λ l. g table ∷ l) (kept_map g tables place new same)

map_now : {Y : Type 0} (g : Table → Y) (tables : List TableHistory) → map g (map table_now tables) ≡ map (λ table. g (table_now table)) tables
map_now g [] = refl
map_now g (table ∷ tables) = ap (λ l. g (table_now table) ∷ l) (map_now g tables)

first_now : (table : TableHistory) (tables : List TableHistory) → precedes_first (λ (a b : Table). text_precedes a.name b.name) (table_now table) (map table_now tables) ≡ precedes_first (λ (a b : TableHistory). text_precedes a.name b.name) table tables
first_now table [] = refl
first_now table (other ∷ tables) = refl

sorted_now : (tables : List TableHistory) → is_strictly_sorted (λ (a b : Table). text_precedes a.name b.name) (map table_now tables) ≡ are_sorted tables
sorted_now [] = refl
sorted_now (table ∷ tables) = λ j. first_now table tables j && sorted_now tables j

module _ (catalog : Catalog) (tables : List TableHistory) (time : ℕ) (stored : AreStored catalog tables time) (name : List ℕ) (place : ℕ) (within : place < length tables) (named : is_history name (get_or tables place no_table) ≡ true) where
  pub place_found : find (is_history name) tables ≡ Some (get_or tables place no_table)
  place_found = named_found (λ (t : TableHistory). t.name) no_table name tables place stored.sorted within named

  pub table_found : table_at name (map table_now tables) ≡ Some (table_now (get_or tables place no_table))
  table_found = found_now name tables ∙ ap (option_map table_now) place_found

  pub changed_is : (change : TableHistory → TableHistory) → set tables place (change (get_or tables place no_table)) ≡ map (in_table name change) tables
  changed_is change = named_set (λ (t : TableHistory). t.name) no_table name change tables place stored.sorted within named

  -- the tables as they are now, after the change
  pub now_after : (change : TableHistory → TableHistory) (plain : Table → Table) → table_now (change (get_or tables place no_table)) ≡ plain (table_now (get_or tables place no_table))
      → map table_now (set tables place (change (get_or tables place no_table))) ≡ with_changed name plain (map table_now tables)
  now_after change plain is =
      map-set table_now tables place (change (get_or tables place no_table))
      ∙ ap (set (map table_now tables) place) is
      ∙ ap (λ (t : Table). set (map table_now tables) place (plain t)) (sym here)
      ∙ named_set (λ (t : Table). t.name) (table_now no_table) name plain (map table_now tables) place (sorted_now tables ∙ stored.sorted) (omega (arith, within, length-map tables table_now)) (ap (λ (t : Table). is_table name t) here ∙ named) where
        here : get_or (map table_now tables) place (table_now no_table) ≡ table_now (get_or tables place no_table)
        here = get_or-map table_now tables place no_table (table_now no_table) within

  -- the table is valid
  pub valid_there : is_valid_table (table_now (get_or tables place no_table)) ≡ true
  valid_there =
      let long : place < length (map table_now tables) = omega (arith, within, length-map tables table_now) in
      ap is_valid_table (sym (get_or-map table_now tables place no_table (table_now no_table) within))
      ∙ all_at is_valid_table (map table_now tables) place (table_now no_table) (valid_all (map table_now tables) stored.formed) long

  pub stored_after : (later : ℕ) (new : TableHistory) → new.name ≡ (get_or tables place no_table).name → new.schema ≡ (get_or tables place no_table).schema → last_since new.nexts ≤ later → time ≤ later
      → is_valid_table (table_now new) ≡ true → AreStored catalog (set tables place new) later
  stored_after later new name_is schema_is by from valid = record {
    catalog_is = stored.catalog_is ∙ (λ j. record { names = sym names j; schemas = sym schemas j });
    sorted = set_sorted (λ (t : TableHistory). t.name) no_table tables place new name_is ∙ stored.sorted;
    formed = subst AreWellFormed (sym listed) (formed_set (map table_now tables) place (table_now new) stored.formed valid
        (ap (map (λ (t : Table). t.name)) (sym listed) ∙ names)
        (ap (map (λ (t : Table). t.schema)) (sym listed) ∙ schemas)
        (ap (is_strictly_sorted table_precedes) (sym listed) ∙ sorted_now (set tables place new) ∙ set_sorted (λ (t : TableHistory). t.name) no_table tables place new name_is ∙ stored.sorted));
    timed = λ k below.
        let long : k < length tables = omega (arith, below, length-set tables place new) in
        elim (cases_eq k place) [
          | inl same ↦
              let at : get_or (set tables place new) k no_table ≡ new = ap (λ (n : ℕ). get_or (set tables place new) n no_table) same ∙ get_or-set_same tables place new no_table within in
              subst (λ (t : TableHistory). last_since t.nexts ≤ later) (sym at) by
          | inr other ↦
              let at : get_or (set tables place new) k no_table ≡ get_or tables k no_table = get_or-set_other tables place k new no_table other in
              subst (λ (t : TableHistory). last_since t.nexts ≤ later) (sym at) (omega (arith, stored.timed k long, from))
        ];
  } where
    listed : map table_now (set tables place new) ≡ set (map table_now tables) place (table_now new)
    listed = map-set table_now tables place new

    names : map (λ (t : Table). t.name) (map table_now (set tables place new)) ≡ map (λ (t : Table). t.name) (map table_now tables)
    names = map_now (λ (t : Table). t.name) (set tables place new) ∙ kept_map (λ (t : TableHistory). t.name) tables place new name_is ∙ sym (map_now (λ (t : Table). t.name) tables)

    schemas : map (λ (t : Table). t.schema) (map table_now (set tables place new)) ≡ map (λ (t : Table). t.schema) (map table_now tables)
    schemas = map_now (λ (t : Table). t.schema) (set tables place new) ∙ kept_map (λ (t : TableHistory). t.schema) tables place new schema_is ∙ sym (map_now (λ (t : Table). t.schema) tables)

  pub kept_before : (later : ℕ) (new : TableHistory) → new.name ≡ (get_or tables place no_table).name
      → ((earlier : ℕ) → earlier < later → rows_as_of earlier new.slots ≡ rows_as_of earlier (get_or tables place no_table).slots)
      → ((earlier : ℕ) → earlier < later → next_as_of earlier new.nexts ≡ next_as_of earlier (get_or tables place no_table).nexts)
      → AreKeptBefore later (record { tables = tables; time = time }) (record { tables = set tables place new; time = later })
  kept_before later new name_is rows nexts = λ other earlier less. (
    found_set (λ (t : TableHistory). t.name) no_table other (λ (t : TableHistory). rows_as_of earlier t.slots) tables place new name_is (rows earlier less),
    found_set (λ (t : TableHistory). t.name) no_table other (λ (t : TableHistory). next_as_of earlier t.nexts) tables place new name_is (nexts earlier less),
  )

-- ---- a change, as the store is seen

-- what a change does to its table, whatever that is
pub record IsChange (time : ℕ) (change : TableHistory → TableHistory) : Type 0 where
  pub name : (table : TableHistory) → (change table).name ≡ table.name
  pub schema : (table : TableHistory) → (change table).schema ≡ table.schema
  pub since : (table : TableHistory) → last_since (change table).nexts ≡ time
  pub rows : (table : TableHistory) (earlier : ℕ) → earlier < time → rows_as_of earlier (change table).slots ≡ rows_as_of earlier table.slots
  pub nexts : (table : TableHistory) (earlier : ℕ) → earlier < time → next_as_of earlier (change table).nexts ≡ next_as_of earlier table.nexts

pub insert_is : (time : ℕ) (rows : List (List Value)) → IsChange time (table_with_rows time rows)
insert_is time rows = record {
  name = λ table. refl;
  schema = λ table. refl;
  since = λ table. noted_since time (last_next_number table.nexts + length rows) table.nexts;
  rows = inserted_before time rows;
  nexts = λ table earlier less. noted_earlier time (last_next_number table.nexts + length rows) earlier table.nexts less;
}

pub replace_is : (time : ℕ) (rows : List TableRow) → IsChange time (table_with_values time rows)
replace_is time rows = record {
  name = λ table. refl;
  schema = λ table. refl;
  since = λ table. noted_since time (last_next_number table.nexts) table.nexts;
  rows = replaced_before time rows;
  nexts = λ table earlier less. noted_earlier time (last_next_number table.nexts) earlier table.nexts less;
}

pub remove_is : (time : ℕ) (numbers : List ℕ) → IsChange time (table_without time numbers)
remove_is time numbers = record {
  name = λ table. refl;
  schema = λ table. refl;
  since = λ table. noted_since time (last_next_number table.nexts) table.nexts;
  rows = removed_before time numbers;
  nexts = λ table earlier less. noted_earlier time (last_next_number table.nexts) earlier table.nexts less;
}

module _ (catalog : Catalog) (tables : List TableHistory) (before : ℕ) (stored : AreStored catalog tables before) (seen : StoreHistory) (view : record { tables = tables; time = before } ≡ seen)
    (name : List ℕ) (place : ℕ) (found : (place < length tables) × (is_history name (get_or tables place no_table) ≡ true)) (time : ℕ) (later : seen.time < time) where
  pub at_place : table_at name (tables_now seen) ≡ Some (table_now (get_or tables place no_table))
  at_place = ap (λ (s : StoreHistory). table_at name (tables_now s)) (sym view) ∙ table_found catalog tables before stored name place found.0 found.1

  pub history_there : (h : TableHistory) → history_at name seen ≡ Some h → h ≡ get_or tables place no_table
  history_there h there =
      same-some h (get_or tables place no_table)
      (sym there ∙ ap (λ (s : StoreHistory). history_at name s) (sym view) ∙ place_found catalog tables before stored name place found.0 found.1)

  pub time_is : before ≡ seen.time
  time_is = ap (λ (s : StoreHistory). s.time) view

  pub later_there : last_since (get_or tables place no_table).nexts < time
  later_there = omega (arith, stored.timed place found.0, time_is, later)

  pub given_there : (P : Table → Type 0) → IfSome (table_at name (tables_now seen)) P → P (table_now (get_or tables place no_table))
  given_there P given = subst (λ (o : Option Table). IfSome o P) at_place given

  module _ (change : TableHistory → TableHistory) (is : IsChange time change) (new : List TableHistory) (made : new ≡ set tables place (change (get_or tables place no_table))) where
    pub after_stored : is_valid_table (table_now (change (get_or tables place no_table))) ≡ true → AreStored catalog new time
    after_stored valid =
        let there : TableHistory = get_or tables place no_table in
        subst (λ (l : List TableHistory). AreStored catalog l time) (sym made)
        (stored_after catalog tables before stored name place found.0 found.1 time (change there) (is.name there) (is.schema there) (omega (arith, is.since there)) (omega (arith, time_is, later)) valid)

    pub after_is : record { tables = new; time = time } ≡ changed_at time name change seen
    after_is = (λ j. record { tables = (made ∙ changed_is catalog tables before stored name place found.0 found.1 change) j; time = time }) ∙ ap (changed_at time name change) view

    pub after_now : (plain : Table → Table) → table_now (change (get_or tables place no_table)) ≡ plain (table_now (get_or tables place no_table)) → map table_now new ≡ with_changed name plain (tables_now seen)
    after_now plain same =
        ap (map table_now) made ∙ now_after catalog tables before stored name place found.0 found.1 change plain same ∙ ap (λ (s : StoreHistory). with_changed name plain (tables_now s)) view

    pub after_kept : AreKeptBefore time seen (record { tables = new; time = time })
    after_kept =
        let there : TableHistory = get_or tables place no_table in
        subst (λ (l : List TableHistory). AreKeptBefore time seen (record { tables = l; time = time })) (sym made)
        (subst (λ (s : StoreHistory). AreKeptBefore time s (record { tables = set tables place (change there); time = time })) view
        (kept_before catalog tables before stored name place found.0 found.1 time (change there) (is.name there) (is.rows there) (is.nexts there)))

-- the table isn't missing
pub not_missing : (tables : List TableHistory) (time : ℕ) (seen : StoreHistory) → record { tables = tables; time = time } ≡ seen → (name : List ℕ) → IsSome (table_at name (tables_now seen)) → find (is_history name) tables ≡ None → ⊥
not_missing tables time seen view name there none =
    let some : IsSome (find (is_history name) tables) = there_from name tables (subst (λ (s : StoreHistory). IsSome (table_at name (tables_now s))) (sym view) there) in
    let wrong : IsSome {T = TableHistory} None = subst (λ (o : Option TableHistory). IsSome o) none some in
    cc

-- nor is one that was found
pub not_gone : (tables : List TableHistory) (time : ℕ) (seen : StoreHistory) → record { tables = tables; time = time } ≡ seen → (name : List ℕ) (h : TableHistory) → history_at name seen ≡ Some h
    → find (is_history name) tables ≡ None → ⊥
not_gone tables time seen view name h there none =
    none-some h (sym none ∙ ap (λ (s : StoreHistory). history_at name s) view ∙ there)
