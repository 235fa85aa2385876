-- One look-up tells both: the row to which a key refers, and that none has it.
use Rattle.std.proofs.Common.{◌≡◌, ◌∙◌, ◌==◌, ℕ, ◌+◌, ◌<◌, List, [], ◌∷◌, ◌++◌, length, take, get_or, refl, sym, ap, subst, cond, arith, Bool, true, false, Option, Some, None, is_some}
use Rattle.std.specs.Prelude.{find, nat_lt, not, ◌||◌, if◌then◌else◌}
use Rattle.std.specs.BTreeMap.{BTreeMap, IsEmpty, Updates, is_at}
use Rattle.std.specs.List.{cons_option, filter_map, flat_map, list_all, list_any}
use Rattle.std.specs.Option.{option_map, option_or}
use Rattle.std.proofs.lemmas.Bool.{ltb-true, ne_eqb}
use Rattle.std.proofs.lemmas.List.{get_or_default, take_more}
use Rattle.ldv_value.proofs.Booleans.{and-parts, or-comm, or-parts}
use Rattle.ldv_value.proofs.Lists.{found-all, found-passes}
use Rattle.ldv_value.proofs.Options.{option_or-none, option_or-assoc, same-some}
use Rattle.ldv_value.proofs.SameBytes.{bytes_eq-true}
use Rattle.ldv_value.specs.Options.{first_some}
use Rattle.ldv_value.specs.Sorted.{is_strictly_sorted}
use Rattle.sql_model.proofs.Databases.{valid_of_database}
use Rattle.sql_model.proofs.NewNumbers.{row_precedes}
use Rattle.sql_model.proofs.UniqueKeys.{values_in}
use Rattle.sql_model.proofs.ValidTables.{table-parts}
use Rattle.sql_model.specs.Changes.{numbered_rows}
use Rattle.sql_model.specs.KeyOrder.{key_order}
use Rattle.sql_model.specs.Keys.{key_at}
use Rattle.sql_model.specs.References.{has_key, reference}
use Rattle.sql_model.specs.Scope.{is_table, same_text, table_at}
use Rattle.sql_model.specs.Tables.{AreWellFormed, are_keys_unique, is_valid_table}
use Rattle.table_store.specs.inner.Afterwards.{is_keyed, keeps, put_missing}
use Rattle.table_store.specs.inner.Judging.{has_given, holds, stop_of_key}
use Rattle.table_store.specs.inner.ParentRows.{if_stands, last_row_with, member_now, number_in, number_of_key, number_put, parent_by, parent_in, parent_number, parents_in_row, unless_given}
use Rattle.table_store.specs.Histories.{StoreHistory, TableHistory, history_at, table_now, tables_now}
use Rattle.table_store.specs.Referring.{are_apart, parent_stop, parents_now}
use Rattle.table_store.specs.Types.{Foreign, Member, RowKey, Table, TableRow, Value}
use Rattle.table_store.specs.declared.error.StoreStop.{StoreStop}
use Rattle.table_store.specs.declared.error.StoreStop.TheVariants.{NoParent}
use Rattle.table_store.proofs.ChildLaws.{any_found}
use Rattle.table_store.proofs.ClaimLaws.{new_more}
use Rattle.table_store.proofs.NowLaws.{now_at}
use Rattle.table_store.proofs.ParentLaws.{last_pushed, last_start, numbered_sorted, numbers, parents_are}
use Rattle.table_store.proofs.PutLaws.{kept_none, kept_some}

-- ---- a number is found exactly where a row has the key

some_not : (n : ℕ) (b : Bool) → is_some (if b then None else Some n) ≡ not b
some_not n true = refl
some_not n false = refl

some_or : {A : Type 0} (a b : Option A) → is_some (option_or a b) ≡ (is_some a || is_some b)
some_or None b = refl
some_or (Some x) b = refl

some_number : (o : Option TableRow) → is_some (option_map (λ (row : TableRow). row.number) o) ≡ is_some o
some_number None = refl
some_number (Some row) = refl

module _ (given : BTreeMap RowKey ℕ) (ns own : List ℕ) (p : Table) (key : List Value) (keyed : 0 < length p.schema.key)
    (unique : are_keys_unique p.schema.key (values_in p.rows) ≡ true) where
  some_stays : (o : Option ℕ) → number_of_key p key ≡ o → is_some (unless_given ns o) ≡ keeps ns p key
  some_stays None is = kept_none p.schema.key key ns p.rows is
  some_stays (Some n) is = some_not n (list_any (λ (g : ℕ). g == n) ns) ∙ kept_some p.schema.key key ns p.rows keyed unique n is

  tells_if : (b : Bool) → is_some (if b then number_put (number_in given) ns p key else number_of_key p key)
      ≡ (if b then holds given key || keeps ns p key else list_any (has_key p.schema.key key) p.rows)
  tells_if true =
      some_or (number_in given key) (unless_given ns (number_of_key p key))
      ∙ ap (λ (b : Bool). holds given key || b) (some_stays (number_of_key p key) refl)
  tells_if false = some_number (find (has_key p.schema.key key) p.rows) ∙ sym (any_found (has_key p.schema.key key) p.rows)

  pub number_tells : is_some (parent_number (number_in given) ns own p key) ≡ has_given given ns own p key
  number_tells = tells_if (is_table own p)

-- ---- a key

module _ (store : StoreHistory) (given : BTreeMap RowKey ℕ) (ns own : List ℕ) (f : Foreign) (key : List Value) where
  abbrev stop_of : Option Table → Option StoreStop
  stop_of o = option_map parent_stop (put_missing (has_given given ns own) o f (Some key))

  abbrev stop_if_not : Bool → Option StoreStop
  stop_if_not b = option_map parent_stop (if b then None else Some (record { parent = f.parent; key = key }))

  pub stop_absent : table_at f.parent (tables_now store) ≡ None → Some (NoParent f.parent key) ≡ stop_of_key store given ns own f key
  stop_absent none = sym (ap stop_of none)

  module _ (p : Table) (there : table_at f.parent (tables_now store) ≡ Some p) (keyed : 0 < length p.schema.key)
      (unique : are_keys_unique p.schema.key (values_in p.rows) ≡ true) where
    told : (o : Option ℕ) → o ≡ parent_number (number_in given) ns own p key → stop_if_not (is_some o) ≡ stop_of_key store given ns own f key
    told o is = ap stop_if_not (ap is_some is ∙ number_tells given ns own p key keyed unique) ∙ sym (ap stop_of there)

    pub stop_none : None ≡ parent_number (number_in given) ns own p key → Some (NoParent f.parent key) ≡ stop_of_key store given ns own f key
    stop_none is = told None is

    pub stop_some : (n : ℕ) → Some n ≡ parent_number (number_in given) ns own p key → None ≡ stop_of_key store given ns own f key
    stop_some n is = told (Some n) is

-- ---- one refusal after the other

-- none is added
pub same_stop : {A : Type 0} (stop due : Option A) → None ≡ due → stop ≡ option_or stop due
same_stop stop due none = sym (option_or-none stop) ∙ ap (option_or stop) none

map_or : {A B : Type 0} (h : A → B) (a b : Option A) → option_map h (option_or a b) ≡ option_or (option_map h a) (option_map h b)
map_or h None b = refl
map_or h (Some x) b = refl

first_pushed : {X Y : Type 0} (f : X → Option Y) (xs : List X) (x : X) → first_some f (xs ++ x ∷ []) ≡ option_or (first_some f xs) (f x)
first_pushed f [] x = option_or-none (f x)
first_pushed {Y = Y} f (y ∷ ys) x =
    ap (λ (o : Option Y). option_or (f y) o) (first_pushed f ys x) ∙ sym (option_or-assoc (f y) (first_some f ys) (f x))

-- one item more
pub first_folds : {X Y Z : Type 0} (h : Y → Z) (f : X → Option Y) (xs : List X) (i : ℕ) (x : X) → i < length xs → x ≡ get_or xs i x
    → option_or (option_map h (first_some f (take i xs))) (option_map h (f x)) ≡ option_map h (first_some f (take (i + 1) xs))
first_folds {X = X} h f xs i x within is =
    sym (map_or h (first_some f (take i xs)) (f x))
    ∙ ap (option_map h) (sym (first_pushed f (take i xs) x)
    ∙ ap (λ (y : X). first_some f (take i xs ++ y ∷ [])) is
    ∙ ap (first_some f) (sym (take_more xs i x within)))

-- ---- the given rows that have a key

some_if : (n : ℕ) (b : Bool) → is_some (if b then Some n else None) ≡ b
some_if n true = refl
some_if n false = refl

-- a last one is found exactly where one is there
pub last_tells : (places : List ℕ) (key : List Value) (rows : List TableRow) → is_some (last_row_with places rows key) ≡ list_any (has_key places key) rows
last_tells places key [] = refl
last_tells places key (row ∷ rows) =
    some_or (last_row_with places rows key) (if has_key places key row then Some row.number else None)
    ∙ (λ j. last_tells places key rows j || some_if row.number (has_key places key row) j)
    ∙ or-comm (list_any (has_key places key) rows) (has_key places key row)

-- no row is given
pub none_held : (given : BTreeMap RowKey ℕ) → IsEmpty given → (key : List Value) → holds given key ≡ false
none_held given empty key = ap is_some (last_start given empty key)

-- one new row more
pub last_new : (places : List ℕ) (next number : ℕ) (rows : List (List Value)) (i : ℕ) (row : List Value) (old new : BTreeMap RowKey ℕ) (made : RowKey) → i < length rows
    → row ≡ get_or rows i row → made ≡ key_at places row → number ≡ next + i → Updates key_order old new made (Some number)
    → ((key : List Value) → number_in old key ≡ last_row_with places (numbered_rows next (take i rows)) key)
    → (key : List Value) → number_in new key ≡ last_row_with places (numbered_rows next (take (i + 1) rows)) key
last_new places next number rows i row old new made within is key_is number_is updates before key =
    let it : TableRow = record { number = next + i; values = get_or rows i [] } in
    updates.0 (record { values = key })
    ∙ ap (λ (k : RowKey). cond (is_at (key_order k) (record { values = key })) (Some number) (number_in old key)) (key_is ∙ ap (key_at places) (is ∙ get_or_default rows i row [] within))
    ∙ (λ j. cond (has_key places key it) (Some (number_is j)) (before key j))
    ∙ sym (last_pushed places key (numbered_rows next (take i rows)) it)
    ∙ ap (λ (l : List TableRow). last_row_with places l key) (sym (new_more places next [] rows i within))

-- ---- foreign keys whose parent is another table

options_agree : {X Y : Type 0} (f g : X → Option Y) (p : X → Bool) → ((x : X) → p x ≡ false → f x ≡ g x) → (xs : List X) → list_any p xs ≡ false
    → filter_map f xs ≡ filter_map g xs
options_agree f g p same [] is = refl
options_agree f g p same (x ∷ xs) is =
    let parts = or-parts (p x) (list_any p xs) is in
    λ j. cons_option (same x parts.0 j) (options_agree f g p same xs parts.1 j)

module _ (store : StoreHistory) (ns own : List ℕ) (one two : List Value → Option ℕ) where
  abbrev found_by : (List Value → Option ℕ) → Foreign → Table → List Value → Bool → Option Member
  found_by given f t key b = option_map (member_now store f.parent) (if_stands t (if b then number_put given ns t key else number_of_key t key))

  parent_apart : (f : Foreign) → same_text f.parent own ≡ false → (o : Option Table) → table_at f.parent (tables_now store) ≡ o → (r : Option (List Value))
      → parent_in store one ns own f o r ≡ parent_in store two ns own f o r
  parent_apart f away None is None = refl
  parent_apart f away None is (Some key) = refl
  parent_apart f away (Some t) is None = refl
  parent_apart f away (Some t) is (Some key) =
      let named : t.name ≡ f.parent = bytes_eq-true t.name f.parent (found-passes (is_table f.parent) (tables_now store) t is) in
      let other : is_table own t ≡ false = ap (λ (n : List ℕ). same_text n own) named ∙ away in
      ap (found_by one f t key) other ∙ sym (ap (found_by two f t key) other)

  parents_apart : (fs : List Foreign) → list_any (λ (f : Foreign). same_text f.parent own) fs ≡ false → (values : List Value)
      → parents_in_row store one ns own fs values ≡ parents_in_row store two ns own fs values
  parents_apart fs away values =
      options_agree (parent_by store one ns own values) (parent_by store two ns own values) (λ (f : Foreign). same_text f.parent own)
      (λ f other. parent_apart f other (table_at f.parent (tables_now store)) refl (reference f values)) fs away

  -- the numbers of given rows don't matter where the table isn't its own parent
  pub parents_same : (fs : List Foreign) (b : Bool) → list_any (λ (f : Foreign). same_text f.parent own) fs ≡ b → (b ≡ true → (key : List Value) → one key ≡ two key)
      → (values : List Value) → parents_in_row store one ns own fs values ≡ parents_in_row store two ns own fs values
  parents_same fs true is same values = ap (λ (given : List Value → Option ℕ). parents_in_row store given ns own fs values) (λ j key. same refl key j)
  parents_same fs false is same values = parents_apart fs is values

-- ---- new rows, which take the place of none

flat_numbered : {Y : Type 0} (h : List Value → List Y) (next : ℕ) (rows : List (List Value))
    → flat_map (λ (row : TableRow). h row.values) (numbered_rows next rows) ≡ flat_map h rows
flat_numbered h next [] = refl
flat_numbered {Y = Y} h next (values ∷ rows) = ap (λ (l : List Y). h values ++ l) (flat_numbered h (next + 1) rows)

-- none of them has a number below theirs
not_fresh : (n m : ℕ) → n < m → (rows : List (List Value)) → list_any (λ (g : ℕ). g == n) (numbers (numbered_rows m rows)) ≡ false
not_fresh n m less [] = refl
not_fresh n m less (values ∷ rows) =
    let other : (m == n) ≡ false = ne_eqb m n (λ same. absurd (omega (arith, same, less))) in
    λ j. other j || not_fresh n (m + 1) (omega (arith, less)) rows j

module _ (store : StoreHistory) (own : TableHistory) (there : history_at own.name store ≡ Some own) (formed : AreWellFormed (tables_now store)) (rows : List (List Value)) where
  abbrev db : List Table
  db = tables_now store

  abbrev t : Table
  t = table_now own

  abbrev fresh : List TableRow
  fresh = numbered_rows t.next rows

  own_found : table_at own.name db ≡ Some t
  own_found = now_at own.name store own (sym there)

  valid : is_valid_table t ≡ true
  valid = found-all (is_table own.name) is_valid_table db t (valid_of_database db formed.database) own_found

  below : list_all (λ (row : TableRow). nat_lt row.number t.next) t.rows ≡ true
  below = (and-parts (is_strictly_sorted row_precedes t.rows) (list_all (λ (row : TableRow). nat_lt row.number t.next) t.rows) (table-parts t valid).numbers).1

  abbrev number_of : Option TableRow → Option ℕ
  number_of o = option_map (λ (row : TableRow). row.number) o

  -- a row that stands is none of them
  fresh_kept : (key : List Value) (o : Option TableRow) → find (has_key t.schema.key key) t.rows ≡ o → unless_given [] (number_of o) ≡ unless_given (numbers fresh) (number_of o)
  fresh_kept key None found = refl
  fresh_kept key (Some row) found =
      let less : row.number < t.next = ltb-true row.number t.next (found-all (has_key t.schema.key key) (λ (r : TableRow). nat_lt r.number t.next) t.rows row below found) in
      sym (ap (λ (b : Bool). if b then None else Some row.number) (not_fresh row.number t.next less rows))

  own_is : (u : Table) (name : List ℕ) → table_at name db ≡ Some u → is_table own.name u ≡ true → u ≡ t
  own_is u name found hit =
      let by_own : u.name ≡ own.name = bytes_eq-true u.name own.name hit in
      let by_name : u.name ≡ name = bytes_eq-true u.name name (found-passes (is_table name) db u found) in
      same-some u t (sym (ap (λ (n : List ℕ). table_at n db) (sym by_own ∙ by_name) ∙ found) ∙ own_found)

  module _ (given : List Value → Option ℕ) where
    fresh_put : (u : Table) → u ≡ t → (key : List Value) → number_put given [] u key ≡ number_put given (numbers fresh) u key
    fresh_put u same key =
        subst (λ (v : Table). number_put given [] v key ≡ number_put given (numbers fresh) v key) (sym same)
        (ap (option_or (given key)) (fresh_kept key (find (has_key t.schema.key key) t.rows) refl))

    fresh_if : (u : Table) (key : List Value) (b : Bool) → (b ≡ true → u ≡ t)
        → (if b then number_put given [] u key else number_of_key u key) ≡ (if b then number_put given (numbers fresh) u key else number_of_key u key)
    fresh_if u key true same = fresh_put u (same refl) key
    fresh_if u key false same = refl

    fresh_in : (f : Foreign) (o : Option Table) → table_at f.parent db ≡ o → (r : Option (List Value))
        → parent_in store given [] own.name f o r ≡ parent_in store given (numbers fresh) own.name f o r
    fresh_in f None is None = refl
    fresh_in f None is (Some key) = refl
    fresh_in f (Some u) is None = refl
    fresh_in f (Some u) is (Some key) =
        ap (λ (n : Option ℕ). option_map (member_now store f.parent) (if_stands u n)) (fresh_if u key (is_table own.name u) (own_is u f.parent is))

    fresh_row : (fs : List Foreign) (values : List Value) → parents_in_row store given [] own.name fs values ≡ parents_in_row store given (numbers fresh) own.name fs values
    fresh_row fs values =
        ap (λ (by : Foreign → Option Member). filter_map by fs) (λ j f. fresh_in f (table_at f.parent db) refl (reference f values) j)

  abbrev last : List Value → Option ℕ
  last key = last_row_with own.schema.key fresh key

  pub new_parents : are_apart fresh t ≡ true → list_all (is_keyed db) own.schema.foreign ≡ true
      → flat_map (λ (values : List Value). parents_in_row store last [] own.name own.schema.foreign values) rows ≡ parents_now store fresh t
  new_parents apart keyed =
      let fs : List Foreign = own.schema.foreign in
      ap (λ (h : List Value → List Member). flat_map h rows) (λ j values. fresh_row last fs values j)
      ∙ sym (flat_numbered (λ (values : List Value). parents_in_row store last (numbers fresh) own.name fs values) t.next rows)
      ∙ parents_are store own there formed fresh (numbered_sorted t.next rows) apart keyed
