-- The result of a change that the store refuses.
use Rattle.std.proofs.Common.{◌≡◌, ◌≢◌, ℕ, ◌<◌, List, [], ◌∷◌, ◌++◌, map, refl, ap, sym, ◌∙◌, subst, Option, Some, None, Bool, true, false, inl, inr, append_assoc}
use Rattle.std.specs.Prelude.{filter, Err, if◌then◌else◌}
use Rattle.std.specs.Option.{option_map, option_or, option_to_list}
use Rattle.lineage.proofs.RowLists.{Rises, needs_rise, read_with, read_last}
use Rattle.lineage.specs.Needing.{needs_in_order, union_of_needs}
use Rattle.ldv_value.proofs.Options.{none-some}
use Rattle.ldv_value.specs.Sorted.{is_strictly_sorted}
use Rattle.sql_model.specs.Changes.{KeyClash, lacks_value, key_clash, table_after, is_full, key_refusal, refusal_if, or_else, matched}
use Rattle.sql_model.specs.Keys.{values_at}
use Rattle.sql_model.specs.Needs.{NeededRow, Versions, needed_row, needed_by, matched_row, matched_rows, key_row, key_rows, parent_rows, child_row, child_rows, clash_rows, had_row, sorted_needs, read_of}
use Rattle.sql_model.specs.QueryAnswer.{Origin}
use Rattle.sql_model.specs.References.{MissingParent, Orphan, first_missing_parent, is_changed, first_orphan, parents_needed}
use Rattle.sql_model.specs.Refusals.{check_refusal}
use Rattle.sql_model.specs.Scope.{catalog_of}
use Rattle.sql_model.specs.Statements.{target, refusal_of}
use Rattle.sql_model.specs.Tables.{table_precedes}
use Rattle.sql_model.proofs.UniqueKeys.{or_none}
use Rattle.sql_laws.proofs.StatementParts.{refs_of}
use Rattle.table_store.specs.Histories.{tables_now, table_now, history_at, last_next_number}
use Rattle.table_store.specs.RowOrder.{AreInOrder}
use Rattle.table_store.specs.Stops.{stop_if, key_stop, stood_number, StopsAs}
use Rattle.table_store.specs.declared.error.StoreStop.{StoreStop}
use Rattle.table_store.specs.declared.error.StoreStop.TheVariants as stop
use Rattle.dml_versions.proofs.AfterLaws.{all_needed, refusal-is, change-by, after-refused}
use Rattle.dml_versions.proofs.KeptLaws.{SameOwn, SameAll}
use Rattle.dml_versions.proofs.MatchLaws.{AllStand, versions-are, needs-is}
use Rattle.dml_versions.proofs.NeedLaws.{added, needs-matched, needs-refused}
use Rattle.dml_versions.proofs.NumberLaws.{AreSorted}
use Rattle.dml_versions.proofs.ReferLaws.{or-case, refs_stop, refs-none, refs-null, refs-key, refs-full, refs-parent, refs-child, IsChild, orphan-there, row-there}
use Rattle.dml_versions.proofs.StandingLaws.{IsStanding, number-stands}
use Rattle.dml_versions.proofs.TableLaws.{history-name}
use Rattle.dml_versions.specs.Changing.{IsWhole, IsStoreAfter, IsChildThere, refused_change, refused_by}
use Rattle.dml_versions.specs.inner.Finding.{found_row, version_of}
use Rattle.dml_versions.specs.inner.Needing.{need_found, key_need, put_some, with_key_rows, with_child_row}
use Rattle.dml_versions.specs.inner.Needing.{IsRowThere}
use Rattle.dml_versions.specs.Types.{Need, K, P, C, Statement, Refused, SqlRefusal, NotNull, KeyTaken, Full, NoParent, HasChild, Table, TableRow, Value, StoreHistory, TableHistory}
use Rattle.dml_versions.specs.Versions.{versions_now}
use Rattle.dml_versions.specs.declared.change.Change.{Change}

-- ---- the first of three causes, as the store says it and as the statement does

abbrev pub stop_by : Table → Bool → Option KeyClash → Bool → Option StoreStop
stop_by t lacks clash full = option_or (stop_if lacks stop.NotNull) (option_or (key_stop t clash) (stop_if full stop.Full))

abbrev refusal_by : Table → Bool → Option KeyClash → Bool → Option SqlRefusal
refusal_by t lacks clash full = or_else (refusal_if lacks NotNull) (or_else (key_refusal t clash) (refusal_if full Full))

by_none : (t : Table) (lacks : Bool) (clash : Option KeyClash) (full : Bool) → stop_by t lacks clash full ≡ None → refusal_by t lacks clash full ≡ None
by_none t true clash full is = cc
by_none t false None true is = cc
by_none t false None false is = refl
by_none t false (Some clash) full is = cc

by_null : (t : Table) (lacks : Bool) (clash : Option KeyClash) (full : Bool) → stop_by t lacks clash full ≡ Some stop.NotNull → refusal_by t lacks clash full ≡ Some NotNull
by_null t true clash full is = refl
by_null t false None true is = cc
by_null t false None false is = cc
by_null t false (Some clash) full is = cc

by_full : (t : Table) (lacks : Bool) (clash : Option KeyClash) (full : Bool) → stop_by t lacks clash full ≡ Some stop.Full → refusal_by t lacks clash full ≡ Some Full
by_full t true clash full is = cc
by_full t false None true is = refl
by_full t false None false is = cc
by_full t false (Some clash) full is = cc

pub not-full : (t : Table) (lacks : Bool) (clash : Option KeyClash) (full : Bool) → stop_by t lacks clash full ≡ None → full ≡ false
not-full t true clash full is = cc
not-full t false None true is = cc
not-full t false None false is = refl
not-full t false (Some clash) full is = cc

pub own-parent : (t : Table) (lacks : Bool) (clash : Option KeyClash) (full : Bool) (table : List ℕ) (key : List Value)
    → stop_by t lacks clash full ≡ Some (stop.NoParent table key) → ⊥
own-parent t true clash full table key is = cc
own-parent t false None true table key is = cc
own-parent t false None false table key is = cc
own-parent t false (Some clash) full table key is = cc

pub own-child : (t : Table) (lacks : Bool) (clash : Option KeyClash) (full : Bool) (table : List ℕ) (row : ℕ) (key : List Value)
    → stop_by t lacks clash full ≡ Some (stop.HasChild table row key) → ⊥
own-child t true clash full table row key is = cc
own-child t false None true table row key is = cc
own-child t false None false table row key is = cc
own-child t false (Some clash) full table row key is = cc

-- what the table's own rules refuse hangs on no parents
pub same-all-own : (t : Table) (lacks : Bool) (clash : Option KeyClash) (full : Bool) (all others : List Need) (X : Type 0) (at : StoreStop)
    → StopsAs {X = X} (stop_by t lacks clash full) (Err at) → SameAll at all others
same-all-own t lacks clash full all others X stop.NotNull stops = tt
same-all-own t lacks clash full all others X (stop.KeyTaken earlier later key) stops = tt
same-all-own t lacks clash full all others X stop.Full stops = tt
same-all-own t lacks clash full all others X (stop.NoParent of key) stops = absurd (own-parent t lacks clash full of key stops)
same-all-own t lacks clash full all others X (stop.HasChild of row key) stops = absurd (own-child t lacks clash full of row key stops)
same-all-own t lacks clash full all others X stop.NoMemory stops = tt

-- then what references refuse
abbrev pub due_by : Table → Bool → Option KeyClash → Bool → Option MissingParent → Option Orphan → Option StoreStop
due_by t lacks clash full missing orphan = option_or (stop_by t lacks clash full) (refs_stop missing orphan)

-- two rows of one key, with the numbers of those that stood
record IsClash (t : Table) (clash : Option KeyClash) (earlier later : Option ℕ) (key : List Value) : Type 0 where
  rows : KeyClash
  is : clash ≡ Some rows
  earlier_is : earlier ≡ stood_number t rows.earlier
  later_is : later ≡ stood_number t rows.later
  key_is : key ≡ values_at t.schema.key rows.later.values

by_key : (t : Table) (lacks : Bool) (clash : Option KeyClash) (full : Bool) (earlier later : Option ℕ) (key : List Value)
    → stop_by t lacks clash full ≡ Some (stop.KeyTaken earlier later key)
    → IsClash t clash earlier later key × (refusal_by t lacks clash full ≡ Some (KeyTaken t.name key))
by_key t true clash full earlier later key is = cc
by_key t false None true earlier later key is = cc
by_key t false None false earlier later key is = cc
by_key t false (Some rows) full earlier later key is =
    let e : stood_number t rows.earlier ≡ earlier = cc in
    let l : stood_number t rows.later ≡ later = cc in
    let k : values_at t.schema.key rows.later.values ≡ key = cc in
    (record { rows = rows; is = refl; earlier_is = sym e; later_is = sym l; key_is = sym k }, ap (λ (v : List Value). Some (KeyTaken t.name v)) k)

module _ (store : StoreHistory) (s : Statement) (name : List ℕ) (table : TableHistory) (there : history_at name store ≡ Some table)
    (order : AreInOrder table.slots (last_next_number table.nexts)) (target_is : target s (tables_now store) ≡ Some (table_now table))
    (check : check_refusal s (catalog_of (tables_now store)) ≡ None) where
  abbrev db : List Table
  db = tables_now store

  abbrev t : Table
  t = table_now table

  abbrev lacks : Bool
  lacks = lacks_value s (catalog_of db) t

  abbrev clash : Option KeyClash
  clash = key_clash (table_after s (catalog_of db) t)

  abbrev full : Bool
  full = is_full s t

  abbrev missing : Option MissingParent
  missing = first_missing_parent s (catalog_of db) t db

  abbrev orphan : Option Orphan
  orphan = first_orphan s (catalog_of db) t db

  abbrev own : Option StoreStop
  own = stop_by t lacks clash full

  abbrev refs : Option StoreStop
  refs = refs_stop missing orphan

  named : t.name ≡ name
  named = history-name name store table there

  refusal_of_rows : refusal_of (Some s) db ≡ or_else (refusal_by t lacks clash full) (refs_of missing orphan)
  refusal_of_rows = refusal-is s db (Some t) check target_is

  own_refuses : (r : SqlRefusal) → refusal_by t lacks clash full ≡ Some r → refusal_of (Some s) db ≡ Some r
  own_refuses r is = refusal_of_rows ∙ ap (λ (o : Option SqlRefusal). or_else o (refs_of missing orphan)) is

  refs_refuse : own ≡ None → (r : Option SqlRefusal) → refs_of missing orphan ≡ r → refusal_of (Some s) db ≡ r
  refs_refuse none r is =
      refusal_of_rows
      ∙ ap (λ (o : Option SqlRefusal). or_else o (refs_of missing orphan)) (by_none t lacks clash full none)
      ∙ is

  pub not-refused : due_by t lacks clash full missing orphan ≡ None → refusal_of (Some s) db ≡ None
  not-refused is =
      let both = or_none own refs is in
      refs_refuse both.0 None (refs-none missing orphan both.1)

  -- ---- which cause it is

  own_null : option_or own refs ≡ Some stop.NotNull → own ≡ Some stop.NotNull
  own_null is = elim (or-case own refs stop.NotNull is) [
    | inl mine ↦ mine
    | inr others ↦ absurd (refs-null missing orphan others.1)
  ]

  own_key : (earlier later : Option ℕ) (key : List Value) → option_or own refs ≡ Some (stop.KeyTaken earlier later key)
      → own ≡ Some (stop.KeyTaken earlier later key)
  own_key earlier later key is = elim (or-case own refs (stop.KeyTaken earlier later key) is) [
    | inl mine ↦ mine
    | inr others ↦ absurd (refs-key missing orphan earlier later key others.1)
  ]

  own_full : option_or own refs ≡ Some stop.Full → own ≡ Some stop.Full
  own_full is = elim (or-case own refs stop.Full is) [
    | inl mine ↦ mine
    | inr others ↦ absurd (refs-full missing orphan others.1)
  ]

  refs_parent : (of : List ℕ) (key : List Value) → option_or own refs ≡ Some (stop.NoParent of key)
      → (own ≡ None) × (refs ≡ Some (stop.NoParent of key))
  refs_parent of key is = elim (or-case own refs (stop.NoParent of key) is) [
    | inl mine ↦ absurd (own-parent t lacks clash full of key mine)
    | inr others ↦ others
  ]

  refs_child : (of : List ℕ) (row : ℕ) (key : List Value) → option_or own refs ≡ Some (stop.HasChild of row key)
      → (own ≡ None) × (refs ≡ Some (stop.HasChild of row key))
  refs_child of row key is = elim (or-case own refs (stop.HasChild of row key) is) [
    | inl mine ↦ absurd (own-child t lacks clash full of row key mine)
    | inr others ↦ others
  ]

  -- a child row that refuses is there
  pub child-there : is_strictly_sorted table_precedes db ≡ true → (X : Type 0) (at : StoreStop)
      → StopsAs {X = X} (due_by t lacks clash full missing orphan) (Err at) → IsChildThere db at
  child-there sorted X stop.NotNull stops = tt
  child-there sorted X (stop.KeyTaken earlier later key) stops = tt
  child-there sorted X stop.Full stops = tt
  child-there sorted X (stop.NoParent of key) stops = tt
  child-there sorted X (stop.HasChild of row key) stops =
      let c = refs-child missing orphan of row key (refs_child of row key stops).1 in
      let found = row-there c.orphan.table c.orphan.row db sorted
      (orphan-there db (is_changed s (catalog_of db)) t (table_after s (catalog_of db) t) c.orphan c.is) in
      subst (λ (n : List ℕ). IsRowThere db n row) c.table_is (subst (λ (r : ℕ). IsRowThere db c.orphan.table r) c.row_is found)
  child-there sorted X stop.NoMemory stops = tt

  -- the lists on which a refusal hangs
  pub same-own-by : (needs others : List Need) → ((x : StoreStop) → own ≡ Some x → needs ≡ others) → (X : Type 0) (at : StoreStop)
      → StopsAs {X = X} (due_by t lacks clash full missing orphan) (Err at) → SameOwn at needs others
  same-own-by needs others same X stop.NotNull stops = same stop.NotNull (own_null stops)
  same-own-by needs others same X (stop.KeyTaken earlier later key) stops = same (stop.KeyTaken earlier later key) (own_key earlier later key stops)
  same-own-by needs others same X stop.Full stops = tt
  same-own-by needs others same X (stop.NoParent of key) stops = tt
  same-own-by needs others same X (stop.HasChild of row key) stops = tt
  same-own-by needs others same X stop.NoMemory stops = tt

  pub same-all-by : (all others : List Need) → (own ≡ None → all ≡ others) → (X : Type 0) (at : StoreStop)
      → StopsAs {X = X} (due_by t lacks clash full missing orphan) (Err at) → SameAll at all others
  same-all-by all others same X stop.NotNull stops = tt
  same-all-by all others same X (stop.KeyTaken earlier later key) stops = tt
  same-all-by all others same X stop.Full stops = tt
  same-all-by all others same X (stop.NoParent of key) stops = same (refs_parent of key stops).0
  same-all-by all others same X (stop.HasChild of row key) stops = same (refs_child of row key stops).0
  same-all-by all others same X stop.NoMemory stops = tt

  -- ---- the rows of a refused key

  stood_need : (row : TableRow) → option_map (key_need name table.slots) (stood_number t row) ≡ option_map (λ (n : ℕ). read_of (versions_now store) (record { table = t.name; row = n; rule = K })) (stood_number t row)
  stood_need row = by (had_row t row) refl
    where
      by : (b : Bool) → had_row t row ≡ b → option_map (key_need name table.slots) (if b then Some row.number else None)
          ≡ option_map (λ (n : ℕ). read_of (versions_now store) (record { table = t.name; row = n; rule = K })) (if b then Some row.number else None)
      by false is = refl
      by true is =
          let s : IsStanding table.slots row.number = number-stands table.slots (last_next_number table.nexts) order row.number is in
          let version : version_of table.slots row.number ≡ versions_now store t.name row.number =
          versions-are store name table there order row.number s ∙ ap (λ (n : List ℕ). versions_now store n row.number) (sym named) in
          λ j. Some (record { member = record { table = sym named j; row = row.number; version = version j }; rule = K })

  keys_are : (rows : KeyClash) (needs : List Need) → with_key_rows name table.slots (stood_number t rows.earlier) (stood_number t rows.later) needs
      ≡ added t.name (versions_now store) (stood_number t rows.earlier) (added t.name (versions_now store) (stood_number t rows.later) needs)
  keys_are rows needs = λ j. put_some (stood_need rows.earlier j) (put_some (stood_need rows.later j) needs)

  -- ---- what is returned

  module _ (rows : List TableRow) (rows_are : matched s (catalog_of db) t ≡ rows) (sorted : AreSorted rows) (stand : AllStand store name table there order rows) where
    abbrev needs : List Need
    needs = map (need_found name) (map (found_row table.slots) rows)

    abbrev mine : List NeededRow
    mine = matched_rows s (catalog_of db) (target s db)

    abbrev parents : List NeededRow
    parents = parent_rows s (catalog_of db) (target s db) db

    needs_are : needs ≡ map (read_of (versions_now store)) (sorted_needs (map (matched_row t) rows))
    needs_are = needs-is store name table there order t named rows stand ∙ ap (map (read_of (versions_now store))) (sym (needs-matched t rows sorted))

    matched_are : mine ≡ map (matched_row t) rows
    matched_are = ap (matched_rows s (catalog_of db)) target_is ∙ ap (map (matched_row t)) rows_are

    pub own-needs : needs ≡ map (read_of (versions_now store)) (sorted_needs mine)
    own-needs = needs_are ∙ ap (λ (l : List NeededRow). map (read_of (versions_now store)) (sorted_needs l)) (sym matched_are)

    -- the matched rows and the parents of new ones
    pub all-needs : (origins : List Origin) → parents_needed s (catalog_of db) t db ≡ origins
        → union_of_needs needs (needs_in_order (map (read_of (versions_now store)) (map (needed_by P) origins)))
        ≡ all_needed s store
    all-needs origins is =
        ap (λ (l : List Need). union_of_needs l (needs_in_order (map (read_of (versions_now store)) (map (needed_by P) origins))))
        (needs-is store name table there order t named rows stand)
        ∙ read_with (versions_now store) (map (matched_row t) rows) (map (needed_by P) origins)
        (subst Rises (needs-matched t rows sorted) (needs_rise (map (matched_row t) rows)))
        ∙ ap (λ (l : List NeededRow). map (read_of (versions_now store)) (sorted_needs l))
        (λ j. sym matched_are j
        ++ sym (ap (λ (o : Option Table). parent_rows s (catalog_of db) o db) target_is ∙ ap (map (needed_by P)) is) j)

    null_change : own ≡ Some stop.NotNull → IsWhole s store (refused_by NotNull needs)
    null_change is = change-by s store (Some NotNull) (own_refuses NotNull (by_null t lacks clash full is)) (refused_by NotNull needs) refl refl own-needs

    full_change : own ≡ Some stop.Full → IsWhole s store (refused_by Full [])
    full_change is = change-by s store (Some Full) (own_refuses Full (by_full t lacks clash full is)) (refused_by Full []) refl refl refl

    key_needs : (clash_is : KeyClash) → clash ≡ Some clash_is
        → with_key_rows name table.slots (stood_number t clash_is.earlier) (stood_number t clash_is.later) needs
        ≡ map (read_of (versions_now store)) (sorted_needs (mine ++ key_rows s (catalog_of db) (target s db)))
    key_needs two is =
        keys_are two needs
        ∙ ap (λ (l : List Need). added t.name (versions_now store) (stood_number t two.earlier) (added t.name (versions_now store) (stood_number t two.later) l)) needs_are
        ∙ sym (needs-refused t (versions_now store) rows two.earlier two.later)
        ∙ ap (λ (l : List NeededRow). map (read_of (versions_now store)) (sorted_needs l))
        (λ j. sym matched_are j ++ sym (ap (key_rows s (catalog_of db)) target_is ∙ ap (λ (o : Option KeyClash). map (key_row t) (filter (had_row t) (clash_rows o))) is) j)

    key_change : (earlier later : Option ℕ) (key : List Value) → own ≡ Some (stop.KeyTaken earlier later key)
        → IsWhole s store (refused_by (KeyTaken name key) (with_key_rows name table.slots earlier later needs))
    key_change earlier later key is =
        let both = by_key t lacks clash full earlier later key is in
        let c = both.0 in
        change-by s store (Some (KeyTaken t.name key)) (own_refuses (KeyTaken t.name key) both.1) (refused_by (KeyTaken name key) (with_key_rows name table.slots earlier later needs))
        (ap (λ (n : List ℕ). Refused (KeyTaken n key)) (sym named)) refl
        ((λ j. with_key_rows name table.slots (c.earlier_is j) (c.later_is j) needs) ∙ key_needs c.rows c.is)

    some_is : (a b : Change) → Some a ≡ Some b → a ≡ b
    some_is a b is = cc

    -- ---- with all that is needed

    module _ (all : List Need) (all_are : own ≡ None → all ≡ all_needed s store) where
      parent_change : (of : List ℕ) (key : List Value) → own ≡ None → refs ≡ Some (stop.NoParent of key)
          → IsWhole s store (refused_by (NoParent of key) all)
      parent_change of key none is =
          change-by s store (Some (NoParent of key)) (refs_refuse none (Some (NoParent of key)) (refs-parent missing orphan of key is))
          (refused_by (NoParent of key) all) refl refl (all_are none)

      child_needs : (of : List ℕ) (row : ℕ) (key : List Value) → own ≡ None → IsChild missing orphan of row key
          → with_child_row (versions_now store) of row all
          ≡ map (read_of (versions_now store)) (sorted_needs (mine ++ (parents ++ child_rows s (catalog_of db) (target s db) db)))
      child_needs of row key none c =
          let child : NeededRow = needed_row C of row in
          let rows_is : child_rows s (catalog_of db) (target s db) db ≡ child ∷ [] =
          ap (λ (o : Option Table). child_rows s (catalog_of db) o db) target_is
          ∙ ap (λ (o : Option Orphan). option_to_list (option_map child_row o)) c.is
          ∙ (λ j. needed_row C (c.table_is j) (c.row_is j) ∷ []) in
          ap (λ (ns : List Need). union_of_needs ns (read_of (versions_now store) child ∷ [])) (all_are none)
          ∙ read_last (versions_now store) (mine ++ parents) child
          ∙ ap (λ (l : List NeededRow). map (read_of (versions_now store)) (sorted_needs l))
          (append_assoc mine parents (child ∷ []) ∙ ap (λ (l : List NeededRow). mine ++ (parents ++ l)) (sym rows_is))

      child_change : (of : List ℕ) (row : ℕ) (key : List Value) → own ≡ None → refs ≡ Some (stop.HasChild of row key)
          → IsWhole s store (refused_by (HasChild of key) (with_child_row (versions_now store) of row all))
      child_change of row key none is =
          let c = refs-child missing orphan of row key is in
          change-by s store (Some (HasChild of key)) (refs_refuse none (Some (HasChild of key)) c.refusal)
          (refused_by (HasChild of key) (with_child_row (versions_now store) of row all)) refl refl (child_needs of row key none c)

      pub refused-change : (X : Type 0) (at : StoreStop) (change : Change) → StopsAs {X = X} (due_by t lacks clash full missing orphan) (Err at)
          → refused_change (versions_now store) name table.slots needs all at ≡ Some change → IsWhole s store change
      refused-change X stop.NotNull change stops is =
          subst (IsWhole s store) (some_is (refused_by NotNull needs) change is) (null_change (own_null stops))
      refused-change X (stop.KeyTaken earlier later key) change stops is =
          subst (IsWhole s store) (some_is (refused_by (KeyTaken name key) (with_key_rows name table.slots earlier later needs)) change is)
          (key_change earlier later key (own_key earlier later key stops))
      refused-change X stop.Full change stops is =
          subst (IsWhole s store) (some_is (refused_by Full []) change is) (full_change (own_full stops))
      refused-change X (stop.NoParent of key) change stops is =
          let due = refs_parent of key stops in
          subst (IsWhole s store) (some_is (refused_by (NoParent of key) all) change is) (parent_change of key due.0 due.1)
      refused-change X (stop.HasChild of row key) change stops is =
          let due = refs_child of row key stops in
          subst (IsWhole s store) (some_is (refused_by (HasChild of key) (with_child_row (versions_now store) of row all)) change is)
          (child_change of row key due.0 due.1)
      refused-change X stop.NoMemory change stops is = cc

  -- ---- what is left

  refused_by_some : (X : Type 0) (at : StoreStop) → at ≢ stop.NoMemory → StopsAs {X = X} (due_by t lacks clash full missing orphan) (Err at)
      → (r : SqlRefusal) × (refusal_of (Some s) db ≡ Some r)
  refused_by_some X stop.NotNull known stops = (NotNull, own_refuses NotNull (by_null t lacks clash full (own_null stops)))
  refused_by_some X (stop.KeyTaken earlier later key) known stops =
      (KeyTaken t.name key, own_refuses (KeyTaken t.name key) (by_key t lacks clash full earlier later key (own_key earlier later key stops)).1)
  refused_by_some X stop.Full known stops = (Full, own_refuses Full (by_full t lacks clash full (own_full stops)))
  refused_by_some X (stop.NoParent of key) known stops =
      let due = refs_parent of key stops in
      (NoParent of key, refs_refuse due.0 (Some (NoParent of key)) (refs-parent missing orphan of key due.1))
  refused_by_some X (stop.HasChild of row key) known stops =
      let due = refs_child of row key stops in
      (HasChild of key, refs_refuse due.0 (Some (HasChild of key)) (refs-child missing orphan of row key due.1).refusal)
  refused_by_some X stop.NoMemory known stops = absurd (known refl)

  known_by : (versions : Versions) (needs all : List Need) (at : StoreStop) (change : Change)
      → refused_change versions name table.slots needs all at ≡ Some change → at ≢ stop.NoMemory
  known_by versions needs all at change is none =
      none-some change (sym (ap (refused_change versions name table.slots needs all) none) ∙ is)

  pub refused-after : (X : Type 0) (at : StoreStop) (versions : Versions) (needs all : List Need) (change : Change)
      → StopsAs {X = X} (due_by t lacks clash full missing orphan) (Err at)
      → refused_change versions name table.slots needs all at ≡ Some change
      → (time : ℕ) (new : StoreHistory) → store.time < time → new ≡ store → IsStoreAfter s time store new
  refused-after X at versions needs all change stops is time new later same =
      let r = refused_by_some X at (known_by versions needs all at change is) stops in
      after-refused s time store new r.0 r.1 later same
