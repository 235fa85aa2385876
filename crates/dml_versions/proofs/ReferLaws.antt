-- The refusals of a change by references, which are the same for the store and for the statement, and the
-- rows that they need.
use Rattle.std.proofs.Common.{◌≡◌, ◌==◌, ℕ, ◌+◌, List, [], ◌∷◌, ◌++◌, map, refl, ap, sym, ◌∙◌, subst, Option, Some, None, Bool, true, false, inl, inr, ◌⊎◌, cond, eq-eqb}
use Rattle.std.specs.Prelude.{filter, find, not, ◌&&◌, ◌||◌, if◌then◌else◌}
use Rattle.std.specs.List.{flat_map, filter_map, cons_option, list_any, list_all, AllByRecursion}
use Rattle.std.specs.Option.{option_map, option_or, option_and_then}
use Rattle.lineage.specs.Needing.{need_by, needs_in_order, union_of_needs}
use Rattle.ldv_value.proofs.Booleans.{and-parts, and-from, and-false, or-cases, or-left, or-right, false≢true}
use Rattle.ldv_value.proofs.Cases.{cases-bool}
use Rattle.ldv_value.proofs.Lists.{list_any-append, list_all-append, found-passes}
use Rattle.ldv_value.proofs.Options.{same-some, none-some}
use Rattle.ldv_value.proofs.SameBytes.{bytes_eq-true, bytes_eq-itself}
use Rattle.ldv_value.specs.Sorted.{is_strictly_sorted}
use Rattle.sql_laws.proofs.Orphans.{first_holds}
use Rattle.sql_laws.proofs.TableNames.{table-trans, more-differs}
use Rattle.sql_laws.proofs.StatementParts.{refs_of}
use Rattle.sql_model.proofs.SortedLists.{sorted-all, sorted-tail}
use Rattle.sql_model.specs.Changes.{had_row}
use Rattle.sql_model.specs.Needs.{needed_by, read_of}
use Rattle.sql_model.specs.QueryAnswer.{Origin}
use Rattle.sql_model.specs.References.{reference, has_key, is_lost, MissingParent, Child, Orphan, orphan_by, orphans_of, other_rows, child_of, children, orphans, first_in, parents_in, parents_by, parents_of}
use Rattle.sql_model.specs.Scope.{same_text, is_table, table_at, has_row}
use Rattle.sql_model.specs.Tables.{table_precedes}
use Rattle.table_store.specs.Histories.{tables_now, table_now, history_at, history_of_row, version_now, last_next_number}
use Rattle.table_store.specs.RowOrder.{AreInOrder}
use Rattle.table_store.specs.Referring.{parent_stop, child_stop, parents_in_db, version_at, origin_now, parents_now, IsAtVersion}
use Rattle.table_store.specs.Stops.{with_changed, has_number}
use Rattle.table_store.specs.declared.error.StoreStop.{StoreStop}
use Rattle.table_store.specs.declared.error.StoreStop.TheVariants as stop
use Rattle.dml_versions.proofs.StandingLaws.{updates-are, number-stands, version-is}
use Rattle.dml_versions.proofs.TableLaws.{table-found, table-now}
use Rattle.dml_versions.specs.inner.Finding.{version_of}
use Rattle.dml_versions.specs.inner.Needing.{parent_needs, with_parent_rows, IsRowThere}
use Rattle.dml_versions.specs.Types.{Member, Need, P, NoParent, HasChild, StoreHistory, Table, TableHistory, TableRow, Value}
use Rattle.dml_versions.specs.Versions.{updates_in, versions_now}
use Rattle.sql_model.specs.declared.table.Foreign.{Foreign}

-- ---- the first of two causes

pub or-case : {X : Type 0} (a b : Option X) (x : X) → option_or a b ≡ Some x → (a ≡ Some x) ⊎ ((a ≡ None) × (b ≡ Some x))
or-case None b x is = inr (refl, is)
or-case (Some y) b x is = inl is

-- ---- a parent that is missing, or a child that loses its own

abbrev pub refs_stop : Option MissingParent → Option Orphan → Option StoreStop
refs_stop missing orphan = option_or (option_map parent_stop missing) (option_map child_stop orphan)

pub refs-none : (m : Option MissingParent) (o : Option Orphan) → refs_stop m o ≡ None → refs_of m o ≡ None
refs-none None None is = refl
refs-none None (Some o) is = cc
refs-none (Some m) o is = cc

pub refs-null : (m : Option MissingParent) (o : Option Orphan) → refs_stop m o ≡ Some stop.NotNull → ⊥
refs-null None None is = cc
refs-null None (Some o) is = cc
refs-null (Some m) o is = cc

pub refs-key : (m : Option MissingParent) (o : Option Orphan) (earlier later : Option ℕ) (key : List Value)
    → refs_stop m o ≡ Some (stop.KeyTaken earlier later key) → ⊥
refs-key None None earlier later key is = cc
refs-key None (Some o) earlier later key is = cc
refs-key (Some m) o earlier later key is = cc

pub refs-full : (m : Option MissingParent) (o : Option Orphan) → refs_stop m o ≡ Some stop.Full → ⊥
refs-full None None is = cc
refs-full None (Some o) is = cc
refs-full (Some m) o is = cc

pub refs-parent : (m : Option MissingParent) (o : Option Orphan) (table : List ℕ) (key : List Value)
    → refs_stop m o ≡ Some (stop.NoParent table key) → refs_of m o ≡ Some (NoParent table key)
refs-parent None None table key is = cc
refs-parent None (Some o) table key is = cc
refs-parent (Some m) o table key is =
    let t : m.parent ≡ table = cc in
    let k : m.key ≡ key = cc in
    λ j. Some (NoParent (t j) (k j))

-- the child that refuses
pub record IsChild (m : Option MissingParent) (o : Option Orphan) (table : List ℕ) (row : ℕ) (key : List Value) : Type 0 where
  pub orphan : Orphan
  pub is : o ≡ Some orphan
  pub table_is : orphan.table ≡ table
  pub row_is : orphan.row ≡ row
  pub refusal : refs_of m o ≡ Some (HasChild table key)

pub refs-child : (m : Option MissingParent) (o : Option Orphan) (table : List ℕ) (row : ℕ) (key : List Value)
    → refs_stop m o ≡ Some (stop.HasChild table row key) → IsChild m o table row key
refs-child None None table row key is = cc
refs-child None (Some o) table row key is =
    let t : o.table ≡ table = cc in
    let r : o.row ≡ row = cc in
    let k : o.key ≡ key = cc in
    record { orphan = o; is = refl; table_is = t; row_is = r; refusal = λ j. Some (HasChild (t j) (k j)) }
refs-child (Some m) o table row key is = cc

-- ---- the rows that a change leaves alone

module _ (has other : TableRow → Bool) (name : List ℕ) where
  children_after : (t : Table) → is_table name t ≡ true → (ts : List Table) → list_all (table_precedes t) ts ≡ true
      → children has name ts ≡ children other name ts
  children_after t named [] after = refl
  children_after t named (u ∷ us) after =
      let both = and-parts (table_precedes t u) (list_all (table_precedes t) us) after in
      let differs : is_table name u ≡ false = ap (same_text u.name) (sym (bytes_eq-true t.name name named)) ∙ more-differs t.name u.name both.0 in
      rw differs (ap (λ (l : List Child). map (child_of u) u.rows ++ l) (children_after t named us both.1))

  -- they are the same by tests that agree on the rows of the table of the name
  pub children-same : (t : Table) → filter (λ row. not (has row)) t.rows ≡ filter (λ row. not (other row)) t.rows
      → (ts : List Table) → find (is_table name) ts ≡ Some t → is_strictly_sorted table_precedes ts ≡ true
      → children has name ts ≡ children other name ts
  children-same t same [] found sorted = refl
  children-same t same (u ∷ us) found sorted = elim (cases-bool (is_table name u)) [
    | inl hit ↦
        let e : Some u ≡ Some t = rw hit at found in
        let is : u ≡ t = same-some u t e in
        let here : filter (λ row. not (has row)) u.rows ≡ filter (λ row. not (other row)) u.rows =
        ap (λ (v : Table). filter (λ row. not (has row)) v.rows) is ∙ same ∙ sym (ap (λ (v : Table). filter (λ row. not (other row)) v.rows) is) in
        rw hit (λ j. map (child_of u) (here j) ++ children_after u hit us (sorted-all table_precedes table-trans u us sorted) j)
    | inr miss ↦
        let more : find (is_table name) us ≡ Some t = rw miss at found in
        rw miss (ap (λ (l : List Child). map (child_of u) u.rows ++ l) (children-same t same us more (sorted-tail table_precedes table-trans u us sorted)))
  ]

-- tests that agree on rows
pub others-agree : (p q : TableRow → Bool) (rows : List TableRow) → AllByRecursion (λ row. p row ≡ q row) rows
    → filter (λ row. not (p row)) rows ≡ filter (λ row. not (q row)) rows
others-agree p q [] all = refl
others-agree p q (row ∷ rows) all =
    λ j. cond (not (all.0 j)) (row ∷ others-agree p q rows all.1 j) (others-agree p q rows all.1 j)

-- ---- where no key is lost

module _ (target : List ℕ) (lost : List Value → Bool) (never : (key : List Value) → lost key ≡ false) where
  none_by : (child : Child) (foreign : Foreign) (o : Option (List Value)) → orphan_by target lost child foreign o ≡ None
  none_by child foreign None = refl
  none_by child foreign (Some key) =
      ap (λ (b : Bool). if b then Some (record { table = child.table; row = child.row.number; key = key }) else None)
      (ap (λ (b : Bool). same_text foreign.parent target && b) (never key) ∙ and-false (same_text foreign.parent target))

  none_of : (child : Child) (foreigns : List Foreign)
      → filter_map (λ foreign. orphan_by target lost child foreign (reference foreign child.row.values)) foreigns ≡ []
  none_of child [] = refl
  none_of child (foreign ∷ foreigns) =
      λ j. cons_option (none_by child foreign (reference foreign child.row.values) j) (none_of child foreigns j)

  none_among : (all : List Child) → flat_map (orphans_of target lost) all ≡ []
  none_among [] = refl
  none_among (child ∷ all) = λ j. none_of child child.foreign j ++ none_among all j

-- rows that are added lose no key
pub added-childless : (has : TableRow → Bool) (t after : Table) (new : List TableRow) → after.rows ≡ t.rows ++ new → (db : List Table)
    → first_in (orphans has t after db) ≡ None
added-childless has t after new is db =
    ap first_in (none_among t.name (is_lost t.schema.key t.rows after.rows) never (children has t.name db))
  where
    kept : (a b : Bool) → (a && not (a || b)) ≡ false
    kept true b = refl
    kept false b = refl

    never : (key : List Value) → is_lost t.schema.key t.rows after.rows key ≡ false
    never key =
        ap (λ (rows : List TableRow). list_any (has_key t.schema.key key) t.rows && not (list_any (has_key t.schema.key key) rows)) is
        ∙ ap (λ (b : Bool). list_any (has_key t.schema.key key) t.rows && not b) (list_any-append (has_key t.schema.key key) t.rows new)
        ∙ kept (list_any (has_key t.schema.key key) t.rows) (list_any (has_key t.schema.key key) new)

-- ---- the first child is a row that is there

abbrev holds_row : List Table → Child → Bool
holds_row db child = list_any (has_row child.table child.row.number) db

module _ (all : List Table) where
  each_row : (t : Table) → ((number : ℕ) → list_any (λ (row : TableRow). row.number == number) t.rows ≡ true → list_any (has_row t.name number) all ≡ true)
      → (rows : List TableRow) → ((number : ℕ) → list_any (λ (row : TableRow). row.number == number) rows ≡ true → list_any (λ (row : TableRow). row.number == number) t.rows ≡ true)
      → list_all (holds_row all) (map (child_of t) rows) ≡ true
  each_row t there [] among = refl
  each_row t there (row ∷ rows) among =
      and-from (list_any (has_row t.name row.number) all) (list_all (holds_row all) (map (child_of t) rows))
      (there row.number (among row.number (or-left (row.number == row.number) (list_any (λ (r : TableRow). r.number == row.number) rows) (bytes_same row.number))))
      (each_row t there rows (λ number is. among number (or-right (row.number == number) (list_any (λ (r : TableRow). r.number == number) rows) is)))
    where
      bytes_same : (n : ℕ) → (n == n) ≡ true
      bytes_same n = eq-eqb n n refl

  some_of : (keep : TableRow → Bool) (number : ℕ) (rows : List TableRow)
      → list_any (λ (row : TableRow). row.number == number) (filter keep rows) ≡ true → list_any (λ (row : TableRow). row.number == number) rows ≡ true
  some_of keep number [] is = is
  some_of keep number (row ∷ rows) is = elim (cases-bool (keep row)) [
    | inl stays ↦
        let parts : ((row.number == number) || list_any (λ (r : TableRow). r.number == number) (filter keep rows)) ≡ true = rw stays at is in
        elim (or-cases (row.number == number) (list_any (λ (r : TableRow). r.number == number) (filter keep rows)) parts) [
          | inl here ↦ or-left (row.number == number) (list_any (λ (r : TableRow). r.number == number) rows) here
          | inr more ↦ or-right (row.number == number) (list_any (λ (r : TableRow). r.number == number) rows) (some_of keep number rows more)
        ]
    | inr goes ↦ or-right (row.number == number) (list_any (λ (r : TableRow). r.number == number) rows) (some_of keep number rows (rw goes at is))
  ]

  others_hold : (has : TableRow → Bool) (target : List ℕ) (t : Table)
      → ((number : ℕ) → list_any (λ (row : TableRow). row.number == number) t.rows ≡ true → list_any (has_row t.name number) all ≡ true)
      → list_all (holds_row all) (map (child_of t) (other_rows has target t)) ≡ true
  others_hold has target t there = elim (cases-bool (is_table target t)) [
    | inl hit ↦ rw hit (each_row t there (filter (λ row. not (has row)) t.rows) (λ number is. some_of (λ row. not (has row)) number t.rows is))
    | inr miss ↦ rw miss (each_row t there t.rows (λ number is. is))
  ]

  children_hold : (has : TableRow → Bool) (target : List ℕ) (ts : List Table)
      → ((name : List ℕ) (number : ℕ) → list_any (has_row name number) ts ≡ true → list_any (has_row name number) all ≡ true)
      → list_all (holds_row all) (children has target ts) ≡ true
  children_hold has target [] among = refl
  children_hold has target (t ∷ ts) among =
      list_all-append (holds_row all) (map (child_of t) (other_rows has target t)) (children has target ts)
      ∙ and-from (list_all (holds_row all) (map (child_of t) (other_rows has target t))) (list_all (holds_row all) (children has target ts))
      (others_hold has target t (λ number is. among t.name number
      (or-left (has_row t.name number t) (list_any (has_row t.name number) ts)
      (and-from (is_table t.name t) (list_any (λ (row : TableRow). row.number == number) t.rows) (bytes_eq-itself t.name) is))))
      (children_hold has target ts (λ name number is. among name number (or-right (has_row name number t) (list_any (has_row name number) ts) is)))

  pub orphan-there : (has : TableRow → Bool) (before after : Table) (orphan : Orphan) → first_in (orphans has before after all) ≡ Some orphan
      → list_any (has_row orphan.table orphan.row) all ≡ true
  orphan-there has before after orphan is =
      first_holds (holds_row all) (λ (o : Orphan). list_any (has_row o.table o.row) all) before.name (is_lost before.schema.key before.rows after.rows)
      (λ child o of j. list_any (has_row (of.0 j) (of.1 j)) all)
      (children has before.name all) (children_hold has before.name all (λ name number there. there)) orphan is

-- the row is in the table that is found by the name
row_after : (name : List ℕ) (number : ℕ) (t : Table) → is_table name t ≡ true → (ts : List Table) → list_all (table_precedes t) ts ≡ true
    → list_any (has_row name number) ts ≡ false
row_after name number t named [] after = refl
row_after name number t named (u ∷ us) after =
    let both = and-parts (table_precedes t u) (list_all (table_precedes t) us) after in
    let differs : is_table name u ≡ false = ap (same_text u.name) (sym (bytes_eq-true t.name name named)) ∙ more-differs t.name u.name both.0 in
    λ j. (differs j && list_any (λ (row : TableRow). row.number == number) u.rows) || row_after name number t named us both.1 j

pub row-there : (name : List ℕ) (number : ℕ) (db : List Table) → is_strictly_sorted table_precedes db ≡ true
    → list_any (has_row name number) db ≡ true → IsRowThere db name number
row-there name number [] sorted is = absurd (false≢true is)
row-there name number (t ∷ ts) sorted is = elim (cases-bool (is_table name t)) [
  | inl hit ↦
      elim (or-cases (has_row name number t) (list_any (has_row name number) ts) is) [
        | inl here ↦ record {
          table = t;
          found = ap (λ (b : Bool). cond b (Some t) (find (is_table name) ts)) hit;
          has = (and-parts (is_table name t) (list_any (λ (row : TableRow). row.number == number) t.rows) here).1;
        }
        | inr later ↦ absurd (false≢true (sym (row_after name number t hit ts (sorted-all table_precedes table-trans t ts sorted)) ∙ later))
      ]
  | inr miss ↦
      let later : list_any (has_row name number) ts ≡ true = rw miss at is in
      let more = row-there name number ts (sorted-tail table_precedes table-trans t ts sorted) later in
      record {
        table = more.table;
        found = ap (λ (b : Bool). cond b (Some t) (find (is_table name) ts)) miss ∙ more.found;
        has = more.has;
      }
]

-- ---- parents at their versions

pub at-version : (store : StoreHistory) (m : Member) → IsAtVersion store m → versions_now store m.table m.row ≡ m.version
at-version store m is = by (history_at m.table store) is
  where
    by : (o : Option TableHistory) → option_and_then (λ (h : TableHistory). version_now (history_of_row m.row h.slots)) o ≡ Some m.version
        → updates_in m.row o ≡ m.version
    by None wrong = cc
    by (Some h) there = updates-are (history_of_row m.row h.slots) m.version there

parents_read : (store : StoreHistory) (origins : List Origin) → AllByRecursion (IsAtVersion store) (map (origin_now store) origins)
    → map (need_by P) (map (origin_now store) origins) ≡ map (read_of (versions_now store)) (map (needed_by P) origins)
parents_read store [] all = refl
parents_read store (o ∷ os) all =
    let version : version_at store o.table o.row ≡ versions_now store o.table o.row = sym (at-version store (origin_now store o) all.0) in
    λ j. record { member = record { table = o.table; row = o.row; version = version j }; rule = P } ∷ parents_read store os all.1 j

-- the needs that are made of parents
pub with-parents : (store : StoreHistory) (rows : List TableRow) (needs all : List Need) (members : List Member) (own : Table)
    → members ≡ parents_now store rows own → AllByRecursion (IsAtVersion store) members → all ≡ with_parent_rows members needs
    → all ≡ union_of_needs needs (needs_in_order (parent_needs store rows own))
with-parents store rows needs all members own same versions is =
    is ∙ ap (λ (ns : List Need). union_of_needs needs (needs_in_order ns))
    (ap (map (need_by P)) same
    ∙ parents_read store (parents_in_db rows (tables_now store) own) (subst (AllByRecursion (IsAtVersion store)) same versions))

-- ---- parents by what tables become

-- the rows and the schema of the table that is changed are all that parents hang on
module _ (name : List ℕ) (f g : Table → Table) (f_named : (t : Table) → (f t).name ≡ t.name) (g_named : (t : Table) → (g t).name ≡ t.name) where
  abbrev in_one : (Table → Table) → Table → Table
  in_one change table = if is_table name table then change table else table

  one_named : (change : Table → Table) → ((t : Table) → (change t).name ≡ t.name) → (t : Table) → (in_one change t).name ≡ t.name
  one_named change kept t = elim (cases-bool (is_table name t)) [
    | inl hit ↦ rw hit (kept t)
    | inr miss ↦ rw miss refl
  ]

  found_one : (change : Table → Table) → ((t : Table) → (change t).name ≡ t.name) → (other : List ℕ) (db : List Table)
      → table_at other (with_changed name change db) ≡ option_map (in_one change) (table_at other db)
  found_one change kept other [] = refl
  found_one change kept other (t ∷ ts) =
      let same : is_table other (in_one change t) ≡ is_table other t = ap (λ (n : List ℕ). same_text n other) (one_named change kept t) in
      elim (cases-bool (is_table other t)) [
        | inl hit ↦ rw (same ∙ hit, hit) refl
        | inr miss ↦ rw (same ∙ miss, miss) (found_one change kept other ts)
      ]

  module _ (db : List Table) (t : Table) (found : table_at name db ≡ Some t) (schema : (f t).schema ≡ (g t).schema) (rows : (f t).rows ≡ (g t).rows) where
    same_parents : (foreign : Foreign) (r : Option (List Value)) (u : Table) → table_at foreign.parent db ≡ Some u
        → parents_in (Some u) (Some (in_one f u)) foreign r ≡ parents_in (Some u) (Some (in_one g u)) foreign r
    same_parents foreign None u is = refl
    same_parents foreign (Some key) u is = elim (cases-bool (is_table name u)) [
      | inl hit ↦
          let own : u.name ≡ name = bytes_eq-true u.name name hit in
          let parent : u.name ≡ foreign.parent = bytes_eq-true u.name foreign.parent (found-passes (is_table foreign.parent) db u is) in
          let same : u ≡ t = same-some u t (sym is ∙ ap (λ (n : List ℕ). table_at n db) (sym parent ∙ own) ∙ found) in
          rw hit (
          (λ j. map (λ (row : TableRow). record { table = foreign.parent; row = row.number })
          (filter (λ row. has_key (f (same j)).schema.key key row && had_row u row) (f (same j)).rows))
          ∙ (λ j. map (λ (row : TableRow). record { table = foreign.parent; row = row.number })
          (filter (λ row. has_key (schema j).key key row && had_row u row) (rows j)))
          ∙ (λ j. map (λ (row : TableRow). record { table = foreign.parent; row = row.number })
          (filter (λ row. has_key (g (sym same j)).schema.key key row && had_row u row) (g (sym same j)).rows))
          )
      | inr miss ↦ rw miss refl
    ]

    same_by : (values : List Value) (foreign : Foreign)
        → parents_by db (with_changed name f db) values foreign ≡ parents_by db (with_changed name g db) values foreign
    same_by values foreign =
        ap (λ (o : Option Table). parents_in (table_at foreign.parent db) o foreign (reference foreign values)) (found_one f f_named foreign.parent db)
        ∙ by (table_at foreign.parent db) refl
        ∙ sym (ap (λ (o : Option Table). parents_in (table_at foreign.parent db) o foreign (reference foreign values)) (found_one g g_named foreign.parent db))
      where
        none : (r : Option (List Value)) → parents_in None None foreign r ≡ parents_in None None foreign r
        none r = refl

        by : (o : Option Table) → table_at foreign.parent db ≡ o
            → parents_in o (option_map (in_one f) o) foreign (reference foreign values) ≡ parents_in o (option_map (in_one g) o) foreign (reference foreign values)
        by None is = none (reference foreign values)
        by (Some u) is = same_parents foreign (reference foreign values) u is

    pub parents-same : (foreigns : List Foreign) (given : List TableRow)
        → parents_of db (with_changed name f db) foreigns given ≡ parents_of db (with_changed name g db) foreigns given
    parents-same foreigns given =
        λ j. flat_map (λ (row : TableRow). flat_map (λ (foreign : Foreign). same_by row.values foreign j) foreigns) given

-- ---- the version of a row that is there

pub none-held : (store : StoreHistory) (name : List ℕ) (number : ℕ) → history_at name store ≡ None → IsRowThere (tables_now store) name number → ⊥
none-held store name number none there =
    none-some there.table (sym (table-found name store ∙ ap (option_map table_now) none) ∙ there.found)

pub held-version : (store : StoreHistory) (name : List ℕ) (number : ℕ) (h : TableHistory) → history_at name store ≡ Some h
    → AreInOrder h.slots (last_next_number h.nexts) → IsRowThere (tables_now store) name number
    → version_of h.slots number ≡ versions_now store name number
held-version store name number h found order there =
    let same : table_now h ≡ there.table = same-some (table_now h) there.table (sym (table-now name store h found) ∙ there.found) in
    let stands = number-stands h.slots (last_next_number h.nexts) order number (ap (λ (t : Table). has_number t number) same ∙ there.has) in
    version-is h.slots number stands ∙ sym (ap (updates_in number) found)
