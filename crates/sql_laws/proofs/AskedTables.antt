-- A statement asks the parents of each table that it asks, and each table with a row that it needs.
use Rattle.std.proofs.Common.{◌≡◌, ℕ, List, [], ◌∷◌, refl, sym, ap, ◌∙◌, Bool, true, false, inl, inr}
use Rattle.std.specs.Prelude.{Option, Some, None, option_map, map, filter, ◌&&◌, ◌||◌}
use Rattle.std.specs.List.{list_any, list_all}
use Rattle.ldv_value.proofs.Booleans.{and-parts, or-cases, or-left, or-right, true≢false}
use Rattle.ldv_value.proofs.Cases.{cases-bool}
use Rattle.ldv_value.proofs.Lists.{list_any-append, list_all-map, found-all}
use Rattle.ldv_value.proofs.SameBytes.{bytes_eq-true, bytes_eq-itself}
use Rattle.sql_model.proofs.Databases.{parents_of_database, sorted_of_database}
use Rattle.sql_model.proofs.Equations.{need_is, table_schema, schema_found}
use Rattle.sql_model.proofs.SortedLists.{sorted-all, sorted-tail}
use Rattle.ldv_value.specs.Sorted.{is_strictly_sorted}
use Rattle.sql_model.specs.ForeignKeys.{fits_parent, has_parents, have_parents}
use Rattle.sql_model.specs.Needs.{NeededRow, need_of, first_names, asked_names, is_asked, table_name}
use Rattle.sql_model.specs.Refusals.{tables_of}
use Rattle.sql_model.specs.Scope.{same_text, is_table, table_at, schema_at, catalog_of}
use Rattle.sql_model.specs.Tables.{table_precedes}
use Rattle.sql_laws.specs.StatementLaw.{refers, asks, AskedParentsLaw, AskedNeedsLaw}
use Rattle.sql_laws.specs.Types.{Foreign, Table}
use Rattle.sql_laws.proofs.FewerTables.{found_there}
use Rattle.sql_laws.proofs.ParentTables.{named_taken, parent_taken}
use Rattle.sql_laws.proofs.TableNames.{table-trans, more-differs}

-- ---- what is asked is named

-- a table that is there and named is asked
asked_of : (names : List (List ℕ)) (db : List Table) (name : List ℕ) → list_any (is_table name) db ≡ true
    → list_any (same_text name) names ≡ true
    → list_any (same_text name) (map table_name (filter (is_asked names) db)) ≡ true
asked_of names [] name there named = cc
asked_of names (t ∷ ts) name there named =
    let rest : List (List ℕ) = map table_name (filter (is_asked names) ts) in
    elim (cases-bool (is_table name t)) [
      | inl hit ↦
          let same : t.name ≡ name = bytes_eq-true t.name name hit in
          let asked : is_asked names t ≡ true = ap (λ (n : List ℕ). list_any (same_text n) names) same ∙ named in
          let self : same_text name t.name ≡ true = ap (same_text name) same ∙ bytes_eq-itself name in
          rw asked (or-left (same_text name t.name) (list_any (same_text name) rest) self)
      | inr miss ↦
          let later : list_any (is_table name) ts ≡ true = rw miss at there in
          let more : list_any (same_text name) rest ≡ true = asked_of names ts name later named in
          elim (cases-bool (is_asked names t)) [
            | inl asked ↦ rw asked (or-right (same_text name t.name) (list_any (same_text name) rest) more)
            | inr unasked ↦ rw unasked more
          ]
    ]

-- what is asked is named
named_of_asked : (names : List (List ℕ)) (db : List Table) (name : List ℕ)
    → list_any (same_text name) (map table_name (filter (is_asked names) db)) ≡ true
    → list_any (same_text name) names ≡ true
named_of_asked names [] name asked = cc
named_of_asked names (t ∷ ts) name asked =
    let rest : List (List ℕ) = map table_name (filter (is_asked names) ts) in
    elim (cases-bool (is_asked names t)) [
      | inl own ↦
          let all : (same_text name t.name || list_any (same_text name) rest) ≡ true = rw own at asked in
          elim (or-cases (same_text name t.name) (list_any (same_text name) rest) all) [
            | inl here ↦ ap (λ (n : List ℕ). list_any (same_text n) names) (bytes_eq-true name t.name here) ∙ own
            | inr more ↦ named_of_asked names ts name more
          ]
      | inr unasked ↦ let more : list_any (same_text name) rest ≡ true = rw unasked at asked in named_of_asked names ts name more
    ]

-- ---- a table that refers

-- the table of the child's name, which is found by it, refers to the parent
module _ (child parent : List ℕ) where
  abbrev to_parent : Table → Bool
  to_parent t = list_any (λ (f : Foreign). same_text f.parent parent) t.schema.foreign

  abbrev is_child : Table → Bool
  is_child t = same_text t.name child && to_parent t

  none_after : (t : Table) (ts : List Table) → is_table child t ≡ true → list_all (table_precedes t) ts ≡ true
      → list_any is_child ts ≡ false
  none_after t [] named after = refl
  none_after t (u ∷ us) named after =
      let both = and-parts (table_precedes t u) (list_all (table_precedes t) us) after in
      let same : t.name ≡ child = bytes_eq-true t.name child named in
      let differs : is_table child u ≡ false = ap (same_text u.name) (sym same) ∙ more-differs t.name u.name both.0 in
      λ j. (differs j && to_parent u) || none_after t us named both.1 j

  pub child_found : (db : List Table) → is_strictly_sorted table_precedes db ≡ true → refers db child parent ≡ true
      → (t : Table) × (table_at child db ≡ Some t) × (to_parent t ≡ true)
  child_found [] sorted is = cc
  child_found (t ∷ ts) sorted is = elim (cases-bool (is_table child t)) [
    | inl hit ↦
        elim (or-cases (is_child t) (list_any is_child ts) is) [
          | inl here ↦ rw hit (t, refl, (and-parts (is_table child t) (to_parent t) here).1)
          | inr later ↦ absurd (true≢false (sym later ∙ none_after t ts hit (sorted-all table_precedes table-trans t ts sorted)))
        ]
    | inr miss ↦
        let later : list_any is_child ts ≡ true = rw miss at is in
        rw miss (child_found ts (sorted-tail table_precedes table-trans t ts sorted) later)
  ]

-- ---- its parent is there

parent_there : (db : List Table) (t : Table) (parent : List ℕ) → have_parents (catalog_of db) ≡ true
    → (child : List ℕ) → table_at child db ≡ Some t
    → list_any (λ (f : Foreign). same_text f.parent parent) t.schema.foreign ≡ true
    → (p : Table) × (table_at parent db ≡ Some p)
parent_there db t parent parents child found refers =
    let fits : has_parents (catalog_of db) t.schema ≡ true =
    found-all (is_table child) (λ (u : Table). has_parents (catalog_of db) u.schema) db t
    (sym (list_all-map (has_parents (catalog_of db)) table_schema db) ∙ parents) found in
    by t.schema.foreign fits refers
  where
    there : (o : Option Table) (f : Foreign) → table_at parent db ≡ o → f.parent ≡ parent
        → fits_parent t.schema.columns f (schema_at f.parent (catalog_of db)) ≡ true → (p : Table) × (table_at parent db ≡ Some p)
    there (Some p) f is named fit = (p, is)
    there None f is named fit =
        let none : schema_at f.parent (catalog_of db) ≡ None =
        ap (λ (n : List ℕ). schema_at n (catalog_of db)) named ∙ schema_found parent db ∙ ap (option_map table_schema) is in
        let wrong : false ≡ true = sym (ap (fits_parent t.schema.columns f) none) ∙ fit in
        absurd (true≢false (sym wrong))

    by : (fs : List Foreign) → list_all (λ (f : Foreign). fits_parent t.schema.columns f (schema_at f.parent (catalog_of db))) fs ≡ true
        → list_any (λ (f : Foreign). same_text f.parent parent) fs ≡ true → (p : Table) × (table_at parent db ≡ Some p)
    by [] all some = cc
    by (f ∷ fs) all some =
        let both = and-parts (fits_parent t.schema.columns f (schema_at f.parent (catalog_of db)))
        (list_all (λ (g : Foreign). fits_parent t.schema.columns g (schema_at g.parent (catalog_of db))) fs) all in
        elim (or-cases (same_text f.parent parent) (list_any (λ (g : Foreign). same_text g.parent parent) fs) some) [
          | inl here ↦ there (table_at parent db) f refl (bytes_eq-true f.parent parent here) both.0
          | inr more ↦ by fs both.1 more
        ]

-- what is found is there
there_found : (name : List ℕ) (db : List Table) (p : Table) → table_at name db ≡ Some p → list_any (is_table name) db ≡ true
there_found name [] p is = cc
there_found name (t ∷ ts) p is = elim (cases-bool (is_table name t)) [
  | inl hit ↦ or-left (is_table name t) (list_any (is_table name) ts) hit
  | inr miss ↦ or-right (is_table name t) (list_any (is_table name) ts) (there_found name ts p (rw miss at is))
]

-- ---- the laws

pub asked_parents_law : AskedParentsLaw
asked_parents_law None db valid child parent refers asked = cc
asked_parents_law (Some s) db valid child parent refers asked =
    let names : List (List ℕ) = asked_names s db in
    let found = child_found child parent db (sorted_of_database db valid) refers in
    let there = parent_there db found.0 parent (parents_of_database db valid) child found.1 found.2 in
    let named : list_any (same_text child) names ≡ true = named_of_asked names db child asked in
    asked_of names db parent (there_found parent db there.0 there.1)
    (parent_taken (first_names s db) db child parent found.0 there.0 found.1 there.1 found.2 named)

needed_named : (name : List ℕ) (ns : List NeededRow) → list_any (λ need. same_text need.table name) ns ≡ true
    → list_any (same_text name) (map (λ (need : NeededRow). need.table) ns) ≡ true
needed_named name [] is = cc
needed_named name (n ∷ ns) is =
    let rest : List (List ℕ) = map (λ (need : NeededRow). need.table) ns in
    elim (or-cases (same_text n.table name) (list_any (λ (need : NeededRow). same_text need.table name) ns) is) [
      | inl here ↦
          let same : n.table ≡ name = bytes_eq-true n.table name here in
          or-left (same_text name n.table) (list_any (same_text name) rest) (ap (same_text name) same ∙ bytes_eq-itself name)
      | inr more ↦ or-right (same_text name n.table) (list_any (same_text name) rest) (needed_named name ns more)
    ]

pub asked_needs_law : AskedNeedsLaw
asked_needs_law None db name there needed = none (sym (ap (λ (ns : List NeededRow). list_any (λ (need : NeededRow). same_text need.table name) ns) (need_is None db)) ∙ needed)
  where
    none : false ≡ true → asks None db name ≡ true
    none wrong = cc
asked_needs_law (Some s) db name there needed =
    let found = found_there (is_table name) db there in
    let rest : List (List ℕ) = map (λ (need : NeededRow). need.table) (need_of (Some s) db) in
    let first : list_any (same_text name) (first_names s db) ≡ true =
    list_any-append (same_text name) (tables_of s) rest
    ∙ or-right (list_any (same_text name) (tables_of s)) (list_any (same_text name) rest) (needed_named name (need_of (Some s) db) needed) in
    asked_of (asked_names s db) db name there (named_taken (first_names s db) db name found.0 found.1 first)
