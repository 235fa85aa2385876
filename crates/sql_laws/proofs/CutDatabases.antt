-- A database without some rows and tables is a database.
use Rattle.std.proofs.Common.{◌≡◌, ℕ, List, [], ◌∷◌, refl, sym, ap, ◌∙◌, Bool, true, inl, inr}
use Rattle.std.specs.Prelude.{filter, ◌&&◌}
use Rattle.std.specs.List.{list_any, list_all}
use Rattle.ldv_value.proofs.Booleans.{and-parts, and-from, or-left, or-right}
use Rattle.ldv_value.proofs.Cases.{cases-bool}
use Rattle.ldv_value.proofs.SameBytes.{bytes_eq-itself}
use Rattle.ldv_value.proofs.Lists.{list_all-filter, list_all-map, list_all-weaker, sorted-map}
use Rattle.ldv_value.specs.Sorted.{is_strictly_sorted}
use Rattle.sql_laws.specs.QueryLaw.{Keep, stays, cut_table, cut_tables}
use Rattle.sql_laws.specs.StatementLaw.{KeepTables, table_stays, cut_database, CutLaw, CutTablesLaw, refers, KeepsParents, CutParentsLaw}
use Rattle.sql_laws.specs.Types.{Foreign, Table}
use Rattle.sql_model.proofs.Databases.{tables_of_database, parents_of_database, database-from, valid_of_tables, sorted_of_tables}
use Rattle.sql_model.proofs.Equations.{table_schema}
use Rattle.sql_model.proofs.NewNumbers.{numbers-filter}
use Rattle.sql_model.proofs.SortedLists.{sorted-filter}
use Rattle.sql_laws.proofs.TableNames.{table-trans}
use Rattle.sql_model.proofs.UniqueKeys.{unique-fewer}
use Rattle.sql_model.proofs.ValidTables.{TableParts, table-parts, table-from}
use Rattle.sql_model.specs.ForeignKeys.{fits_parent, has_parents, have_parents}
use Rattle.sql_model.specs.Scope.{same_text, schema_at, catalog_of}
use Rattle.sql_model.specs.Tables.{is_row, is_valid_table, table_precedes, are_tables, is_database, is_described}
use Rattle.sql_laws.proofs.FewerTables.{found_kept, schema_same}
use Rattle.sql_laws.proofs.QueryCombinations.{catalog_same}

module _ (tables : KeepTables) (keep : Keep) where
  cut_valid : (t : Table) → is_valid_table t ≡ true → is_valid_table (cut_table keep t) ≡ true
  cut_valid t valid =
      let parts : TableParts t = table-parts t valid in
      table-from (cut_table keep t) (record {
        next = parts.next;
        numbers = numbers-filter (stays keep t) t.next t.rows parts.numbers;
        rows = list_all-filter (λ row. is_row t.schema.columns row.values) (stays keep t) t.rows parts.rows;
        keys = unique-fewer t.schema.key (stays keep t) t.rows parts.keys;
      })

  all_cut : (test : Table → Bool) → ((t : Table) → test t ≡ true → test (cut_table keep t) ≡ true) → (db : List Table)
      → list_all test db ≡ true
      → list_all test (cut_database tables keep db) ≡ true
  all_cut test holds db all =
      list_all-filter test (table_stays tables) (cut_tables keep db)
      (list_all-map test (cut_table keep) db ∙ list_all-weaker test (λ t. test (cut_table keep t)) holds db all)

  cut_tables_valid : (db : List Table) → are_tables db ≡ true → are_tables (cut_database tables keep db) ≡ true
  cut_tables_valid db valid =
      and-from (list_all is_valid_table (cut_database tables keep db)) (is_strictly_sorted table_precedes (cut_database tables keep db))
      (all_cut is_valid_table cut_valid db (valid_of_tables db valid))
      (sorted-filter table_precedes table-trans (table_stays tables) (cut_tables keep db)
      (sorted-map table_precedes table_precedes (cut_table keep) (λ a b. refl) db ∙ sorted_of_tables db valid))

  cut_database_valid : (db : List Table) → is_database db ≡ true → have_parents (catalog_of (cut_database tables keep db)) ≡ true
      → is_database (cut_database tables keep db) ≡ true
  cut_database_valid db valid parents =
      database-from (cut_database tables keep db) (cut_tables_valid db (tables_of_database db valid)) parents

pub cut_law : CutLaw
cut_law tables keep db valid parents = cut_database_valid tables keep db valid parents

pub cut_tables_law : CutTablesLaw
cut_tables_law tables keep db valid parents =
    let both = and-parts (is_database db) (list_all is_described db) valid in
    and-from (is_database (cut_database tables keep db)) (list_all is_described (cut_database tables keep db))
    (cut_database_valid tables keep db both.0 parents)
    (all_cut tables keep is_described (λ t is. is) db both.1)

-- ---- where the parents of each table that stays do

module _ (tables : KeepTables) (keep : Keep) (db : List Table) (valid : is_database db ≡ true) (stay : KeepsParents tables db) where
  abbrev small : List Table
  small = cut_database tables keep db

  schema_kept : (name : List ℕ) → tables name ≡ true → schema_at name (catalog_of small) ≡ schema_at name (catalog_of db)
  schema_kept name stays =
      schema_same tables name (cut_tables keep db) (found_kept tables name (cut_tables keep db) (λ there. stays))
      ∙ ap (schema_at name) (catalog_same keep db)

  foreign_fits : (t : Table) (fs : List Foreign) → ((f : Foreign) → list_any (λ (g : Foreign). same_text g.parent f.parent) fs ≡ true → tables f.parent ≡ true)
      → list_all (λ (f : Foreign). fits_parent t.schema.columns f (schema_at f.parent (catalog_of db))) fs ≡ true
      → list_all (λ (f : Foreign). fits_parent t.schema.columns f (schema_at f.parent (catalog_of small))) fs ≡ true
  foreign_fits t [] kept all = refl
  foreign_fits t (f ∷ fs) kept all =
      let rest : Bool = list_all (λ (g : Foreign). fits_parent t.schema.columns g (schema_at g.parent (catalog_of db))) fs in
      let both = and-parts (fits_parent t.schema.columns f (schema_at f.parent (catalog_of db))) rest all in
      let stays : tables f.parent ≡ true = kept f (or-left (same_text f.parent f.parent) (list_any (λ (g : Foreign). same_text g.parent f.parent) fs) (bytes_eq-itself f.parent)) in
      let here : fits_parent t.schema.columns f (schema_at f.parent (catalog_of small)) ≡ true = ap (fits_parent t.schema.columns f) (schema_kept f.parent stays) ∙ both.0 in
      λ j. here j && foreign_fits t fs (λ g is. kept g (or-right (same_text f.parent g.parent) (list_any (λ (h : Foreign). same_text h.parent g.parent) fs) is)) both.1 j

  tables_fit : (ts : List Table) → ((child parent : List ℕ) → refers ts child parent ≡ true → tables child ≡ true → tables parent ≡ true)
      → list_all (λ (t : Table). has_parents (catalog_of db) t.schema) ts ≡ true
      → list_all (λ (t : Table). has_parents (catalog_of small) t.schema) (filter (table_stays tables) (cut_tables keep ts)) ≡ true
  tables_fit [] kept all = refl
  tables_fit (t ∷ ts) kept all =
      let both = and-parts (has_parents (catalog_of db) t.schema) (list_all (λ (u : Table). has_parents (catalog_of db) u.schema) ts) all in
      let more : list_all (λ (u : Table). has_parents (catalog_of small) u.schema) (filter (table_stays tables) (cut_tables keep ts)) ≡ true =
      tables_fit ts (λ child parent is. kept child parent (or-right (same_text t.name child && list_any (λ (f : Foreign). same_text f.parent parent) t.schema.foreign) (refers ts child parent) is)) both.1 in
      elim (cases-bool (tables t.name)) [
        | inl stays ↦
            let here : has_parents (catalog_of small) t.schema ≡ true = foreign_fits t t.schema.foreign
            (λ f is. kept t.name f.parent (or-left (same_text t.name t.name && list_any (λ (g : Foreign). same_text g.parent f.parent) t.schema.foreign) (refers ts t.name f.parent) (λ j. bytes_eq-itself t.name j && is j)) stays) both.0 in
            rw stays (λ j. here j && more j)
        | inr goes ↦ rw goes more
      ]

  parents_stay : have_parents (catalog_of small) ≡ true
  parents_stay =
      list_all-map (has_parents (catalog_of small)) table_schema small
      ∙ tables_fit db stay (sym (list_all-map (has_parents (catalog_of db)) table_schema db) ∙ parents_of_database db valid)

pub cut_parents_law : CutParentsLaw
cut_parents_law tables keep db valid stay = parents_stay tables keep db valid stay
