-- No child loses a parent in a table without a key, since no foreign key refers to that table.
use Rattle.std.proofs.Common.{◌≡◌, ℕ, List, [], ◌∷◌, ◌++◌, refl, sym, ap, ◌∙◌, Bool, true, false}
use Rattle.std.specs.Prelude.{Option, Some, None, option_map, map, zip, length, not, ◌&&◌, ◌==◌}
use Rattle.std.specs.List.{flat_map, filter_map, list_all, cons_option}
use Rattle.std.proofs.lemmas.Grind.{flat_map-append}
use Rattle.std.proofs.lemmas.Bool.{not-true}
use Rattle.ldv_value.proofs.Booleans.{and-parts, true≢false}
use Rattle.ldv_value.proofs.Lists.{list_all-map, list_all-weaker}
use Rattle.ldv_value.proofs.SameBytes.{bytes_eq-true}
use Rattle.sql_model.proofs.Equations.{table_schema, schema_found}
use Rattle.sql_model.specs.ForeignKeys.{fits_place, fits_parent, has_parents, have_parents}
use Rattle.sql_model.specs.References.{reference, Child, orphan_by, orphans_of, other_rows, child_of, children}
use Rattle.sql_model.specs.Scope.{same_text, table_at, schema_at, catalog_of}
use Rattle.sql_model.specs.Types.{Value, Foreign, Table, TableRow}

-- ---- no child loses a parent without a key

abbrev pub is_elsewhere : List ℕ → Foreign → Bool
is_elsewhere target foreign = not (same_text foreign.parent target)

-- none of the table's foreign keys has the target for its parent
abbrev pub all_elsewhere : List ℕ → Table → Bool
all_elsewhere target t = list_all (is_elsewhere target) t.schema.foreign

module _ (target : List ℕ) (lost : List Value → Bool) where
  no_orphan_by : (child : Child) (foreign : Foreign) (o : Option (List Value)) → is_elsewhere target foreign ≡ true
      → orphan_by target lost child foreign o ≡ None
  no_orphan_by child foreign None away = refl
  no_orphan_by child foreign (Some key) away =
      let other : same_text foreign.parent target ≡ false = not-true (same_text foreign.parent target) away in
      rw other refl

  no_orphan_of : (child : Child) (foreigns : List Foreign) → list_all (is_elsewhere target) foreigns ≡ true
      → filter_map (λ foreign. orphan_by target lost child foreign (reference foreign child.row.values)) foreigns ≡ []
  no_orphan_of child [] away = refl
  no_orphan_of child (foreign ∷ foreigns) away =
      let both = and-parts (is_elsewhere target foreign) (list_all (is_elsewhere target) foreigns) away in
      λ j. cons_option (no_orphan_by child foreign (reference foreign child.row.values) both.0 j) (no_orphan_of child foreigns both.1 j)

  no_orphan_in : (t : Table) → all_elsewhere target t ≡ true → (rows : List TableRow) → flat_map (orphans_of target lost) (map (child_of t) rows) ≡ []
  no_orphan_in t away [] = refl
  no_orphan_in t away (row ∷ rows) = λ j. no_orphan_of (child_of t row) t.schema.foreign away j ++ no_orphan_in t away rows j

  pub no_orphans : (has : TableRow → Bool) (db : List Table) → list_all (all_elsewhere target) db ≡ true
      → flat_map (orphans_of target lost) (children has target db) ≡ []
  no_orphans has [] away = refl
  no_orphans has (t ∷ ts) away =
      let both = and-parts (all_elsewhere target t) (list_all (all_elsewhere target) ts) away in
      flat_map-append (orphans_of target lost) (map (child_of t) (other_rows has target t)) (children has target ts)
      ∙ (λ j. no_orphan_in t both.0 (other_rows has target t) j ++ no_orphans has ts both.1 j)

-- ---- by the schemas

-- no table has a foreign key whose parent has no key
pub elsewhere : (db : List Table) (t : Table) → have_parents (catalog_of db) ≡ true → table_at t.name db ≡ Some t
    → (length t.schema.key == 0) ≡ true → list_all (all_elsewhere t.name) db ≡ true
elsewhere db t parents found bare =
    let schema : schema_at t.name (catalog_of db) ≡ Some t.schema = schema_found t.name db ∙ ap (option_map table_schema) found in
    list_all-weaker (λ (u : Table). has_parents (catalog_of db) u.schema) (all_elsewhere t.name)
    (λ u fits. list_all-weaker (λ (f : Foreign). fits_parent u.schema.columns f (schema_at f.parent (catalog_of db))) (is_elsewhere t.name)
    (λ f fit. away u f schema fit (same_text f.parent t.name) refl) u.schema.foreign fits)
    db (sym (list_all-map (has_parents (catalog_of db)) table_schema db) ∙ parents)
  where
    away : (u : Table) (f : Foreign) → schema_at t.name (catalog_of db) ≡ Some t.schema
        → fits_parent u.schema.columns f (schema_at f.parent (catalog_of db)) ≡ true
        → (b : Bool) → same_text f.parent t.name ≡ b → is_elsewhere t.name f ≡ true
    away u f schema fit false other = ap not other
    away u f schema fit true same =
        let named : f.parent ≡ t.name = bytes_eq-true f.parent t.name same in
        let there : schema_at f.parent (catalog_of db) ≡ Some t.schema = ap (λ (n : List ℕ). schema_at n (catalog_of db)) named ∙ schema in
        let fits : fits_parent u.schema.columns f (Some t.schema) ≡ true = sym (ap (fits_parent u.schema.columns f) there) ∙ fit in
        let two = and-parts (not (length t.schema.key == 0) && (length f.columns == length t.schema.key)) (list_all (fits_place u.schema.columns t.schema.columns) (zip f.columns t.schema.key)) fits in
        let one = and-parts (not (length t.schema.key == 0)) (length f.columns == length t.schema.key) two.0 in
        absurd (true≢false (sym one.0 ∙ ap not bare))
