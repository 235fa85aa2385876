-- If the foreign keys of two lists of tables have their parents there, they have them in the merged list too,
-- since tables with the same name have the same schema.
use Rattle.std.proofs.Common.{◌≡◌, ℕ, List, [], ◌∷◌, refl, sym, ap, ◌∙◌, true, false, inl, inr}
use Rattle.std.specs.Prelude.{Option, Some, None, option_map}
use Rattle.std.specs.Ordering.{nat_cmp, match_ordering}
use Rattle.std.specs.Cmp.Lexicographic.{slice_cmp}
use Rattle.std.specs.declared.cmp.Ordering.{Ordering}
use Rattle.std.specs.declared.cmp.Ordering.TheVariants.{Less, Equal, Greater}
use Rattle.std.proofs.lemmas.Bool.{cases_Bool}
use Rattle.std.proofs.lemmas.Cmp.{nat_list_cmp_total}
use Rattle.std.proofs.lemmas.Map.Lookups.{exact_bytes}
use Rattle.ldv_value.proofs.Lists.{list_all-map, list_all-weaker}
use Rattle.ldv_value.proofs.Options.{same-some}
use Rattle.ldv_value.proofs.SameBytes.{bytes_eq-true}
use Rattle.sql_model.proofs.Equations.{table_schema, schema_found}
use Rattle.sql_model.specs.ForeignKeys.{fits_parent, has_parents, have_parents}
use Rattle.sql_model.specs.Scope.{same_text, is_table, table_at, schema_at, catalog_of}
use Rattle.sql_model.specs.declared.catalog.Catalog.{Catalog}
use Rattle.sql_model.specs.declared.table.Column.{Column}
use Rattle.sql_model.specs.declared.table.Foreign.{Foreign}
use Rattle.sql_model.specs.declared.table.Schema.{Schema}
use Rattle.run_model.specs.Between.{IsIn}
use Rattle.joined_data.specs.Types.{Table}
use Rattle.joined_data.specs.Joined.{both_tables, merged_tables, table_cmp}
use Rattle.joined_data.proofs.Lists.{all_in, each_of}
use Rattle.joined_data.proofs.MergedLists.{in_merged, IsOf}
use Rattle.joined_data.proofs.PickedTables.{name_of}

-- ---- the schema of a name

module _ (name : List ℕ) where
  here : (t : Table) (ts : List Table) → is_table name t ≡ true → schema_at name (catalog_of (t ∷ ts)) ≡ Some t.schema
  here t ts hit =
      let one : table_at name (t ∷ ts) ≡ Some t = rw hit refl in
      schema_found name (t ∷ ts) ∙ ap (option_map table_schema) one

  passed : (t : Table) (ts : List Table) → is_table name t ≡ false → schema_at name (catalog_of (t ∷ ts)) ≡ schema_at name (catalog_of ts)
  passed t ts miss =
      let one : table_at name (t ∷ ts) ≡ table_at name ts = rw miss refl in
      schema_found name (t ∷ ts) ∙ ap (option_map table_schema) one ∙ sym (schema_found name ts)

  -- it is that of a table
  found : (ts : List Table) (s : Schema) → schema_at name (catalog_of ts) ≡ Some s
      → (t : Table) × (IsIn t ts × ((t.name ≡ name) × (t.schema ≡ s)))
  found [] s is = let never : None ≡ Some s = is in cc
  found (t ∷ ts) s is = elim (cases_Bool (is_table name t)) [
    | inl hit ↦ (t, (inl refl, (bytes_eq-true t.name name hit, same-some t.schema s (sym (here t ts hit) ∙ is))))
    | inr miss ↦ let more = found ts s (sym (passed t ts miss) ∙ is) in (more.0, (inr more.1.0, more.1.1))
  ]

  module _ (s : Schema) where
    abbrev Has : List Table → Type 0
    Has ts = schema_at name (catalog_of ts) ≡ Some s

    -- whichever table has the name
    abbrev Only : List Table → Type 0
    Only ts = (t : Table) → IsIn t ts → is_table name t ≡ true → t.schema ≡ s

    only_later : (t : Table) (ts : List Table) → Only (t ∷ ts) → Only ts
    only_later t ts only u is = only u (inr is)

    has_own : (t : Table) (ts : List Table) → Has (t ∷ ts) → is_table name t ≡ true → t.schema ≡ s
    has_own t ts has hit = same-some t.schema s (sym (here t ts hit) ∙ has)

    has_later : (t : Table) (ts : List Table) → Has (t ∷ ts) → is_table name t ≡ false → Has ts
    has_later t ts has miss = sym (passed t ts miss) ∙ has

    has_more : (t : Table) (ts : List Table) → (is_table name t ≡ true → t.schema ≡ s) → (is_table name t ≡ false → Has ts) → Has (t ∷ ts)
    has_more t ts own rest = elim (cases_Bool (is_table name t)) [
      | inl hit ↦ here t ts hit ∙ ap Some (own hit)
      | inr miss ↦ passed t ts miss ∙ rest miss
    ]

    first_has : (xs ys : List Table) → Has xs → Only ys → Has (merged_tables xs ys)
    first_has [] ys has only = let never : None ≡ Some s = has in cc
    first_has (x ∷ xs) ys has only = inner ys only (λ us few miss. first_has xs us (has_later x xs has miss) few)
      where
        own : is_table name x ≡ true → x.schema ≡ s
        own hit = has_own x xs has hit

        inner : (us : List Table) → Only us → ((vs : List Table) → Only vs → is_table name x ≡ false → Has (merged_tables xs vs))
            → Has (merged_tables (x ∷ xs) us)
        inner [] few later = has_more x (merged_tables xs []) own (λ miss. later [] few miss)
        inner (u ∷ us) few later = by (table_cmp x u) (inner us (only_later u us few) later)
          where
            by : (o : Ordering) → Has (merged_tables (x ∷ xs) us)
                → Has (match_ordering o (x ∷ merged_tables xs (u ∷ us)) (both_tables x u ∷ merged_tables xs us) (u ∷ merged_tables (x ∷ xs) us))
            by Less rest = has_more x (merged_tables xs (u ∷ us)) own (λ miss. later (u ∷ us) few miss)
            by Equal rest = has_more (both_tables x u) (merged_tables xs us) own (λ miss. later us (only_later u us few) miss)
            by Greater rest = has_more u (merged_tables (x ∷ xs) us) (λ hit. few u (inl refl) hit) (λ miss. rest)

    second_has : (xs ys : List Table) → Only xs → Has ys → Has (merged_tables xs ys)
    second_has [] ys only has = has
    second_has (x ∷ xs) ys only has = inner ys has (λ us there. second_has xs us (only_later x xs only) there)
      where
        own : is_table name x ≡ true → x.schema ≡ s
        own hit = only x (inl refl) hit

        inner : (us : List Table) → Has us → ((vs : List Table) → Has vs → Has (merged_tables xs vs)) → Has (merged_tables (x ∷ xs) us)
        inner [] there later = let never : None ≡ Some s = there in cc
        inner (u ∷ us) there later = by (table_cmp x u) refl (λ miss. inner us (has_later u us there miss) later)
          where
            by : (o : Ordering) → table_cmp x u ≡ o → (is_table name u ≡ false → Has (merged_tables (x ∷ xs) us))
                → Has (match_ordering o (x ∷ merged_tables xs (u ∷ us)) (both_tables x u ∷ merged_tables xs us) (u ∷ merged_tables (x ∷ xs) us))
            by Less e rest = has_more x (merged_tables xs (u ∷ us)) own (λ miss. later (u ∷ us) there)
            by Equal e rest =
                let one : x.name ≡ u.name = exact_bytes x.name u.name e in
                has_more (both_tables x u) (merged_tables xs us) own
                (λ miss. later us (has_later u us there (ap (λ (n : List ℕ). same_text n name) (sym one) ∙ miss)))
            by Greater e rest = has_more u (merged_tables (x ∷ xs) us) (has_own u us there) rest

-- ---- a foreign key whose parent is found among more tables too

fits_still : (columns : List Column) (f : Foreign) (o p : Option Schema) → ((s : Schema) → o ≡ Some s → p ≡ Some s)
    → fits_parent columns f o ≡ true → fits_parent columns f p ≡ true
fits_still columns f None p more fits = let never : false ≡ true = fits in cc
fits_still columns f (Some s) p more fits = ap (fits_parent columns f) (more s refl) ∙ fits

parents_still : (few many : Catalog) → ((name : List ℕ) (s : Schema) → schema_at name few ≡ Some s → schema_at name many ≡ Some s)
    → (schema : Schema) → has_parents few schema ≡ true → has_parents many schema ≡ true
parents_still few many more schema met =
    list_all-weaker (λ (f : Foreign). fits_parent schema.columns f (schema_at f.parent few))
    (λ (f : Foreign). fits_parent schema.columns f (schema_at f.parent many))
    (λ f fits. fits_still schema.columns f (schema_at f.parent few) (schema_at f.parent many) (more f.parent) fits)
    schema.foreign met

-- ---- the parents of both lists

its_parents : (ts : List Table) → have_parents (catalog_of ts) ≡ true → (t : Table) → IsIn t ts → has_parents (catalog_of ts) t.schema ≡ true
its_parents ts parents t is =
    each_of (λ (u : Table). has_parents (catalog_of ts) u.schema) ts (sym (list_all-map (has_parents (catalog_of ts)) table_schema ts) ∙ parents) t is

-- two tables of one name have one schema
abbrev pub Alike : List Table → List Table → Type 0
Alike xs ys = (x y : Table) → IsIn x xs → IsIn y ys → x.name ≡ y.name → x.schema ≡ y.schema

module _ (xs ys : List Table) (alike : Alike xs ys) where
  abbrev all : List Table
  all = merged_tables xs ys

  of_first : (name : List ℕ) (s : Schema) → schema_at name (catalog_of xs) ≡ Some s → schema_at name (catalog_of all) ≡ Some s
  of_first name s has =
      let x = found name xs s has in
      first_has name s xs ys has
      (λ y is hit. sym (alike x.0 y x.1.0 is (x.1.1.0 ∙ sym (bytes_eq-true y.name name hit))) ∙ x.1.1.1)

  of_second : (name : List ℕ) (s : Schema) → schema_at name (catalog_of ys) ≡ Some s → schema_at name (catalog_of all) ≡ Some s
  of_second name s has =
      let y = found name ys s has in
      second_has name s xs ys
      (λ x is hit. alike x y.0 is y.1.0 (bytes_eq-true x.name name hit ∙ sym y.1.1.0) ∙ y.1.1.1) has

  pub merged_parents : have_parents (catalog_of xs) ≡ true → have_parents (catalog_of ys) ≡ true → have_parents (catalog_of all) ≡ true
  merged_parents first second =
      list_all-map (has_parents (catalog_of all)) table_schema all
      ∙ all_in (λ (t : Table). has_parents (catalog_of all) t.schema) all
      (λ z is. by z (in_merged name_of (slice_cmp nat_cmp) nat_list_cmp_total both_tables (λ x y e. refl) z xs ys is))
    where
      in_first : (x : Table) → IsIn x xs → has_parents (catalog_of all) x.schema ≡ true
      in_first x is = parents_still (catalog_of xs) (catalog_of all) of_first x.schema (its_parents xs first x is)

      by : (z : Table) → IsOf name_of (slice_cmp nat_cmp) nat_list_cmp_total both_tables (λ x y e. refl) z xs ys
          → has_parents (catalog_of all) z.schema ≡ true
      by z (inl there) = in_first z there
      by z (inr (inl there)) = parents_still (catalog_of ys) (catalog_of all) of_second z.schema (its_parents ys second z there)
      by z (inr (inr made)) = ap (λ (t : Table). has_parents (catalog_of all) t.schema) made.1.1.1.1.1 ∙ in_first made.0 made.1.1.0
