-- Columns by their names, beside the sets that the code keeps and the places that it finds.
use Rattle.std.proofs.Common.{◌≡◌, ℕ, ◌+◌, ◌<◌, List, length, map, take, get_or, Bool, true, false, not, ◌&&◌, ◌||◌, cond, Bor, refl, sym, ap, ◌∙◌}
use Rattle.std.specs.List.{list_all, list_any}
use Rattle.std.proofs.lemmas.List.Folds.{list_any_more}
use Rattle.std.proofs.lemmas.Map.Text.{is_eq-slice_cmp}
use Rattle.std.specs.BTreeMap.{is_at}
use Rattle.std.specs.BTreeSet.{contains}
use Rattle.std.specs.Cmp.Lexicographic.{slice_cmp}
use Rattle.std.specs.Ordering.{nat_cmp, is_eq}
use Rattle.sql_model.proofs.RepeatedNames.{text_order}
use Rattle.ldv_value.proofs.Booleans.{and-assoc}
use Rattle.ldv_value.proofs.Lists.{list_any-map}
use Rattle.ldv_value.proofs.SameBytes.{bytes_eq-sym}
use Rattle.sql_model.specs.Scope.{same_text, has_column}
use Rattle.sql_model.specs.Keys.{repeats}
use Rattle.sql_model.specs.SqlNames.{sql_name_test}
use Rattle.sql_model.specs.Tables.{column_names_test}
use Rattle.sql_model.specs.declared.table.Column.{Column}
use Rattle.world_json.specs.Faults.{is_key_named, is_foreign_named, is_table_named}
use Rattle.world_json.specs.inner.NameSets.{Names, is_known, is_key_known, is_foreign_known, is_parent_known, are_keys_known, is_table_known}
use Rattle.world_json.specs.declared.document.Draft.{Draft}
use Rattle.world_json.specs.declared.document.DraftForeign.{DraftForeign}

or_swap : (b seen : Bool) → cond b true seen ≡ (seen || b)
or_swap true true = refl
or_swap true false = refl
or_swap false true = refl
or_swap false false = refl

-- one more item, of those that have names
module _ {X : Type 0} (name_of : X → List ℕ) where
  abbrev pub is_named : List ℕ → X → Bool
  is_named name x = same_text (name_of x) name

  abbrev pub among : List X → List ℕ → Bool
  among xs name = list_any (is_named name) xs

  pub known_more : (old new : Names) (key : Bor (List ℕ)) (xs : List X) (i : ℕ) (x : X)
      → i < length xs → x ≡ get_or xs i x → key.now ≡ name_of x
      → ((q : Bor (List ℕ)) → contains text_order new q ≡ cond (is_at (text_order key) q) true (contains text_order old q))
      → ((name : List ℕ) → is_known old name ≡ among (take i xs) name)
      → (name : List ℕ) → is_known new name ≡ among (take (i + 1) xs) name
  known_more old new key xs i x within item text updates before name =
      let q : Bor (List ℕ) = record key { now = name } in
      let test : is_eq (slice_cmp nat_cmp key.now name) ≡ same_text (name_of x) name =
      is_eq-slice_cmp key.now name ∙ ap (λ (t : List ℕ). same_text t name) text in
      let last : same_text (name_of x) name ≡ same_text (name_of (get_or xs i x)) name = ap (is_named name) item in
      updates q
      ∙ or_swap (is_eq (slice_cmp nat_cmp key.now name)) (is_known old name)
      ∙ (λ j. before name j || (test ∙ last) j)
      ∙ sym (list_any_more (is_named name) xs i x within)

abbrev pub column_name : Column → List ℕ
column_name column = column.name

abbrev pub table_name : Draft → List ℕ
table_name table = table.name

-- ---- by the names that are known as by the columns and tables that have them

-- the columns of a table
module _ (columns : Names) (table : Draft) (are : (name : List ℕ) → is_known columns name ≡ has_column table.columns name) where
  key_by_columns : (key : List (List ℕ)) → is_key_known columns key ≡ is_key_named table.columns key
  key_by_columns key = λ j. list_all (λ (name : List ℕ). are name j) key && not (repeats same_text key)

  foreign_by_columns : (tables : Names) (f : DraftForeign) → is_foreign_known columns tables f ≡ is_parent_known tables table f
  foreign_by_columns tables f = λ j. key_by_columns f.columns j && is_known tables f.parent

  pub keys_by_columns : (tables : Names)
      → (is_key_known columns table.key && list_all (is_foreign_known columns tables) table.foreign) ≡ are_keys_known tables table
  keys_by_columns tables = λ j.
      key_by_columns table.key j && list_all (λ (f : DraftForeign). foreign_by_columns tables f j) table.foreign

-- the tables of a document
module _ (tables : Names) (drafts : List Draft) (are : (name : List ℕ) → is_known tables name ≡ among table_name drafts name) where
  abbrev names : List (List ℕ)
  names = map table_name drafts

  parent_by_tables : (parent : List ℕ) → is_known tables parent ≡ list_any (same_text parent) names
  parent_by_tables parent =
      are parent
      ∙ (λ j. list_any (λ (t : Draft). bytes_eq-sym t.name parent j) drafts)
      ∙ sym (list_any-map (same_text parent) table_name drafts)

  foreign_by_tables : (t : Draft) (f : DraftForeign) → is_parent_known tables t f ≡ is_foreign_named names t.columns f
  foreign_by_tables t f = λ j. is_key_named t.columns f.columns && parent_by_tables f.parent j

  table_by_tables : (t : Draft) → is_table_known tables t ≡ is_table_named names t
  table_by_tables t =
      (λ j. sql_name_test t.name && column_names_test t.columns
      && (is_key_named t.columns t.key && list_all (λ (f : DraftForeign). foreign_by_tables t f j) t.foreign))
      ∙ sym (and-assoc (sql_name_test t.name && column_names_test t.columns) (is_key_named t.columns t.key)
      (list_all (is_foreign_named names t.columns) t.foreign))

  pub tables_by_tables : list_all (is_table_known tables) drafts ≡ list_all (is_table_named names) drafts
  tables_by_tables = λ j. list_all (λ (t : Draft). table_by_tables t j) drafts
