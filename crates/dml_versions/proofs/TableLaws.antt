-- The tables of a store by their names.
use Rattle.std.proofs.Common.{◌≡◌, ℕ, List, [], ◌∷◌, ◌++◌, map, refl, ap, sym, ◌∙◌, subst, inl, inr, false, Option, Some, append-nil}
use Rattle.std.specs.Prelude.{find, IsSome, if◌then◌else◌}
use Rattle.std.specs.Option.{option_map}
use Rattle.ldv_value.proofs.Cases.{cases-bool}
use Rattle.ldv_value.proofs.Lists.{found-passes}
use Rattle.ldv_value.proofs.SameBytes.{bytes_eq-true, bytes_eq-itself}
use Rattle.sql_model.proofs.Equations.{table_schema, schema_found}
use Rattle.sql_model.specs.Scope.{same_text, is_table, table_at, catalog_of, columns_of, schema_at, own_scope}
use Rattle.table_store.specs.Histories.{TableHistory, StoreHistory, table_now, tables_now, is_history, history_at, in_table, changed_at}
use Rattle.table_store.proofs.NowLaws.{some_from}
use Rattle.dml_versions.specs.inner.Finding.{scope_in}
use Rattle.dml_versions.specs.Types.{Schema, Table}

found_among : (name : List ℕ) (tables : List TableHistory) → find (is_table name) (map table_now tables) ≡ option_map table_now (find (is_history name) tables)
found_among name [] = refl
found_among name (t ∷ ts) = elim (cases-bool (is_history name t)) [
  | inl hit ↦ rw hit refl
  | inr miss ↦ rw miss (found_among name ts)
]

-- the table of a name now
pub table-found : (name : List ℕ) (store : StoreHistory) → table_at name (tables_now store) ≡ option_map table_now (history_at name store)
table-found name store = found_among name store.tables

pub history-some : (name : List ℕ) (store : StoreHistory) → IsSome (table_at name (tables_now store)) → IsSome (history_at name store)
history-some name store is = some_from (history_at name store) (subst (λ (o : Option Table). IsSome o) (table-found name store) is)

pub table-now : (name : List ℕ) (store : StoreHistory) (table : TableHistory) → history_at name store ≡ Some table → table_at name (tables_now store) ≡ Some (table_now table)
table-now name store table is = table-found name store ∙ ap (option_map table_now) is

pub history-name : (name : List ℕ) (store : StoreHistory) (table : TableHistory) → history_at name store ≡ Some table → table.name ≡ name
history-name name store table is = bytes_eq-true table.name name (found-passes (is_history name) store.tables table is)

-- ---- the columns in scope

pub schema-now : (name : List ℕ) (store : StoreHistory) (table : TableHistory) → history_at name store ≡ Some table → schema_at name (catalog_of (tables_now store)) ≡ Some table.schema
schema-now name store table is = schema_found name (tables_now store) ∙ ap (option_map table_schema) (table-now name store table is)

pub scope-is : (name : List ℕ) (store : StoreHistory) (table : TableHistory) → history_at name store ≡ Some table → own_scope name (catalog_of (tables_now store)) ≡ scope_in table
scope-is name store table is =
    ap (λ (s : Option Schema). map (λ c. record { source = name; column = c }) (columns_of s) ++ []) (schema-now name store table is)
    ∙ append-nil (map (λ c. record { source = name; column = c }) table.schema.columns)
    ∙ ap (λ (n : List ℕ). map (λ c. record { source = n; column = c }) table.schema.columns) (sym (history-name name store table is))

-- ---- after a change of a table

module _ (name : List ℕ) (change : TableHistory → TableHistory) (kept : (t : TableHistory) → (change t).name ≡ t.name) where
  name_kept : (t : TableHistory) → (in_table name change t).name ≡ t.name
  name_kept t = elim (cases-bool (is_history name t)) [
    | inl hit ↦ rw hit (kept t)
    | inr miss ↦ rw miss refl
  ]

  found_after : (other : List ℕ) (ts : List TableHistory) → find (is_history other) (map (in_table name change) ts) ≡ option_map (in_table name change) (find (is_history other) ts)
  found_after other [] = refl
  found_after other (t ∷ ts) =
      let same : is_history other (in_table name change t) ≡ is_history other t = ap (λ (n : List ℕ). same_text n other) (name_kept t) in
      elim (cases-bool (is_history other t)) [
        | inl hit ↦ rw (same ∙ hit, hit) refl
        | inr miss ↦ rw (same ∙ miss, miss) (found_after other ts)
      ]

  pub history-after : (time : ℕ) (store : StoreHistory) (other : List ℕ) → history_at other (changed_at time name change store) ≡ option_map (in_table name change) (history_at other store)
  history-after time store other = found_after other store.tables

-- the table of the name is changed
pub in-table-named : (name : List ℕ) (change : TableHistory → TableHistory) (t : TableHistory) → t.name ≡ name → in_table name change t ≡ change t
in-table-named name change t is =
    ap (λ b. if b then change t else t) (ap (λ (n : List ℕ). same_text n name) is ∙ bytes_eq-itself name)

-- and no other
pub in-table-other : (name : List ℕ) (change : TableHistory → TableHistory) (t : TableHistory) → same_text t.name name ≡ false → in_table name change t ≡ t
in-table-other name change t is = ap (λ b. if b then change t else t) is
