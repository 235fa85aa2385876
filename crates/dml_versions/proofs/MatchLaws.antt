-- Matched rows: their versions, their needs, and the versions that a change of them makes.
use Rattle.std.proofs.Common.{◌≡◌, ℕ, ◌+◌, List, [], ◌∷◌, map, refl, ap, sym, ◌∙◌, Some, Bool, true, false, inl, inr}
use Rattle.std.specs.Prelude.{filter, find, nat_lt}
use Rattle.std.specs.List.{list_all, AllByRecursion}
use Rattle.ldv_value.proofs.Booleans.{and-parts}
use Rattle.ldv_value.proofs.Cases.{cases-bool}
use Rattle.ldv_value.proofs.Lists.{all-weaker, map-map}
use Rattle.ldv_value.proofs.Options.{same-some}
use Rattle.ldv_value.proofs.SameBytes.{bytes_eq-true}
use Rattle.ldv_value.specs.Sorted.{is_strictly_sorted}
use Rattle.sql_model.proofs.SortedLists.{sorted-all, sorted-tail}
use Rattle.sql_laws.proofs.TableNames.{table-trans, more-differs}
use Rattle.sql_model.proofs.ValidTables.{table-parts}
use Rattle.sql_model.specs.Needs.{matched_row, next_member, read_of}
use Rattle.sql_model.specs.Scope.{same_text, is_table}
use Rattle.sql_model.specs.Tables.{is_valid_table, table_precedes}
use Rattle.sql_model.proofs.NewNumbers.{row_precedes}
use Rattle.table_store.specs.Histories.{history_at, rows_now, last_next_number}
use Rattle.table_store.specs.RowOrder.{AreInOrder}
use Rattle.table_store.specs.Stops.{with_changed}
use Rattle.ldv_value.proofs.ItemLists.{all_filter}
use Rattle.dml_versions.proofs.NumberLaws.{AreSorted}
use Rattle.dml_versions.proofs.StandingLaws.{IsStanding, version-is, all-stand}
use Rattle.dml_versions.specs.inner.Finding.{found_row, version_of}
use Rattle.dml_versions.specs.inner.Needing.{need_found, updated_member}
use Rattle.dml_versions.specs.Types.{L, Table, TableRow, StoreHistory, TableHistory}
use Rattle.dml_versions.specs.Versions.{updates_in, versions_now}

pub map-agree : {X Y : Type 0} (f g : X → Y) (xs : List X) → AllByRecursion (λ x. f x ≡ g x) xs → map f xs ≡ map g xs
map-agree f g [] all = refl
map-agree f g (x ∷ xs) all = λ j. all.0 j ∷ map-agree f g xs all.1 j

-- ---- a valid table's rows

pub rows-sorted : (t : Table) → is_valid_table t ≡ true → AreSorted t.rows
rows-sorted t valid = (and-parts (is_strictly_sorted row_precedes t.rows) (list_all (λ (row : TableRow). nat_lt row.number t.next) t.rows) (table-parts t valid).numbers).0

-- ---- one table is changed

others_same : (change : Table → Table) (name : List ℕ) (t : Table) → is_table name t ≡ true → (ts : List Table) → list_all (table_precedes t) ts ≡ true
    → with_changed name change ts ≡ ts
others_same change name t named [] after = refl
others_same change name t named (u ∷ us) after =
    let both = and-parts (table_precedes t u) (list_all (table_precedes t) us) after in
    let differs : is_table name u ≡ false = ap (same_text u.name) (sym (bytes_eq-true t.name name named)) ∙ more-differs t.name u.name both.0 in
    rw differs (ap (λ (l : List Table). u ∷ l) (others_same change name t named us both.1))

-- what is the same for the table of a name changes the tables in the same way
pub same-changed : (f g : Table → Table) (name : List ℕ) (t : Table) → f t ≡ g t → (ts : List Table) → find (is_table name) ts ≡ Some t
    → is_strictly_sorted table_precedes ts ≡ true → with_changed name f ts ≡ with_changed name g ts
same-changed f g name t same [] found sorted = refl
same-changed f g name t same (u ∷ us) found sorted = elim (cases-bool (is_table name u)) [
  | inl hit ↦
      let e : Some u ≡ Some t = rw hit at found in
      let is : u ≡ t = same-some u t e in
      let after = sorted-all table_precedes table-trans u us sorted in
      let here : f u ≡ g u = ap f is ∙ same ∙ sym (ap g is) in
      rw hit (λ j. here j ∷ (others_same f name u hit us after ∙ sym (others_same g name u hit us after)) j)
  | inr miss ↦
      let more : find (is_table name) us ≡ Some t = rw miss at found in
      rw miss (ap (λ (l : List Table). u ∷ l) (same-changed f g name t same us more (sorted-tail table_precedes table-trans u us sorted)))
]

-- ---- versions

module _ (store : StoreHistory) (name : List ℕ) (table : TableHistory) (found : history_at name store ≡ Some table) (order : AreInOrder table.slots (last_next_number table.nexts)) where
  pub versions-are : (number : ℕ) → IsStanding table.slots number → version_of table.slots number ≡ versions_now store name number
  versions-are number s = version-is table.slots number s ∙ sym (ap (updates_in number) found)

  abbrev pub AllStand : List TableRow → Type 0
  AllStand rows = AllByRecursion (λ row. IsStanding table.slots row.number) rows

  pub matched-stand : (test : TableRow → Bool) → AllStand (filter test (rows_now table.slots))
  matched-stand test = all_filter (λ (row : TableRow). IsStanding table.slots row.number) test (rows_now table.slots) (all-stand table.slots (last_next_number table.nexts) order)

  module _ (t : Table) (named : t.name ≡ name) (rows : List TableRow) (stand : AllStand rows) where
    version_at : (row : TableRow) → IsStanding table.slots row.number → version_of table.slots row.number ≡ versions_now store t.name row.number
    version_at row s = versions-are row.number s ∙ ap (λ (n : List ℕ). versions_now store n row.number) (sym named)

    -- what is made of matched rows
    pub made-is : map (updated_member name) (map (found_row table.slots) rows) ≡ map (next_member (versions_now store) t) rows
    made-is =
        map-map (updated_member name) (found_row table.slots) rows
        ∙ map-agree (λ row. updated_member name (found_row table.slots row)) (next_member (versions_now store) t) rows
        (all-weaker (λ (row : TableRow). IsStanding table.slots row.number) (λ row. updated_member name (found_row table.slots row) ≡ next_member (versions_now store) t row)
        (λ row s j. record { table = sym named j; row = row.number; version = version_at row s j + 1 }) rows stand)

    -- what is needed of them
    pub needs-is : map (need_found name) (map (found_row table.slots) rows) ≡ map (read_of (versions_now store)) (map (matched_row t) rows)
    needs-is =
        map-map (need_found name) (found_row table.slots) rows
        ∙ map-agree (λ row. need_found name (found_row table.slots row)) (λ row. read_of (versions_now store) (matched_row t row)) rows
        (all-weaker (λ (row : TableRow). IsStanding table.slots row.number) (λ row. need_found name (found_row table.slots row) ≡ read_of (versions_now store) (matched_row t row))
        (λ row s j. record { member = record { table = sym named j; row = row.number; version = version_at row s j }; rule = L }) rows stand)
        ∙ sym (map-map (read_of (versions_now store)) (matched_row t) rows)
