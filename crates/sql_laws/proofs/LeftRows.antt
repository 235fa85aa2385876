-- The effect of a statement on a table without some of its rows.
use Rattle.std.proofs.Common.{◌≡◌, ℕ, ◌+◌, ◌≤◌, List, [], ◌∷◌, ◌++◌, refl, sym, ap, ◌∙◌, Bool, true, false, inl, inr, arith}
use Rattle.std.specs.Prelude.{Option, Some, None, map, filter, length, not, ◌&&◌, ◌||◌, ◌==◌, if◌then◌else◌}
use Rattle.std.specs.List.{list_any, list_all}
use Rattle.std.proofs.lemmas.Bool.Decides.{Decides-eqb}
use Rattle.std.proofs.lemmas.List.Elements.{filter-append}
use Rattle.ldv_value.proofs.Booleans.{and-parts, or-left, or-right}
use Rattle.ldv_value.proofs.Cases.{cases-bool}
use Rattle.ldv_value.proofs.Lists.{filter-filter, list_all-append, list_all-filter, list_all-map, list_all-weaker}
use Rattle.sql_laws.specs.Types.{Value, Catalog, Insert, Statement, TheQuery, TheInsert, TheUpdate, TheDelete, Update, Table, TableRow}
use Rattle.sql_model.specs.Changes.{is_matched, new_values, numbered_rows, rows_of_insert, updated_row, with_rows, table_after, matched, new_rows, has_null, lacks_value, is_full}
use Rattle.sql_model.specs.Changes.{had_row, changed_in}
use Rattle.sql_model.specs.Needs.{matched_row}
use Rattle.sql_laws.specs.QueryLaw.{Keep, stays, cut_table, cut_tables, KeepsNeeded}
use Rattle.sql_model.specs.Scope.{InScope, is_table, own_scope}
use Rattle.sql_laws.proofs.QuerySorting.{filter_all}

-- a test that a map doesn't change is made before it or after it
filter_mapped : {X : Type 0} (p : X → Bool) (f : X → X) → ((x : X) → p (f x) ≡ p x) → (xs : List X)
    → map f (filter p xs) ≡ filter p (map f xs)
filter_mapped p f same [] = refl
filter_mapped p f same (x ∷ xs) = elim (cases-bool (p x)) [
  | inl hit ↦ let too : p (f x) ≡ true = same x ∙ hit in rw (hit, too) (λ j. f x ∷ filter_mapped p f same xs j)
  | inr miss ↦ let too : p (f x) ≡ false = same x ∙ miss in rw (miss, too) (filter_mapped p f same xs)
]

-- ---- rows by their numbers

abbrev pub has_number : List TableRow → ℕ → Bool
has_number rows number = list_any (λ old. old.number == number) rows

stood_all : (rows : List TableRow) → list_all (λ row. has_number rows row.number) rows ≡ true
stood_all [] = refl
stood_all (row ∷ rows) =
    let here : has_number (row ∷ rows) row.number ≡ true = or-left (row.number == row.number) (has_number rows row.number) ((Decides-eqb row.number row.number).1 refl) in
    let more : list_all (λ other. has_number (row ∷ rows) other.number) rows ≡ true = list_all-weaker (λ (other : TableRow). has_number rows other.number) (λ (other : TableRow). has_number (row ∷ rows) other.number) (λ other in_rows. or-right (row.number == other.number) (has_number rows other.number) in_rows) rows (stood_all rows) in
    (λ j. here j && more j)

-- all numbers from one on pass
numbered_pass : (p : ℕ → Bool) (start : ℕ) → ((n : ℕ) → start ≤ n → p n ≡ true)
    → (rows : List (List Value))
    → list_all (λ (row : TableRow). p row.number) (numbered_rows start rows) ≡ true
numbered_pass p start from [] = refl
numbered_pass p start from (values ∷ rows) =
    let here : p start ≡ true = from start (omega arith) in
    let more : list_all (λ (row : TableRow). p row.number) (numbered_rows (start + 1) rows) ≡ true = numbered_pass p (start + 1) (λ n over. from n (omega (arith, over))) rows in
    (λ j. here j && more j)

module _ (keep : Keep) (t : Table) where
  -- the rows that are appended to the table stay
  abbrev pub KeepsNew : Type 0
  KeepsNew = (n : ℕ) → t.next ≤ n → keep t.name n ≡ true

  abbrev pub small : Table
  small = cut_table keep t

  -- the row stood in the table before, or stays
  abbrev pub safe : TableRow → Bool
  safe row = had_row t row || keep t.name row.number

  pub stood_safe : list_all safe t.rows ≡ true
  stood_safe = list_all-weaker (had_row t) safe (λ row is. or-left (had_row t row) (keep t.name row.number) is) t.rows (stood_all t.rows)

  inserted_stay : (insert : Insert) → KeepsNew → list_all (stays keep t) (rows_of_insert insert t) ≡ true
  inserted_stay insert new = numbered_pass (keep t.name) t.next new (map (new_values insert.columns t.schema.columns) insert.rows)

  inserted_safe : (insert : Insert) → KeepsNew → list_all safe (rows_of_insert insert t) ≡ true
  inserted_safe insert new = list_all-weaker (stays keep t) safe (λ row is. or-right (had_row t row) (keep t.name row.number) is) (rows_of_insert insert t) (inserted_stay insert new)

  -- an UPDATE's rows
  abbrev updated : List InScope → Update → TableRow → TableRow
  updated scope update row = if is_matched scope update.pick row then updated_row scope update t.schema.columns row else row

  number_same : (scope : List InScope) (update : Update) (row : TableRow)
      → (updated scope update row).number ≡ row.number
  number_same scope update row = elim (cases-bool (is_matched scope update.pick row)) [
    | inl hit ↦ rw hit refl
    | inr miss ↦ rw miss refl
  ]

  abbrev safe_number : ℕ → Bool
  safe_number n = has_number t.rows n || keep t.name n

  updated_safe : (scope : List InScope) (update : Update)
      → list_all safe (map (updated scope update) t.rows) ≡ true
  updated_safe scope update =
      list_all-map safe (updated scope update) t.rows
      ∙ list_all-weaker safe (λ row. safe (updated scope update row)) (λ row is. ap safe_number (number_same scope update row) ∙ is) t.rows stood_safe

  -- ---- the table after, over any catalog

  module _ (catalog : Catalog) where
    pub changed_safe : (s : Statement) → KeepsNew → list_all safe (table_after s catalog t).rows ≡ true
    changed_safe (TheQuery query) new = stood_safe
    changed_safe (TheInsert insert) new = list_all-append safe t.rows (rows_of_insert insert t) ∙ (λ j. stood_safe j && inserted_safe insert new j)
    changed_safe (TheUpdate update) new = updated_safe (own_scope update.table catalog) update
    changed_safe (TheDelete delete) new = list_all-filter safe (λ row. not (is_matched (own_scope delete.table catalog) delete.pick row)) t.rows stood_safe

    -- the table after is that after over the whole table, without the same rows
    pub changed_cut : (s : Statement) → KeepsNew
        → table_after s catalog small ≡ cut_table keep (table_after s catalog t)
    changed_cut (TheQuery query) new = refl
    changed_cut (TheInsert insert) new =
        let whole : filter (stays keep t) (t.rows ++ rows_of_insert insert t) ≡ filter (stays keep t) t.rows ++ rows_of_insert insert t =
        filter-append (stays keep t) t.rows (rows_of_insert insert t)
        ∙ ap (λ (l : List TableRow). filter (stays keep t) t.rows ++ l) (filter_all (stays keep t) (rows_of_insert insert t) (inserted_stay insert new)) in
        sym (λ j. with_rows t (whole j) (t.next + length insert.rows))
    changed_cut (TheUpdate update) new =
        let rows : map (updated (own_scope update.table catalog) update) (filter (stays keep t) t.rows) ≡ filter (stays keep t) (map (updated (own_scope update.table catalog) update) t.rows) =
        filter_mapped (stays keep t) (updated (own_scope update.table catalog) update) (λ row. ap (keep t.name) (number_same (own_scope update.table catalog) update row)) t.rows in
        (λ j. with_rows t (rows j) t.next)
    changed_cut (TheDelete delete) new =
        let rows = filter-filter (λ row. not (is_matched (own_scope delete.table catalog) delete.pick row)) (stays keep t) t.rows in
        (λ j. with_rows t (rows j) t.next)

    -- ---- the rows that are matched

    pub matched_stay : (rows : List TableRow) → KeepsNeeded keep (map (matched_row t) rows)
        → list_all (stays keep t) rows ≡ true
    matched_stay [] k = refl
    matched_stay (row ∷ rows) k = λ j. k.0 j && matched_stay rows k.1 j

    filtered_same : (p : TableRow → Bool) → KeepsNeeded keep (map (matched_row t) (filter p t.rows))
        → filter p (filter (stays keep t) t.rows) ≡ filter p t.rows
    filtered_same p k = filter-filter p (stays keep t) t.rows ∙ filter_all (stays keep t) (filter p t.rows) (matched_stay (filter p t.rows) k)

    pub matched_same : (s : Statement) → KeepsNeeded keep (map (matched_row t) (matched s catalog t))
        → matched s catalog small ≡ matched s catalog t
    matched_same (TheQuery query) k = refl
    matched_same (TheInsert insert) k = refl
    matched_same (TheUpdate update) k = filtered_same (is_matched (own_scope update.table catalog) update.pick) k
    matched_same (TheDelete delete) k = filtered_same (is_matched (own_scope delete.table catalog) delete.pick) k

    -- an INSERT alone is full, and it matches none
    pub matched_full : (s : Statement) → is_full s t ≡ true
        → matched s catalog small ≡ matched s catalog t
    matched_full (TheQuery query) full = cc
    matched_full (TheInsert insert) full = refl
    matched_full (TheUpdate update) full = cc
    matched_full (TheDelete delete) full = cc

    pub new_same : (s : Statement) → matched s catalog small ≡ matched s catalog t
        → new_rows s catalog small ≡ new_rows s catalog t
    new_same (TheQuery query) m = refl
    new_same (TheInsert insert) m = refl
    new_same (TheUpdate update) m = λ j. map (updated_row (own_scope update.table catalog) update t.schema.columns) (m j)
    new_same (TheDelete delete) m = refl

    pub lacks_same : (s : Statement) → matched s catalog small ≡ matched s catalog t
        → lacks_value s catalog small ≡ lacks_value s catalog t
    lacks_same s m = ap (list_any (has_null t.schema.columns)) (new_same s m)

    pub full_same : (s : Statement) → is_full s small ≡ is_full s t
    full_same (TheQuery query) = refl
    full_same (TheInsert insert) = refl
    full_same (TheUpdate update) = refl
    full_same (TheDelete delete) = refl

  -- ---- the rows that stood

  pub number_stays : (n : ℕ) → keep t.name n ≡ true → (rows : List TableRow)
      → has_number (filter (stays keep t) rows) n ≡ has_number rows n
  number_stays n k [] = refl
  number_stays n k (row ∷ rows) = elim (cases-bool (keep t.name row.number)) [
    | inl here ↦ rw here (λ j. (row.number == n) || number_stays n k rows j)
    | inr goes ↦ elim (cases-bool (row.number == n)) [
      | inl same ↦ let none : true ≡ false = sym k ∙ sym (ap (keep t.name) ((Decides-eqb row.number n).0 same)) ∙ goes in cc
      | inr differs ↦ rw (goes, differs) (number_stays n k rows)
    ]
  ]

  pub stood_same : (rows : List TableRow) → list_all (stays keep t) rows ≡ true
      → filter (had_row small) rows ≡ filter (had_row t) rows
  stood_same [] all = refl
  stood_same (row ∷ rows) all =
      let both = and-parts (keep t.name row.number) (list_all (stays keep t) rows) all in
      (λ j. if number_stays row.number both.0 t.rows j then row ∷ stood_same rows both.1 j else stood_same rows both.1 j)

-- ---- all tables

module _ (keep : Keep) where
  -- the rows that are appended to any of the tables stay
  abbrev pub KeepsAllNew : List Table → Type 0
  KeepsAllNew [] = Unit {0}
  KeepsAllNew (t ∷ ts) = KeepsNew keep t × KeepsAllNew ts

  -- the tables after a statement, over any catalog

  module _ (s : Statement) (catalog : Catalog) where
    abbrev pub change_one : List ℕ → Table → Table
    change_one name table = if is_table name table then table_after s catalog table else table

    tables_cut : (name : List ℕ) (ts : List Table) → KeepsAllNew ts
        → map (change_one name) (cut_tables keep ts) ≡ cut_tables keep (map (change_one name) ts)
    tables_cut name [] new = refl
    tables_cut name (t ∷ ts) new = elim (cases-bool (is_table name t)) [
      | inl hit ↦ rw hit (λ j. changed_cut keep t catalog s new.0 j ∷ tables_cut name ts new.1 j)
      | inr miss ↦ rw miss (λ j. cut_table keep t ∷ tables_cut name ts new.1 j)
    ]

    pub in_cut : (name : Option (List ℕ)) (db : List Table) → KeepsAllNew db
        → changed_in name s catalog (cut_tables keep db) ≡ cut_tables keep (changed_in name s catalog db)
    in_cut None db new = refl
    in_cut (Some name) db new = tables_cut name db new
