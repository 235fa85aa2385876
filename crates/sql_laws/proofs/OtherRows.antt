-- Only rows that the database has before a statement are left out: the tables without them are the same, and
-- each row that the statement appends stays.
use Rattle.std.proofs.Common.{◌≡◌, ℕ, ◌<◌, ◌≤◌, List, [], ◌∷◌, refl, ap, ◌∙◌, Bool, true, false, arith}
use Rattle.std.specs.Prelude.{filter, not, ◌&&◌, ◌||◌, ◌==◌, nat_lt, if◌then◌else◌}
use Rattle.std.specs.List.{list_any, list_all}
use Rattle.std.proofs.lemmas.Bool.{ne_eqb, and_right}
use Rattle.ldv_value.proofs.Booleans.{and-parts, or-left, or-right, or-false}
use Rattle.ldv_value.specs.Sorted.{is_strictly_sorted}
use Rattle.std.proofs.lemmas.Bool.Decides.{Decides-eqb, Decides-ltb}
use Rattle.ldv_value.proofs.SameBytes.{bytes_eq-itself}
use Rattle.sql_laws.specs.Types.{Table, TableRow}
use Rattle.sql_model.specs.Needs.{NeededRow}
use Rattle.sql_laws.specs.QueryLaw.{Keep, stays, cut_tables, KeepsNeeded}
use Rattle.sql_model.specs.Scope.{is_table, has_row}
use Rattle.sql_laws.specs.StatementLaw.{keep_others}
use Rattle.sql_model.proofs.ValidTables.{table-parts}
use Rattle.sql_model.specs.Tables.{is_valid_table, table_precedes, is_database}
use Rattle.sql_model.proofs.NewNumbers.{row_precedes}
use Rattle.sql_model.proofs.SortedLists.{sorted-all, sorted-tail}
use Rattle.sql_laws.proofs.TableNames.{less-differs, more-differs, table-trans}
use Rattle.sql_laws.proofs.LeftRows.{has_number, KeepsAllNew}
use Rattle.sql_model.proofs.Databases.{valid_of_database, sorted_of_database}

-- ---- the tables without the rows

module _ (keep : Keep) (db : List Table) where
  abbrev others : Keep
  others = keep_others keep db

  pub needed_others : (ns : List NeededRow) → KeepsNeeded keep ns → KeepsNeeded others ns
  needed_others [] k = tt
  needed_others (n ∷ ns) k = (or-left (keep n.table n.row) (not (list_any (has_row n.table n.row) db)) k.0, needed_others ns k.1)

  -- a row of the database stays as it did
  stays_same : (name : List ℕ) (n : ℕ) → list_any (has_row name n) db ≡ true → others name n ≡ keep name n
  stays_same name n is = ap (λ (b : Bool). keep name n || not b) is ∙ or-false (keep name n)

  module _ (t : Table) where
    rows_same : (rows : List TableRow)
        → ((n : ℕ) → has_number rows n ≡ true → list_any (has_row t.name n) db ≡ true)
        → filter (stays others t) rows ≡ filter (stays keep t) rows
    rows_same [] among = refl
    rows_same (row ∷ rows) among =
        let self : has_number (row ∷ rows) row.number ≡ true = or-left (row.number == row.number) (has_number rows row.number) ((Decides-eqb row.number row.number).1 refl) in
        let here : others t.name row.number ≡ keep t.name row.number = stays_same t.name row.number (among row.number self) in
        let more : filter (stays others t) rows ≡ filter (stays keep t) rows = rows_same rows (λ n is. among n (or-right (row.number == n) (has_number rows n) is)) in
        (λ j. if here j then row ∷ more j else more j)

  abbrev AmongAll : List Table → Type 0
  AmongAll ts = (name : List ℕ) (n : ℕ) → list_any (has_row name n) ts ≡ true → list_any (has_row name n) db ≡ true

  tables_same : (ts : List Table) → AmongAll ts → cut_tables others ts ≡ cut_tables keep ts
  tables_same [] among = refl
  tables_same (t ∷ ts) among =
      let own : (n : ℕ) → has_number t.rows n ≡ true → list_any (has_row t.name n) db ≡ true = λ n is. among t.name n (or-left (has_row t.name n t) (list_any (has_row t.name n) ts) (λ j. bytes_eq-itself t.name j && is j)) in
      let rows : filter (stays others t) t.rows ≡ filter (stays keep t) t.rows = rows_same t t.rows own in
      let more : cut_tables others ts ≡ cut_tables keep ts = tables_same ts (λ name n is. among name n (or-right (has_row name n t) (list_any (has_row name n) ts) is)) in
      (λ j. record { name = t.name; schema = t.schema; rows = rows j; next = t.next } ∷ more j)

  pub database_same : cut_tables others db ≡ cut_tables keep db
  database_same = tables_same db (λ name n is. is)

abbrev AllLess : Table → List Table → Type 0
AllLess t ts = list_all (table_precedes t) ts ≡ true

-- ---- numbers from the next on are free

numbers_free : (next : ℕ) (rows : List TableRow) → list_all (λ row. nat_lt row.number next) rows ≡ true → (n : ℕ)
    → next ≤ n
    → has_number rows n ≡ false
numbers_free next [] under n over = refl
numbers_free next (row ∷ rows) under n over =
    let both = and-parts (nat_lt row.number next) (list_all (λ (r : TableRow). nat_lt r.number next) rows) under in
    let below : row.number < next = (Decides-ltb row.number next).0 both.0 in
    let more : has_number rows n ≡ false = numbers_free next rows both.1 n over in
    let differs : (row.number == n) ≡ false = ne_eqb row.number n (λ same. omega (arith, below, over, same)) in
    (λ j. differs j || more j)

abbrev FreeFrom : List Table → Table → Type 0
FreeFrom all t = (n : ℕ) → t.next ≤ n → list_any (has_row t.name n) all ≡ false

abbrev AllFree : List Table → List Table → Type 0
AllFree all [] = Unit {0}
AllFree all (t ∷ ts) = FreeFrom all t × AllFree all ts

-- no other table has the name
none_named : (t : Table) (n : ℕ) (ts : List Table) → AllLess t ts → list_any (has_row t.name n) ts ≡ false
none_named t n [] less = refl
none_named t n (u ∷ us) less =
    let both = and-parts (table_precedes t u) (list_all (table_precedes t) us) less in
    let differs : is_table t.name u ≡ false = more-differs t.name u.name both.0 in
    (λ j. (differs j && has_number u.rows n) || none_named t n us both.1 j)

free_after : (t : Table) (all us : List Table) → AllLess t us → AllFree all us → AllFree (t ∷ all) us
free_after t all [] less free = tt
free_after t all (u ∷ us) less free =
    let both = and-parts (table_precedes t u) (list_all (table_precedes t) us) less in
    let differs : is_table u.name t ≡ false = less-differs t.name u.name both.0 in
    ((λ n over j. (differs j && has_number t.rows n) || free.0 n over j), free_after t all us both.1 free.1)

table_free : (t : Table) → is_valid_table t ≡ true → (n : ℕ) → t.next ≤ n → has_number t.rows n ≡ false
table_free t valid n over =
    let numbers = (table-parts t valid).numbers in
    let under = and-parts (is_strictly_sorted row_precedes t.rows) (list_all (λ (row : TableRow). nat_lt row.number t.next) t.rows) numbers in
    numbers_free t.next t.rows under.1 n over

all_free : (db : List Table) → list_all is_valid_table db ≡ true → is_strictly_sorted table_precedes db ≡ true → AllFree db db
all_free [] valid sorted = tt
all_free (t ∷ ts) valid sorted =
    let fits = and-parts (is_valid_table t) (list_all is_valid_table ts) valid in
    let less : AllLess t ts = sorted-all table_precedes table-trans t ts sorted in
    let own : FreeFrom (t ∷ ts) t = λ n over j. and_right (is_table t.name t) (has_number t.rows n) (table_free t fits.0 n over) j || none_named t n ts less j in
    (own, free_after t ts ts less (all_free ts fits.1 (sorted-tail table_precedes table-trans t ts sorted)))

module _ (keep : Keep) (db : List Table) where
  new_of : (ts : List Table) → AllFree db ts → KeepsAllNew (keep_others keep db) ts
  new_of [] free = tt
  new_of (t ∷ ts) free = (
    (λ n over. or-right (keep t.name n) (not (list_any (has_row t.name n) db)) (ap not (free.0 n over))),
    new_of ts free.1,
  )

  -- the rows that are appended are no rows of the database
  pub new_others : is_database db ≡ true → KeepsAllNew (keep_others keep db) db
  new_others valid =
      new_of db (all_free db (valid_of_database db valid) (sorted_of_database db valid))
