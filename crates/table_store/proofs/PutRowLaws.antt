-- The table once rows are put into it: those that stood have other values, and new ones come at the end.
use Rattle.std.proofs.Common.{◌≡◌, ◌==◌, ℕ, ◌+◌, ◌<◌, ◌≤◌, List, [], ◌∷◌, ◌++◌, map, length, refl, ap, ◌∙◌, Some, None, true, false, arith, append-nil}
use Rattle.std.specs.Prelude.{filter, find, not, nat_lt, is_none, unwrap_or}
use Rattle.std.specs.List.{list_any, list_all}
use Rattle.std.specs.Option.{option_or}
use Rattle.std.proofs.lemmas.Bool.{ne_eqb, ltb-true}
use Rattle.ldv_value.proofs.Booleans.{and-parts}
use Rattle.ldv_value.proofs.Lists.{found-all}
use Rattle.ldv_value.specs.Limits.{max_next}
use Rattle.ldv_value.specs.Sorted.{is_strictly_sorted}
use Rattle.sql_model.proofs.Databases.{valid_of_database}
use Rattle.sql_model.proofs.NewNumbers.{row_precedes}
use Rattle.sql_model.proofs.UniqueKeys.{or_none}
use Rattle.sql_model.proofs.ValidTables.{table-parts}
use Rattle.sql_model.specs.Changes.{has_null, key_clash, numbered_rows, had_row, with_rows}
use Rattle.sql_model.specs.Scope.{is_table, table_at}
use Rattle.sql_model.specs.Tables.{AreWellFormed, is_valid_table}
use Rattle.table_store.specs.Referring.{are_apart, with_put}
use Rattle.table_store.specs.Stops.{had_rows, insert_stop, key_stop, replace_stop, replaced_by, stop_if, with_inserted, with_replaced}
use Rattle.table_store.specs.Types.{Table, TableRow, Value}
use Rattle.table_store.specs.declared.error.StoreStop.TheVariants.{NotNull, Full}
use Rattle.table_store.proofs.FormedLaws.{clash_none}

-- ---- rows that stood

none_new : (t : Table) (rows : List TableRow) → list_all (had_row t) rows ≡ true → filter (λ row. not (had_row t row)) rows ≡ []
none_new t [] all = refl
none_new t (row ∷ rows) all =
    let both = and-parts (had_row t row) (list_all (had_row t) rows) all in
    rw both.0 (none_new t rows both.1)

pub put_replaced : (rows : List TableRow) (t : Table) → had_rows rows t ≡ true → with_put rows t ≡ with_replaced rows t
put_replaced rows t stand =
    ap (λ (l : List TableRow). with_rows t (map (replaced_by rows) t.rows ++ l) t.next) (none_new t rows stand)
    ∙ ap (λ (l : List TableRow). with_rows t l t.next) (append-nil (map (replaced_by rows) t.rows))

-- ---- rows that are new

none_found : (number n : ℕ) → number < n → (values : List (List Value)) → find (λ (new : TableRow). new.number == number) (numbered_rows n values) ≡ None
none_found number n less [] = refl
none_found number n less (v ∷ vs) =
    let other : (n == number) ≡ false = ne_eqb n number (λ same. absurd (omega (arith, less, same))) in
    rw other (none_found number (n + 1) (omega (arith, less)) vs)

none_replaced : (next : ℕ) (values : List (List Value)) (rows : List TableRow) → list_all (λ (row : TableRow). nat_lt row.number next) rows ≡ true
    → map (replaced_by (numbered_rows next values)) rows ≡ rows
none_replaced next values [] below = refl
none_replaced next values (row ∷ rows) below =
    let both = and-parts (nat_lt row.number next) (list_all (λ (r : TableRow). nat_lt r.number next) rows) below in
    let none = none_found row.number next (ltb-true row.number next both.0) values in
    λ j. unwrap_or (none j) row ∷ none_replaced next values rows both.1 j

not_stood : (number next : ℕ) → next ≤ number → (rows : List TableRow) → list_all (λ (row : TableRow). nat_lt row.number next) rows ≡ true
    → list_any (λ (old : TableRow). old.number == number) rows ≡ false
not_stood number next from [] below = refl
not_stood number next from (row ∷ rows) below =
    let both = and-parts (nat_lt row.number next) (list_all (λ (r : TableRow). nat_lt r.number next) rows) below in
    let less : row.number < next = ltb-true row.number next both.0 in
    let other : (row.number == number) ≡ false = ne_eqb row.number number (λ same. absurd (omega (arith, less, from, same))) in
    rw other (not_stood number next from rows both.1)

all_new : (t : Table) → list_all (λ (row : TableRow). nat_lt row.number t.next) t.rows ≡ true → (n : ℕ) → t.next ≤ n → (values : List (List Value))
    → filter (λ row. not (had_row t row)) (numbered_rows n values) ≡ numbered_rows n values
all_new t below n from [] = refl
all_new t below n from (v ∷ vs) =
    let more = all_new t below (n + 1) (omega (arith, from)) vs in
    rw (not_stood n t.next from t.rows below) (ap (λ (l : List TableRow). record { number = n; values = v } ∷ l) more)

pub put_inserted : (t : Table) → list_all (λ (row : TableRow). nat_lt row.number t.next) t.rows ≡ true → (values : List (List Value))
    → with_put (numbered_rows t.next values) t ≡ with_rows t (t.rows ++ numbered_rows t.next values) t.next
put_inserted t below values =
    λ j. with_rows t (none_replaced t.next values t.rows below j ++ all_new t below t.next (omega arith) values j) t.next

-- ---- rows that the table's own rules don't refuse have keys of their own

pub apart_inserted : (db : List Table) → AreWellFormed db → (name : List ℕ) (t : Table) → table_at name db ≡ Some t → (rows : List (List Value)) → insert_stop rows t ≡ None
    → are_apart (numbered_rows t.next rows) t ≡ true
apart_inserted db formed name t found rows none =
    let fresh : List TableRow = numbered_rows t.next rows in
    let valid : is_valid_table t ≡ true = found-all (is_table name) is_valid_table db t (valid_of_database db formed.database) found in
    let below : list_all (λ (row : TableRow). nat_lt row.number t.next) t.rows ≡ true =
    (and-parts (is_strictly_sorted row_precedes t.rows) (list_all (λ (row : TableRow). nat_lt row.number t.next) t.rows) (table-parts t valid).numbers).1 in
    let one = or_none (stop_if (list_any (has_null t.schema.columns) fresh) NotNull) (option_or (key_stop t (key_clash (with_inserted rows t))) (stop_if (nat_lt max_next (t.next + length rows)) Full)) none in
    let two = or_none (key_stop t (key_clash (with_inserted rows t))) (stop_if (nat_lt max_next (t.next + length rows)) Full) one.1 in
    ap (λ (u : Table). is_none (key_clash u)) (put_inserted t below rows) ∙ ap is_none (clash_none t (key_clash (with_inserted rows t)) two.0)

pub apart_replaced : (t : Table) (rows : List TableRow) → had_rows rows t ≡ true → replace_stop rows t ≡ None → are_apart rows t ≡ true
apart_replaced t rows stand none =
    let two = or_none (stop_if (list_any (has_null t.schema.columns) rows) NotNull) (key_stop t (key_clash (with_replaced rows t))) none in
    ap (λ (u : Table). is_none (key_clash u)) (put_replaced rows t stand) ∙ ap is_none (clash_none t (key_clash (with_replaced rows t)) two.1)
