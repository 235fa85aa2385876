-- The world that the generator makes is valid: its first file is a script, and no two rows of a table have the
-- same key.
use Rattle.std.proofs.Common.{◌≡◌, ℕ, zero, suc, ◌+◌, ◌*◌, ◌%◌, ◌^◌, ◌<◌, ◌≤◌, pos, List, [], ◌∷◌, ◌++◌, length, map, refl, sym, ap, subst, cond, Bool, true, false, not, ◌&&◌, IsTrue, nat_le, nat_lt, arith}
use Rattle.std.specs.Prelude.{codes, int_lt}
use Rattle.std.specs.Char.{encode_utf8}
use Rattle.std.specs.Fmt.{decimal}
use Rattle.std.specs.List.{list_all, list_any, range_with_len, AllByRecursion}
use Rattle.std.specs.Ordering.{is_eq, ordering_then}
use Rattle.std.specs.Str.{chars, is_utf8, IsUtf8}
use Rattle.std.specs.Int.{w64}
use Rattle.std.specs.Int.RustNames.{FitsSigned}
use Rattle.std.specs.declared.cmp.Ordering.TheVariants.{Less, Equal, Greater}
use Rattle.std.proofs.lemmas.Bool.{le-leb, lt-ltb}
use Rattle.std.proofs.lemmas.Fmt.{length-decimal-le, IsAscii-decimal}
use Rattle.std.proofs.lemmas.Int.{fits_signed_from_abs}
use Rattle.std.proofs.lemmas.Str.{IsUtf8-append, IsUtf8-from_ascii, IsUtf8-from_is_utf8}
use Rattle.std.proofs.Math.Nat.{mod-lt}
use Rattle.ldv_value.proofs.Booleans.{and-from, or-from}
use Rattle.ldv_value.specs.Limits.{text_limit}
use Rattle.ldv_value.specs.Sorted.{is_strictly_sorted}
use Rattle.ldv_value.specs.declared.value.Value.{Value}
use Rattle.sql_model.specs.ForeignKeys.{have_parents}
use Rattle.sql_model.specs.Keys.{repeats, same_values, values_at}
use Rattle.sql_model.specs.SqlNames.{sql_name_test}
use Rattle.sql_model.specs.Tables.{schema_test, is_row, is_short, numbers_test, are_keys_unique}
use Rattle.run_model.specs.TypedPackage.{IsU32, TypedRow}
use Rattle.run_model.specs.declared.world.World.{World}
use Rattle.run_model.specs.ValidPackage.{start_rule, files_rule, packed_table_precedes, rows_rule, table_rule, packed_catalog, tables_rule, script_rule}
use Rattle.run_model.specs.declared.package.PackedFile.{PackedFile}
use Rattle.run_model.specs.declared.package.PackedRow.{PackedRow}
use Rattle.run_model.specs.declared.package.PackedTable.{PackedTable}
use Rattle.run_model.specs.ValidWorld.{all_of_file, all_of_row, all_of_table, TypedWorld, world_rules, ValidWorld, CanRun}
use Rattle.run_model.proofs.ValidWorlds.{valid_runs}
use Rattle.world_json.specs.Generated.{customer_row, customers, generated_world, keyed_by_first, order_columns, order_row, order_values, orders, script_file}

-- ---- the script

abbrev start : List (List ℕ)
start = codes "main" ∷ []

abbrev files : List PackedFile
files = map all_of_file (script_file ∷ [])

start_met : start_rule start ≡ true
start_met = refl

files_met : files_rule files ≡ true
files_met = refl

script_met : script_rule start files ≡ true
unfolding is_utf8 chars encode_utf8
script_met = refl

-- ---- the orders, from a number on

abbrev rows_from : ℕ → ℕ → List PackedRow
rows_from s k = map all_of_row (map order_row (range_with_len s k))

abbrev precedes : PackedRow → PackedRow → Bool
precedes a b = nat_lt a.number b.number

each : (p : PackedRow → Bool) → ((i : ℕ) → p (all_of_row (order_row i)) ≡ true) → (s k : ℕ) → list_all p (rows_from s k) ≡ true
each p met s zero = refl
each p met s (suc k) = and-from (p (all_of_row (order_row s))) (list_all p (rows_from (s + 1) k)) (met s) (each p met (s + 1) k)

rising : (s k : ℕ) → is_strictly_sorted precedes (rows_from s k) ≡ true
rising s zero = refl
rising s (suc zero) = refl
rising s (suc (suc k)) = and-from (nat_lt s (s + 1)) (is_strictly_sorted precedes (rows_from (s + 1) (suc k))) (lt-ltb s (s + 1) (omega arith)) (rising (s + 1) (suc k))

below : (n s k : ℕ) → s + k ≤ n → list_all (λ (row : PackedRow). nat_lt row.number n) (rows_from s k) ≡ true
below n s zero within = refl
below n s (suc k) within =
    and-from (nat_lt s n) (list_all (λ (row : PackedRow). nat_lt row.number n) (rows_from (s + 1) k))
    (lt-ltb s n (omega (arith, within))) (below n (s + 1) k (omega (arith, within)))

-- ---- their keys

abbrev key_of : ℕ → List Value
key_of i = values_at (0 ∷ []) (order_values i)

abbrev keys_from : ℕ → ℕ → List (List Value)
keys_from s k = map (values_at (0 ∷ [])) (map (λ (row : PackedRow). row.values) (rows_from s k))

differ : (i j : ℕ) → i < j → same_values (key_of i) (key_of j) ≡ false
differ i j less = ap (λ b. is_eq (ordering_then (cond b Less (cond (int_lt (pos j) (pos i)) Greater Equal)) Equal)) (lt-ltb i j less)

apart : (i s k : ℕ) → i < s → list_any (same_values (key_of i)) (keys_from s k) ≡ false
apart i s zero less = refl
apart i s (suc k) less =
    or-from (same_values (key_of i) (key_of s)) (list_any (same_values (key_of i)) (keys_from (s + 1) k))
    (differ i s less) (apart i (s + 1) k (omega (arith, less)))

none_twice : (s k : ℕ) → repeats same_values (keys_from s k) ≡ false
none_twice s zero = refl
none_twice s (suc k) =
    or-from (list_any (same_values (key_of s)) (keys_from (s + 1) k)) (repeats same_values (keys_from (s + 1) k))
    (apart s (s + 1) k (omega arith)) (none_twice (s + 1) k)

-- ---- the table of orders

abbrev packed : ℕ → PackedTable
packed n = all_of_table (orders n)

rows_met : (n : ℕ) → rows_rule (packed n) ≡ true
rows_met n =
    let fit : PackedRow → Bool = λ row. is_row order_columns row.values in
    let short : PackedRow → Bool = λ row. list_all is_short row.values in
    let rows : List PackedRow = rows_from 0 n in
    let numbers : Bool = numbers_test (λ (row : PackedRow). row.number) n rows in
    and-from (numbers && list_all fit rows) (list_all short rows)
    (and-from numbers (list_all fit rows)
    (and-from (is_strictly_sorted precedes rows) (list_all (λ (row : PackedRow). nat_lt row.number n) rows) (rising 0 n) (below n 0 n (omega arith)))
    (each fit (λ i. refl) 0 n))
    (each short (λ i. refl) 0 n)

orders_met : (n : ℕ) → table_rule (packed n) ≡ true
orders_met n =
    let described : Bool = sql_name_test (codes "orders") && schema_test (keyed_by_first order_columns) in
    and-from (described && rows_rule (packed n)) (are_keys_unique (0 ∷ []) (map (λ (row : PackedRow). row.values) (rows_from 0 n)))
    (and-from described (rows_rule (packed n)) refl (rows_met n)) (ap not (none_twice 0 n))

-- ---- the customers

abbrev customers_from : ℕ → ℕ → List PackedRow
customers_from s k = map all_of_row (map customer_row (range_with_len s k))

abbrev is_short_row : PackedRow → Bool
is_short_row row = list_all is_short row.values

short_name : (i : ℕ) → i < 10 → nat_le (length (codes "c" ++ decimal i)) text_limit ≡ true
short_name i small =
    let digits : length (decimal i) ≤ 1 = length-decimal-le 1 i (omega arith) (omega (arith, small)) (omega (arith, small)) in
    le-leb (length (codes "c" ++ decimal i)) text_limit (omega (arith, digits))

short_rows : (s k : ℕ) → s + k ≤ 10 → list_all is_short_row (customers_from s k) ≡ true
short_rows s zero within = refl
short_rows s (suc k) within =
    and-from (is_short_row (all_of_row (customer_row s))) (list_all is_short_row (customers_from (s + 1) k))
    (and-from (nat_le (length (codes "c" ++ decimal s)) text_limit) true (short_name s (omega (arith, within))) refl)
    (short_rows (s + 1) k (omega (arith, within)))

customers_met : table_rule (all_of_table customers) ≡ true
customers_met =
    let t : PackedTable = all_of_table customers in
    let described : Bool = sql_name_test t.name && schema_test t.schema in
    let fit : PackedRow → Bool = λ row. is_row t.schema.columns row.values in
    let numbers : Bool = numbers_test (λ (row : PackedRow). row.number) t.next t.rows in
    and-from (described && rows_rule t) (are_keys_unique t.schema.key (map (λ (row : PackedRow). row.values) t.rows))
    (and-from described (rows_rule t) refl (and-from (numbers && list_all fit t.rows) (list_all is_short_row t.rows) refl (short_rows 0 10 (omega arith))))
    refl

-- ---- the tables

abbrev tables : ℕ → List PackedTable
tables n = all_of_table customers ∷ packed n ∷ []

tables_met : (n : ℕ) → tables_rule (tables n) ≡ true
tables_met n =
    let each : Bool = list_all table_rule (tables n) in
    let sorted : Bool = is_strictly_sorted packed_table_precedes (tables n) in
    and-from (each && sorted) (have_parents (packed_catalog (tables n)))
    (and-from each sorted
    (and-from (table_rule (all_of_table customers)) (list_all table_rule (packed n ∷ [])) customers_met
    (and-from (table_rule (packed n)) true (orders_met n) refl))
    refl)
    refl

-- ---- the world

generated_met : (n : ℕ) → IsTrue (world_rules (generated_world n))
generated_met n =
    and-from (start_rule start && files_rule files && tables_rule (tables n)) (script_rule start files)
    (and-from (start_rule start && files_rule files) (tables_rule (tables n)) (and-from (start_rule start) (files_rule files) start_met files_met) (tables_met n))
    script_met

-- ---- its numbers and texts

whole_typed : (i : ℕ) → i < 2 ^ 32 → FitsSigned w64 (pos i)
whole_typed i small = fits_signed_from_abs w64 (pos i) (omega arith)

number_typed : (i : ℕ) → i < 2 ^ 32 → IsU32 i × (IsU32 0)
number_typed i small = let none : 0 < 2 ^ 32 = omega arith in (small, none)

rest_small : (i m : ℕ) → m < 2 ^ 32 → 0 < m → i % m < 2 ^ 32
rest_small i m small some = omega (arith, mod-lt i {m = m} some)

order_typed : (i : ℕ) → i < 2 ^ 32 → TypedRow (all_of_row (order_row i))
order_typed i small =
    let number = number_typed i small in (
      number.0,
      (
        number.1,
        (
          whole_typed i small,
          (
            whole_typed (i % 10) (rest_small i 10 (omega arith) (omega arith)),
            (whole_typed (7 * i % 100) (rest_small (7 * i) 100 (omega arith) (omega arith)), tt),
          ),
        ),
      ),
    )

orders_typed : (s k : ℕ) → s + k < 2 ^ 32 → AllByRecursion TypedRow (rows_from s k)
orders_typed s zero few = tt
orders_typed s (suc k) few = (order_typed s (omega (arith, few)), orders_typed (s + 1) k (omega (arith, few)))

-- by its bytes, of a text that is written out
word_typed : (word : List ℕ) → is_utf8 word ≡ true → IsUtf8 word
word_typed word is = IsUtf8-from_is_utf8 word is

name_typed : (i : ℕ) → i < 2 ^ 32 → IsUtf8 (codes "c" ++ decimal i)
unfolding is_utf8 chars encode_utf8
name_typed i small =
    IsUtf8-append (codes "c") (decimal i) (word_typed (codes "c") refl) (IsUtf8-from_ascii (decimal i) (IsAscii-decimal i (omega (arith, small))))

customer_typed : (i : ℕ) → i < 2 ^ 32 → TypedRow (all_of_row (customer_row i))
customer_typed i small =
    let number = number_typed i small in
    (number.0, (number.1, (whole_typed i small, (name_typed i small, tt))))

customers_typed : (s k : ℕ) → s + k < 2 ^ 32 → AllByRecursion TypedRow (customers_from s k)
customers_typed s zero few = tt
customers_typed s (suc k) few = (customer_typed s (omega (arith, few)), customers_typed (s + 1) k (omega (arith, few)))

generated_typed : (n : ℕ) → n < 2 ^ 32 → TypedWorld (generated_world n)
unfolding is_utf8 chars encode_utf8
generated_typed n small =
    let none : 0 < 2 ^ 64 = omega arith in
    let one : 1 < 2 ^ 32 = omega arith in
    let ten : 10 < 2 ^ 32 = omega arith in
    let main : IsUtf8 (codes "main") = word_typed (codes "main") refl in
    let id : IsUtf8 (codes "id") = word_typed (codes "id") refl in (
      (main, tt),
      (
        none,
        (
          one,
          (
            (main, tt),
            (
              (
                (word_typed (codes "customers") refl, (((id, (word_typed (codes "name") refl, tt)), tt), (ten, customers_typed 0 10 (omega arith)))),
                ((word_typed (codes "orders") refl, (((id, (word_typed (codes "customer") refl, (word_typed (codes "amount") refl, tt))), tt), (small, orders_typed 0 n (omega (arith, small))))), tt),
              ),
              (tt, tt),
            ),
          ),
        ),
      ),
    )

pub generated_valid : (n : ℕ) (w : World) → w ≡ generated_world n → n < 2 ^ 32 → ValidWorld w
generated_valid n w is small = subst ValidWorld (sym is) (record { typed = generated_typed n small; ruled = generated_met n })

pub generated_runs : (n : ℕ) (w : World) → w ≡ generated_world n → n < 2 ^ 32 → CanRun w
generated_runs n w is small = valid_runs w (generated_valid n w is small)
