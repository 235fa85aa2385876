-- Tables: what is spelled is read, and what is read was spelled so.
use Rattle.std.proofs.Common.{◌≡◌, ℕ, zero, suc, ◌^◌, ◌<◌, Bool, true, false, List, [], ◌∷◌, ◌++◌, length, Some, refl, subst, arith, ◌&&◌}
use Rattle.ldv_value.proofs.Options.{same-some}
use Rattle.package_codec.specs.Version.{Version, One, Two}
use Rattle.std.specs.Prelude.{nat_lt, ◌==◌}
use Rattle.std.specs.List.{list_all, AllByRecursion}
use Rattle.std.specs.Str.{IsUtf8}
use Rattle.std.specs.Int.{w8, w32, to_be_bytes}
use Rattle.std.proofs.lemmas.Bool.{ltb-true, eqb-true, lt-ltb}
use Rattle.ldv_value.specs.declared.value.Value.{Value}
use Rattle.ldv_value.proofs.Booleans.{and-parts, and-from}
use Rattle.sql_model.specs.declared.need.Rule.{Rule}
use Rattle.sql_model.specs.declared.need.Rule.TheVariants.{L, H, K, P, C}
use Rattle.sql_model.specs.declared.table.Column.{Column}
use Rattle.sql_model.specs.declared.table.Foreign.{Foreign}
use Rattle.sql_model.specs.declared.table.Schema.{Schema}
use Rattle.run_model.specs.declared.package.PackedRow.{PackedRow}
use Rattle.run_model.specs.declared.package.PackedTable.{PackedTable}
use Rattle.package_codec.specs.Fields.{DecodeResult, then_at, both_at, number_at, text_spelling, list_spelling, list_at, text_at}
use Rattle.package_codec.specs.Spelling.{value_spelling, kind_number, rule_number, column_spelling, number_spelling, reason_spelling, cells_spelling, row_spelling, places_spelling, foreign_spelling, foreigns_spelling, schema_spelling, table_spelling}
use Rattle.package_codec.specs.Typed.{IsU32, TypedValue, TypedValues, TypedColumn, TypedForeign, TypedSchema, TypedRow, TypedTable}
use Rattle.package_codec.specs.Room.{fits_u8_count, key_room, foreign_room, foreigns_room, schema_room, row_room, table_room}
use Rattle.package_codec.specs.Counts.{CountedList, CountedValue, CountedColumn, CountedForeign, CountedForeigns, CountedSchema, CountedRow, CountedTable}
use Rattle.package_codec.specs.Reading.{value_at, kind_of, kind_at, column_at, rule_of, rule_at, reason_at, cells_at, row_at, rows_at, places_at, foreign_at, foreigns_at, schema_at, table_at}
use Rattle.package_codec.proofs.Laws.{number_is, Took, IsField, always, list_all-always, Uncounted, all_uncounted, restate, recount, made_law, then_law, struct_law}
use Rattle.package_codec.proofs.Numbers.{wide8, wide32, number_law, text_law, items_law, byte_list_law, long_law}
use Rattle.package_codec.proofs.Values.{value_law}

abbrev pub u32_law : IsField (to_be_bytes w32) IsU32 always Uncounted (number_at w32)
u32_law = number_law w32 (2 ^ 32) wide32

-- any value is one of memory
abbrev pub Anything : {X : Type 0} → X → Type 0
Anything x = Unit {0}

-- ---- columns

kind_again : (text not_null : Bool) → (kind_number text not_null < 256) × (true ≡ true) × (kind_of (kind_number text not_null) ≡ Some (text, not_null))
kind_again false false = (omega arith, refl, refl)
kind_again true false = (omega arith, refl, refl)
kind_again false true = (omega arith, refl, refl)
kind_again true true = (omega arith, refl, refl)

abbrev Kind : Type 0
Kind = Bool × Bool

abbrev number_of_kind : Kind → ℕ
number_of_kind k = kind_number k.0 k.1

kind_back : (n : ℕ) (p : Kind) → kind_of n ≡ Some p → n ≡ kind_number p.0 p.1
kind_back zero p e = absurd cc
kind_back (suc zero) p e = number_is number_of_kind 1 (false, false) p refl e
kind_back (suc (suc zero)) p e = number_is number_of_kind 2 (true, false) p refl e
kind_back (suc (suc (suc zero))) p e = number_is number_of_kind 3 (false, true) p refl e
kind_back (suc (suc (suc (suc zero)))) p e = number_is number_of_kind 4 (true, true) p refl e
kind_back (suc (suc (suc (suc (suc n))))) p e = absurd cc

kind_law : IsField (λ (p : Kind). to_be_bytes w8 (kind_number p.0 p.1)) Anything always Uncounted kind_at
kind_law = made_law (to_be_bytes w8) (λ n. n < 256) always (number_at w8) Anything always kind_of (λ (p : Kind). kind_number p.0 p.1) (number_law w8 256 wide8)
    (λ p t f. kind_again p.0 p.1) (λ n p t f e. (kind_back n p e, tt, refl))

abbrev ColumnParts : Type 0
ColumnParts = List ℕ × Kind

column_law : IsField column_spelling TypedColumn always CountedColumn column_at
column_law = recount CountedColumn (restate column_spelling (λ c. IsUtf8 c.name × Unit {0}) TypedColumn always always column_at
    (struct_law (λ (p : ColumnParts). text_spelling p.0 ++ to_be_bytes w8 (kind_number p.1.0 p.1.1)) (λ (p : ColumnParts). IsUtf8 p.0 × Unit {0}) always (both_at text_at kind_at) (λ (p : ColumnParts). record { name = p.0; text = p.1.0; not_null = p.1.1 }) (λ (c : Column). (c.name, (c.text, c.not_null)))
    (then_law text_spelling IsUtf8 always text_at (λ (p : Kind). to_be_bytes w8 (kind_number p.0 p.1)) Anything (λ a. always) (λ a. kind_at) text_law (λ a. kind_law)) (λ c. refl) (λ p. refl))
    (λ c t h. ((t, tt), h)) (λ c t h. (t.0, h)))
    (λ c n. (n, tt)) (λ c n. n.0)

-- ---- rows

rule_again : (r : Rule) → (rule_number r < 256) × (true ≡ true) × (rule_of (rule_number r) ≡ Some r)
rule_again L = (omega arith, refl, refl)
rule_again H = (omega arith, refl, refl)
rule_again K = (omega arith, refl, refl)
rule_again P = (omega arith, refl, refl)
rule_again C = (omega arith, refl, refl)

rule_back : (n : ℕ) (r : Rule) → rule_of n ≡ Some r → n ≡ rule_number r
rule_back zero r e = absurd cc
rule_back (suc zero) r e = number_is rule_number 1 L r refl e
rule_back (suc (suc zero)) r e = number_is rule_number 2 H r refl e
rule_back (suc (suc (suc zero))) r e = number_is rule_number 3 K r refl e
rule_back (suc (suc (suc (suc zero)))) r e = number_is rule_number 4 P r refl e
rule_back (suc (suc (suc (suc (suc zero))))) r e = number_is rule_number 5 C r refl e
rule_back (suc (suc (suc (suc (suc (suc n)))))) r e = absurd cc

pub rule_law : IsField (λ r. to_be_bytes w8 (rule_number r)) Anything always Uncounted rule_at
rule_law = made_law (to_be_bytes w8) (λ n. n < 256) always (number_at w8) Anything always rule_of rule_number (number_law w8 256 wide8)
    (λ r t f. rule_again r) (λ n r t f e. (rule_back n r e, tt, refl))

abbrev pub Reason : Type 0
Reason = ℕ × Rule

pub reason_law : IsField (λ (p : Reason). reason_spelling p.0 p.1) (λ (p : Reason). IsU32 p.0 × Unit {0}) always Uncounted reason_at
reason_law = recount Uncounted (then_law (to_be_bytes w32) IsU32 always (number_at w32) (λ r. to_be_bytes w8 (rule_number r)) Anything (λ a. always) (λ a. rule_at) u32_law (λ a. rule_law)) (λ p n. (tt, tt)) (λ p n. tt)

abbrev RowEnd : Type 0
RowEnd = Reason × List Value

abbrev RowParts : Type 0
RowParts = ℕ × RowEnd

abbrev pub so_many : ℕ → List Value → Bool
so_many columns values = (length values == columns) && list_all always values

abbrev end_spelling : RowEnd → List ℕ
end_spelling p = reason_spelling p.0.0 p.0.1 ++ cells_spelling p.1

abbrev TypedEnd : RowEnd → Type 0
TypedEnd p = (IsU32 p.0.0 × Unit {0}) × TypedValues p.1

abbrev CountedEnd : RowEnd → Type 0
CountedEnd p = Unit {0} × AllByRecursion CountedValue p.1

end_law : (columns : ℕ) → IsField end_spelling TypedEnd (λ (p : RowEnd). so_many columns p.1) CountedEnd (both_at reason_at (cells_at columns))
end_law columns = then_law (λ (p : Reason). reason_spelling p.0 p.1) (λ (p : Reason). IsU32 p.0 × Unit {0}) always reason_at cells_spelling TypedValues (λ a. so_many columns) (λ a. cells_at columns) reason_law (λ a. items_law value_spelling TypedValue always value_at value_law columns)

abbrev parts_spelling : RowParts → List ℕ
parts_spelling p = number_spelling p.0 ++ end_spelling p.1

abbrev TypedParts : RowParts → Type 0
TypedParts p = IsU32 p.0 × TypedEnd p.1

abbrev parts_at : ℕ → List ℕ → DecodeResult RowParts
parts_at columns = both_at (number_at w32) (both_at reason_at (cells_at columns))

parts_law : (columns : ℕ) → IsField parts_spelling TypedParts (λ (p : RowParts). so_many columns p.1.1) (λ (p : RowParts). Unit {0} × CountedEnd p.1) (parts_at columns)
parts_law columns = then_law number_spelling IsU32 always (number_at w32) end_spelling TypedEnd (λ a (p : RowEnd). so_many columns p.1) (λ a. both_at reason_at (cells_at columns)) u32_law (λ a. end_law columns)

row_law : (columns : ℕ) → IsField row_spelling TypedRow (row_room columns) CountedRow (row_at columns)
row_law columns = recount CountedRow (restate row_spelling (λ r. IsU32 r.number × ((IsU32 r.statement × Unit {0}) × TypedValues r.values)) TypedRow (λ r. so_many columns r.values) (row_room columns) (row_at columns)
    (struct_law parts_spelling TypedParts (λ (p : RowParts). so_many columns p.1.1) (parts_at columns)
    (λ (p : RowParts). record { number = p.0; statement = p.1.0.0; rule = p.1.0.1; values = p.1.1 }) (λ (r : PackedRow). (r.number, ((r.statement, r.rule), r.values))) (parts_law columns) (λ r. refl) (λ p. refl))
    (λ r t h. ((t.0, ((t.1.0, tt), t.1.1)), and-from (length r.values == columns) (list_all always r.values) h (list_all-always r.values)))
    (λ r t h. ((t.0, (t.1.0.0, t.1.1)), (and-parts (length r.values == columns) (list_all always r.values) h).0)))
    (λ r n. (tt, (tt, n))) (λ r n. n.1.1)

row_filled : (r : PackedRow) → 0 < length (row_spelling r)
row_filled r = omega arith

rows_law : (columns : ℕ) → IsField (list_spelling w32 row_spelling) (AllByRecursion TypedRow) (list_all (row_room columns)) (CountedList CountedRow) (rows_at columns)
rows_law columns = long_law row_spelling TypedRow (row_room columns) (row_at columns) (row_law columns) row_filled

-- ---- tables

bytes_test : (key : List ℕ) → AllByRecursion (λ n. n < 256) key → list_all (λ place. nat_lt place 256) key ≡ true
bytes_test [] h = refl
bytes_test (k ∷ key) h = and-from (nat_lt k 256) (list_all (λ place. nat_lt place 256) key) (lt-ltb k 256 h.0) (bytes_test key h.1)

bytes_fact : (key : List ℕ) → list_all (λ place. nat_lt place 256) key ≡ true → AllByRecursion (λ n. n < 256) key
bytes_fact [] h = tt
bytes_fact (k ∷ key) h = let both = and-parts (nat_lt k 256) (list_all (λ place. nat_lt place 256) key) h in (ltb-true k 256 both.0, bytes_fact key both.1)

places_law : IsField (list_spelling w8 (to_be_bytes w8)) Anything key_room Uncounted places_at
places_law = recount Uncounted (restate (list_spelling w8 (to_be_bytes w8)) (AllByRecursion (λ n. n < 256)) Anything (λ key. fits_u8_count key && list_all always key) key_room places_at (byte_list_law (to_be_bytes w8) (λ n. n < 256) always (number_at w8) (number_law w8 256 wide8))
    (λ key t h. let both = and-parts (fits_u8_count key) (list_all (λ place. nat_lt place 256) key) h in (bytes_fact key both.1, and-from (fits_u8_count key) (list_all always key) both.0 (list_all-always key)))
    (λ key t h. (tt, and-from (fits_u8_count key) (list_all (λ place. nat_lt place 256) key) (and-parts (fits_u8_count key) (list_all always key) h).0 (bytes_test key t))))
    (λ key n. all_uncounted key) (λ key n. tt)

-- ---- foreign keys

abbrev ForeignParts : Type 0
ForeignParts = List ℕ × List ℕ

foreign_law : IsField foreign_spelling TypedForeign foreign_room CountedForeign foreign_at
foreign_law = recount CountedForeign (restate foreign_spelling (λ f. Unit {0} × IsUtf8 f.parent) TypedForeign (λ f. key_room f.columns && true) foreign_room foreign_at
    (struct_law (λ (p : ForeignParts). places_spelling p.0 ++ text_spelling p.1) (λ (p : ForeignParts). Unit {0} × IsUtf8 p.1) (λ (p : ForeignParts). key_room p.0 && true) (both_at places_at text_at)
    (λ (p : ForeignParts). record { columns = p.0; parent = p.1 }) (λ (f : Foreign). (f.columns, f.parent))
    (then_law places_spelling Anything key_room places_at text_spelling IsUtf8 (λ a. always) (λ a. text_at) places_law (λ a. text_law)) (λ f. refl) (λ p. refl))
    (λ f t h. ((tt, t), and-from (key_room f.columns) true h refl))
    (λ f t h. (t.1, (and-parts (key_room f.columns) true h).0)))
    (λ f n. (tt, n)) (λ f n. n.1)

-- what a version has of them: version 1 has none
abbrev pub has_of : Version → List Foreign → Bool
has_of One fs = length fs == 0
has_of Two fs = true

abbrev foreigns_fit : Version → List Foreign → Bool
foreigns_fit v fs = foreigns_room fs && has_of v fs

none_again : (fs : List Foreign) (rest : List ℕ) → (length fs == 0) ≡ true → foreigns_at One rest ≡ Some (fs, rest)
none_again [] rest none = refl
none_again (f ∷ fs) rest none = absurd (let no : length (f ∷ fs) ≡ 0 = eqb-true (length (f ∷ fs)) 0 none in omega (arith, no))

none_took : (bytes : List ℕ) (fs : List Foreign) (rest : List ℕ) → foreigns_at One bytes ≡ Some (fs, rest)
    → Took (foreigns_spelling One) (AllByRecursion TypedForeign) (foreigns_fit One) (CountedForeigns One) bytes fs rest
none_took bytes fs rest e =
    subst (λ (y : List Foreign × List ℕ). Took (foreigns_spelling One) (AllByRecursion TypedForeign) (foreigns_fit One) (CountedForeigns One) bytes y.0 y.1)
    (same-some ([], bytes) (fs, rest) e)
    (record { parts = refl; is_typed = tt; is_fit = refl; is_counted = tt })

foreigns_law : (v : Version) → IsField (foreigns_spelling v) (AllByRecursion TypedForeign) (foreigns_fit v) (CountedForeigns v) (foreigns_at v)
foreigns_law One = record {
  again = λ fs rest t h n. none_again fs rest (and-parts (foreigns_room fs) (length fs == 0) h).1;
  took = λ bytes fs rest b e. none_took bytes fs rest e;
  short = λ fs len. tt;
}
foreigns_law Two = restate (foreigns_spelling Two) (AllByRecursion TypedForeign) (AllByRecursion TypedForeign) foreigns_room (foreigns_fit Two) (foreigns_at Two)
    (byte_list_law foreign_spelling TypedForeign foreign_room foreign_at foreign_law)
    (λ fs t h. (t, (and-parts (foreigns_room fs) true h).0))
    (λ fs t h. (t, and-from (foreigns_room fs) true h refl))

-- ---- schemas

abbrev Keys : Type 0
Keys = List ℕ × List Foreign

abbrev SchemaParts : Type 0
SchemaParts = List Column × Keys

abbrev keys_parts : Version → Keys → List ℕ
keys_parts v p = places_spelling p.0 ++ foreigns_spelling v p.1

abbrev TypedKeys : Keys → Type 0
TypedKeys p = Unit {0} × AllByRecursion TypedForeign p.1

abbrev keys_fit : Version → Keys → Bool
keys_fit v p = key_room p.0 && foreigns_fit v p.1

keys_law : (v : Version) → IsField (keys_parts v) TypedKeys (keys_fit v) (λ (p : Keys). Unit {0} × CountedForeigns v p.1) (both_at places_at (foreigns_at v))
keys_law v = then_law places_spelling Anything key_room places_at (foreigns_spelling v) (AllByRecursion TypedForeign) (λ a. foreigns_fit v) (λ a. foreigns_at v) places_law (λ a. foreigns_law v)

abbrev columns_fit : List Column → Bool
columns_fit cs = fits_u8_count cs && list_all always cs

abbrev pub schema_fits : Version → Schema → Bool
schema_fits v s = schema_room s && has_of v s.foreign

-- what is asked of the parts is what is asked of the schema
schema_to : (v : Version) (s : Schema) → schema_fits v s ≡ true → (columns_fit s.columns && keys_fit v (s.key, s.foreign)) ≡ true
schema_to v s h =
    let a = and-parts (schema_room s) (has_of v s.foreign) h in
    let b = and-parts (fits_u8_count s.columns) (key_room s.key && foreigns_room s.foreign) a.0 in
    let c = and-parts (key_room s.key) (foreigns_room s.foreign) b.1 in
    and-from (columns_fit s.columns) (keys_fit v (s.key, s.foreign))
    (and-from (fits_u8_count s.columns) (list_all always s.columns) b.0 (list_all-always s.columns))
    (and-from (key_room s.key) (foreigns_fit v s.foreign) c.0 (and-from (foreigns_room s.foreign) (has_of v s.foreign) c.1 a.1))

schema_from : (v : Version) (s : Schema) → (columns_fit s.columns && keys_fit v (s.key, s.foreign)) ≡ true → schema_fits v s ≡ true
schema_from v s h =
    let a = and-parts (columns_fit s.columns) (keys_fit v (s.key, s.foreign)) h in
    let b = and-parts (key_room s.key) (foreigns_fit v s.foreign) a.1 in
    let c = and-parts (foreigns_room s.foreign) (has_of v s.foreign) b.1 in
    and-from (schema_room s) (has_of v s.foreign)
    (and-from (fits_u8_count s.columns) (key_room s.key && foreigns_room s.foreign) (and-parts (fits_u8_count s.columns) (list_all always s.columns) a.0).0
    (and-from (key_room s.key) (foreigns_room s.foreign) b.0 c.0))
    c.1

pub schema_law : (v : Version) → IsField (schema_spelling v) TypedSchema (schema_fits v) (CountedSchema v) (schema_at v)
schema_law v = recount (CountedSchema v) (restate (schema_spelling v) (λ s. AllByRecursion TypedColumn s.columns × TypedKeys (s.key, s.foreign)) TypedSchema (λ s. columns_fit s.columns && keys_fit v (s.key, s.foreign)) (schema_fits v) (schema_at v)
    (struct_law (λ (p : SchemaParts). list_spelling w8 column_spelling p.0 ++ keys_parts v p.1) (λ (p : SchemaParts). AllByRecursion TypedColumn p.0 × TypedKeys p.1) (λ (p : SchemaParts). columns_fit p.0 && keys_fit v p.1) (both_at (list_at w8 column_at) (both_at places_at (foreigns_at v)))
    (λ (p : SchemaParts). record { columns = p.0; key = p.1.0; foreign = p.1.1 }) (λ (s : Schema). (s.columns, (s.key, s.foreign)))
    (then_law (list_spelling w8 column_spelling) (AllByRecursion TypedColumn) columns_fit (list_at w8 column_at) (keys_parts v) TypedKeys (λ a. keys_fit v) (λ a. both_at places_at (foreigns_at v)) (byte_list_law column_spelling TypedColumn always column_at column_law) (λ a. keys_law v))
    (λ s. refl) (λ p. refl))
    (λ s t h. ((t.0, (tt, t.1)), schema_to v s h))
    (λ s t h. ((t.0, t.1.1), schema_from v s h)))
    (λ s n. (n.0, (tt, n.1))) (λ s n. (n.0, n.1.1))

abbrev TableEnd : Type 0
TableEnd = ℕ × List PackedRow

abbrev TableTail : Type 0
TableTail = Schema × TableEnd

abbrev TableParts : Type 0
TableParts = List ℕ × TableTail

abbrev tail_spelling : Version → TableTail → List ℕ
tail_spelling v p = schema_spelling v p.0 ++ (to_be_bytes w32 p.1.0 ++ list_spelling w32 row_spelling p.1.1)

abbrev TypedTail : TableTail → Type 0
TypedTail p = TypedSchema p.0 × (IsU32 p.1.0 × AllByRecursion TypedRow p.1.1)

abbrev CountedTail : Version → TableTail → Type 0
CountedTail v p = CountedSchema v p.0 × (Unit {0} × CountedList CountedRow p.1.1)

abbrev tail_fits : Version → TableTail → Bool
tail_fits v p = schema_fits v p.0 && list_all (row_room (length p.0.columns)) p.1.1

abbrev tail_at : Version → List ℕ → DecodeResult TableTail
tail_at v = then_at (schema_at v) (λ s. both_at (number_at w32) (rows_at (length s.columns)))

table_end_law : (s : Schema) → IsField (λ (p : TableEnd). to_be_bytes w32 p.0 ++ list_spelling w32 row_spelling p.1) (λ (p : TableEnd). IsU32 p.0 × AllByRecursion TypedRow p.1) (λ (p : TableEnd). list_all (row_room (length s.columns)) p.1) (λ (p : TableEnd). Unit {0} × CountedList CountedRow p.1) (both_at (number_at w32) (rows_at (length s.columns)))
table_end_law s = then_law (to_be_bytes w32) IsU32 always (number_at w32) (list_spelling w32 row_spelling) (AllByRecursion TypedRow) (λ a. list_all (row_room (length s.columns))) (λ a. rows_at (length s.columns)) u32_law (λ a. rows_law (length s.columns))

table_tail_law : (v : Version) → IsField (tail_spelling v) TypedTail (tail_fits v) (CountedTail v) (tail_at v)
table_tail_law v = then_law (schema_spelling v) TypedSchema (schema_fits v) (schema_at v) (λ (p : TableEnd). to_be_bytes w32 p.0 ++ list_spelling w32 row_spelling p.1) (λ (p : TableEnd). IsU32 p.0 × AllByRecursion TypedRow p.1)
    (λ s (p : TableEnd). list_all (row_room (length s.columns)) p.1) (λ s. both_at (number_at w32) (rows_at (length s.columns))) (schema_law v) table_end_law

-- the format has room for the table, and the version has its foreign keys
abbrev pub table_fits : Version → PackedTable → Bool
table_fits v t = table_room t && has_of v t.schema.foreign

table_to : (v : Version) (t : PackedTable) → table_fits v t ≡ true → tail_fits v (t.schema, (t.next, t.rows)) ≡ true
table_to v t h =
    let rows : Bool = list_all (row_room (length t.schema.columns)) t.rows in
    let a = and-parts (table_room t) (has_of v t.schema.foreign) h in
    let b = and-parts (schema_room t.schema) rows a.0 in
    and-from (schema_fits v t.schema) rows (and-from (schema_room t.schema) (has_of v t.schema.foreign) b.0 a.1) b.1

table_from : (v : Version) (t : PackedTable) → tail_fits v (t.schema, (t.next, t.rows)) ≡ true → table_fits v t ≡ true
table_from v t h =
    let rows : Bool = list_all (row_room (length t.schema.columns)) t.rows in
    let a = and-parts (schema_fits v t.schema) rows h in
    let b = and-parts (schema_room t.schema) (has_of v t.schema.foreign) a.0 in
    and-from (table_room t) (has_of v t.schema.foreign) (and-from (schema_room t.schema) rows b.0 a.1) b.1

pub table_law : (v : Version) → IsField (table_spelling v) TypedTable (table_fits v) (CountedTable v) (table_at v)
table_law v = recount (CountedTable v) (restate (table_spelling v) TypedTable TypedTable (λ t. tail_fits v (t.schema, (t.next, t.rows))) (table_fits v) (table_at v)
    (struct_law (λ (p : TableParts). text_spelling p.0 ++ tail_spelling v p.1) (λ (p : TableParts). IsUtf8 p.0 × TypedTail p.1) (λ (p : TableParts). tail_fits v p.1) (both_at text_at (tail_at v))
    (λ (p : TableParts). record { name = p.0; schema = p.1.0; next = p.1.1.0; rows = p.1.1.1 }) (λ (t : PackedTable). (t.name, (t.schema, (t.next, t.rows))))
    (then_law text_spelling IsUtf8 always text_at (tail_spelling v) TypedTail (λ a. tail_fits v) (λ a. tail_at v) text_law (λ a. table_tail_law v)) (λ t. refl) (λ p. refl))
    (λ t h k. (h, table_to v t k))
    (λ t h k. (h, table_from v t k)))
    (λ t n. (n.0, (n.1.0, (tt, n.1.1)))) (λ t n. (n.0, (n.1.0, n.1.1.1)))

pub table_filled : (v : Version) (t : PackedTable) → 0 < length (table_spelling v t)
table_filled v t = omega arith
