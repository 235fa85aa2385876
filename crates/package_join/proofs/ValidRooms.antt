-- Each valid joined package fits the fields of the format, since joining two packages gives it.
use Rattle.std.proofs.Common.{◌≡◌, ℕ, suc, ◌+◌, ◌≤◌, ◌^◌, true, List, [], ◌∷◌, map, length, Option, Some, None, Ok, refl, sym, ap, ◌∙◌, arith, inl, inr, ◌&&◌}
use Rattle.std.specs.Prelude.{nat_le, nat_lt}
use Rattle.std.specs.List.{list_all}
use Rattle.std.specs.Ordering.{match_ordering, nat_cmp}
use Rattle.std.specs.Cmp.Lexicographic.{slice_cmp}
use Rattle.std.specs.declared.cmp.Ordering.{Ordering}
use Rattle.std.specs.declared.cmp.Ordering.TheVariants.{Less, Equal, Greater}
use Rattle.std.proofs.lemmas.Bool.{leb-true, lt-ltb}
use Rattle.std.proofs.lemmas.Cmp.{nat_cmp_total, nat_list_cmp_total}
use Rattle.std.proofs.lemmas.Map.Lookups.{exact_bytes}
use Rattle.ldv_value.proofs.Booleans.{and-parts, and-from}
use Rattle.ldv_value.proofs.Lists.{length-map}
use Rattle.ldv_value.specs.Limits.{max_tables}
use Rattle.sql_model.specs.declared.table.Schema.{Schema}
use Rattle.run_model.specs.Between.{IsIn}
use Rattle.run_model.specs.Package.{own_row, own_table}
use Rattle.run_model.specs.ValidPackage.{start_rule, files_rule, tables_rule, are_tables, logs_rule, parts_rule, whole_rule, script_rule, rules}
use Rattle.package_codec.specs.Room.{row_room, schema_room, fits_u16_count, table_room, log_room}
use Rattle.package_codec.specs.Runs.{trace_room}
use Rattle.package_layout.specs.Valid.{IsValidPackage}
use Rattle.package_layout.specs.Whole.{has_room, tables_room}
use Rattle.package_join.specs.Types.{Package, PackedRow, PackedTable, Table, TableRow}
use Rattle.joined_data.specs.declared.joined.Clash.{Clash}
use Rattle.joined_data.specs.declared.joined.Joined.{Joined}
use Rattle.joined_data.specs.declared.joined.Which.TheVariants.{First, Second}
use Rattle.joined_data.specs.Joined.{both_rows, both_tables, clash_of, merged_rows, merged_tables, own_tables, put_together, run_in, run_package, table_cmp, unless_clash}
use Rattle.package_join.specs.Laws.{IsIncluded}
use Rattle.joined_data.specs.Merging.{merged}
use Rattle.joined_data.specs.Rooms.{common_row_room, common_table_room, common_tables_room, bare_run_room, joined_run_room, joined_room}
use Rattle.package_join.specs.Valid.{IsValidJoined}
use Rattle.joined_data.proofs.Lists.{all_in, each_of}
use Rattle.joined_data.proofs.MergedLists.{in_merged, IsOf}
use Rattle.joined_data.proofs.PickedTables.{name_of, number_of}
use Rattle.package_join.proofs.Picks.{of_map, tables_agree}
use Rattle.package_join.proofs.ValidJoins.{included}

-- ---- lists

module _ {X : Type 0} (cmp : X → X → Ordering) (both : X → X → X) where
  pub merged_length : (xs ys : List X) → length (merged cmp both xs ys) ≤ length xs + length ys
  merged_length [] ys = omega arith
  merged_length (x ∷ xs) ys = inner ys (λ us. merged_length xs us)
    where
      inner : (us : List X) → ((vs : List X) → length (merged cmp both xs vs) ≤ length xs + length vs)
          → length (merged cmp both (x ∷ xs) us) ≤ suc (length xs) + length us
      inner [] later = omega (arith, later [])
      inner (u ∷ us) later = by (cmp x u) (inner us later)
        where
          by : (o : Ordering) → length (merged cmp both (x ∷ xs) us) ≤ suc (length xs) + length us
              → length (match_ordering o (x ∷ merged cmp both xs (u ∷ us)) (both x u ∷ merged cmp both xs us) (u ∷ merged cmp both (x ∷ xs) us))
              ≤ suc (length xs) + suc (length us)
          by Less rest = omega (arith, later (u ∷ us))
          by Equal rest = omega (arith, later us)
          by Greater rest = omega (arith, rest)

-- ---- the tables of a package

own_rows_fit : (columns : ℕ) (rows : List PackedRow) → list_all (row_room columns) rows ≡ true → list_all (common_row_room columns) (map own_row rows) ≡ true
own_rows_fit columns [] h = refl
own_rows_fit columns (row ∷ rows) h =
    let both = and-parts (row_room columns row) (list_all (row_room columns) rows) h in
    and-from (common_row_room columns (own_row row)) (list_all (common_row_room columns) (map own_row rows)) both.0 (own_rows_fit columns rows both.1)

own_table_fits : (t : PackedTable) → table_room t ≡ true → common_table_room (own_table t) ≡ true
own_table_fits t h =
    let columns : ℕ = length t.schema.columns in
    let both = and-parts (schema_room t.schema) (list_all (row_room columns) t.rows) h in
    and-from (schema_room t.schema) (list_all (common_row_room columns) (map own_row t.rows)) both.0 (own_rows_fit columns t.rows both.1)

module _ (p : Package) (valid : IsValidPackage p) where
  p_rooms : (fits_u16_count p.start ≡ true) × (fits_u16_count p.tables ≡ true) × (list_all table_room p.tables ≡ true) × (trace_room p.events ≡ true)
  p_rooms =
      let room = (and-parts (has_room p) (rules p) valid).0 in
      let one = and-parts (fits_u16_count p.start) (tables_room p && (list_all log_room p.logs && trace_room p.events)) room in
      let two = and-parts (tables_room p) (list_all log_room p.logs && trace_room p.events) one.1 in
      let three = and-parts (fits_u16_count p.tables) (list_all table_room p.tables) two.0 in
      (one.0, three.0, three.1, (and-parts (list_all log_room p.logs) (trace_room p.events) two.1).1)

  -- they are few enough
  p_few : length p.tables ≤ max_tables
  p_few =
      let all = (and-parts (has_room p) (rules p) valid).1 in
      let two = and-parts (parts_rule p && whole_rule p) (script_rule p.start p.files) all in
      let three = and-parts (parts_rule p) (whole_rule p) two.0 in
      let listed = and-parts (start_rule p.start && files_rule p.files && tables_rule p.tables) (logs_rule p.logs) three.0 in
      let tabled = and-parts (start_rule p.start && files_rule p.files) (tables_rule p.tables) listed.0 in
      leb-true (length p.tables) max_tables (and-parts (nat_le (length p.tables) max_tables) (are_tables p.tables) tabled.1).0

  own_fits : (t : Table) → IsIn t (own_tables p) → common_table_room t ≡ true
  own_fits t is =
      let from = of_map own_table p.tables t is in
      ap common_table_room from.1.1 ∙ own_table_fits from.0 (each_of table_room p.tables p_rooms.2 from.0 from.1.0)

  run_fits : joined_run_room (run_in p) ≡ true
  run_fits =
      let names : List (List ℕ) = map (λ table. table.name) p.tables in
      let many : fits_u16_count names ≡ true = ap (λ (n : ℕ). nat_lt n (2 ^ 16)) (length-map p.tables (λ (table : PackedTable). table.name)) ∙ p_rooms.1 in
      and-from (bare_run_room (run_in p)) (trace_room p.events) (and-from (fits_u16_count p.start) (fits_u16_count names) p_rooms.0 many) p_rooms.3

-- ---- what they are joined to

module _ (a b : Package) (va : IsValidPackage a) (vb : IsValidPackage b) (ia : IsIncluded a) (ib : IsIncluded b) (none : clash_of a b ≡ None) where
  row_fits : (columns : ℕ) (xs ys : List TableRow) → list_all (common_row_room columns) xs ≡ true → list_all (common_row_room columns) ys ≡ true
      → (z : TableRow) → IsIn z (merged_rows xs ys) → common_row_room columns z ≡ true
  row_fits columns xs ys hx hy z is = by (in_merged number_of nat_cmp nat_cmp_total both_rows (λ x y e. refl) z xs ys is)
    where
      by : IsOf number_of nat_cmp nat_cmp_total both_rows (λ x y e. refl) z xs ys → common_row_room columns z ≡ true
      by (inl there) = each_of (common_row_room columns) xs hx z there
      by (inr (inl there)) = each_of (common_row_room columns) ys hy z there
      by (inr (inr made)) = ap (common_row_room columns) made.1.1.1.1.1 ∙ each_of (common_row_room columns) xs hx made.0 made.1.1.0

  both_fit : (x y : Table) → IsIn x (own_tables a) → IsIn y (own_tables b) → x.name ≡ y.name → common_table_room (both_tables x y) ≡ true
  both_fit x y is there same =
      let columns : ℕ = length x.schema.columns in
      let alike : x.schema ≡ y.schema = (tables_agree a b ia ib none x y is there same).0 in
      let one = and-parts (schema_room x.schema) (list_all (common_row_room columns) x.rows) (own_fits a va x is) in
      let two = and-parts (schema_room y.schema) (list_all (common_row_room (length y.schema.columns)) y.rows) (own_fits b vb y there) in
      let other : list_all (common_row_room columns) y.rows ≡ true = ap (λ (s : Schema). list_all (common_row_room (length s.columns)) y.rows) alike ∙ two.1 in
      and-from (schema_room x.schema) (list_all (common_row_room columns) (merged_rows x.rows y.rows)) one.0
      (all_in (common_row_room columns) (merged_rows x.rows y.rows) (row_fits columns x.rows y.rows one.1 other))

  table_fits : (z : Table) → IsIn z (merged_tables (own_tables a) (own_tables b)) → common_table_room z ≡ true
  table_fits z is = by (in_merged name_of (slice_cmp nat_cmp) nat_list_cmp_total both_tables (λ x y e. refl) z (own_tables a) (own_tables b) is)
    where
      by : IsOf name_of (slice_cmp nat_cmp) nat_list_cmp_total both_tables (λ x y e. refl) z (own_tables a) (own_tables b) → common_table_room z ≡ true
      by (inl there) = own_fits a va z there
      by (inr (inl there)) = own_fits b vb z there
      by (inr (inr made)) =
          ap common_table_room made.1.1.1.1.1
          ∙ both_fit made.0 made.1.0 made.1.1.0 made.1.1.1.0 (exact_bytes made.0.name made.1.0.name made.1.1.1.1.0)

  pub together_fits : joined_room (put_together a b) ≡ true
  together_fits =
      let tables : List Table = merged_tables (own_tables a) (own_tables b) in
      let long = merged_length table_cmp both_tables (own_tables a) (own_tables b) in
      let one : length (own_tables a) ≡ length a.tables = length-map a.tables own_table in
      let two : length (own_tables b) ≡ length b.tables = length-map b.tables own_table in
      let many : fits_u16_count tables ≡ true = lt-ltb (length tables) (2 ^ 16) (omega (arith, long, one, two, p_few a va, p_few b vb)) in
      and-from (common_tables_room tables) (joined_run_room (run_in a) && joined_run_room (run_in b))
      (and-from (fits_u16_count tables) (list_all common_table_room tables) many (all_in common_table_room tables table_fits))
      (and-from (joined_run_room (run_in a)) (joined_run_room (run_in b)) (run_fits a va) (run_fits b vb))

-- what is joined without a clash
pub unclashed : (a b : Package) (j : Joined) (o : Option Clash) → clash_of a b ≡ o → unless_clash o (put_together a b) ≡ Ok j
    → (clash_of a b ≡ None) × (put_together a b ≡ j)
unclashed a b j (Some clash) e ok = cc
unclashed a b j None e ok = (e, cc)

pub valid_room : (j : Joined) → IsValidJoined j → joined_room j ≡ true
valid_room j v =
    let a : Package = run_package First j in
    let b : Package = run_package Second j in
    let its = unclashed a b j (clash_of a b) refl v.same in
    sym (ap joined_room its.1) ∙ together_fits a b v.first v.second (included a v.first refl) (included b v.second refl) its.0
