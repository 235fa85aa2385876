-- Both packages are picked again out of their joined package.
use Rattle.std.proofs.Common.{◌≡◌, ℕ, List, [], ◌∷◌, refl, sym, ap, ◌∙◌, subst, true, false, inl, inr}
use Rattle.std.specs.Prelude.{Option, Some, None, Ok, map, nat_lt, not, ◌&&◌}
use Rattle.std.specs.List.{list_all, filter_map}
use Rattle.std.specs.Option.{option_or}
use Rattle.std.specs.Ordering.{nat_cmp}
use Rattle.std.specs.Cmp.Lexicographic.{slice_cmp}
use Rattle.std.specs.declared.cmp.Ordering.{Ordering}
use Rattle.std.specs.declared.cmp.Ordering.TheVariants.{Less, Equal}
use Rattle.std.proofs.lemmas.Bool.{and_parts}
use Rattle.std.proofs.lemmas.Cmp.{nat_cmp_total, nat_list_cmp_total, tied_itself}
use Rattle.ldv_value.specs.Sorted.{is_strictly_sorted, text_precedes}
use Rattle.ldv_value.proofs.Orderings.{is_lt-true}
use Rattle.ldv_value.specs.Options.{first_some}
use Rattle.sql_model.specs.Keys.{same_values}
use Rattle.sql_model.specs.ForeignKeys.{have_parents}
use Rattle.sql_model.specs.Tables.{schema_test, is_row, is_short, numbers_test, are_keys_unique}
use Rattle.sql_model.specs.SqlNames.{sql_name_test}
use Rattle.sql_model.proofs.UniqueKeys.{or_none}
use Rattle.run_model.specs.Between.{IsIn}
use Rattle.run_model.specs.Package.{own_row, own_table}
use Rattle.run_model.specs.ValidPackage.{file_rule, packed_catalog, packed_file_precedes, rows_rule, table_rule, packed_table_precedes}
use Rattle.package_join.specs.Types.{Package, PackedFile, PackedRow, PackedTable, Table, TableRow}
use Rattle.joined_data.specs.declared.joined.ClashKind.TheVariants as kinds
use Rattle.joined_data.specs.Merging.{first_clash}
use Rattle.joined_data.specs.Same.{contents_differ}
use Rattle.joined_data.specs.Joined.{joined_of, unless_clash, put_together, run_in, file_cmp, table_cmp, both_files, both_tables, both_rows, merged_rows, merged_files, merged_tables, own_tables, clash_at, file_clash, table_clash, tables_differ, row_clash, rows_clash, keys_clash, clash_in, clash_of, picked_file, picked_row, picked_package}
use Rattle.joined_data.specs.declared.joined.Clash.{Clash}
use Rattle.joined_data.specs.declared.joined.Joined.{Joined}
use Rattle.package_join.specs.Laws.{IsIncluded, PickLaw, AnewLaw}
use Rattle.joined_data.proofs.Agreeing.{agree, no_clash_if, whole_of, same_tables, same_rows}
use Rattle.joined_data.proofs.Cuts.{Rising, rising}
use Rattle.joined_data.proofs.Picking.{merged_flip}
use Rattle.joined_data.proofs.PickedFiles.{path_of, files_picked, picked_either}
use Rattle.joined_data.proofs.PickedTables.{number_in, name_in, number_of, name_of, RowsRise, pick_table, tables_as, tables_picked, table_picked, rows_picked}

-- ---- lists that rise

pub of_map : {X Y : Type 0} (f : X → Y) (xs : List X) (y : Y) → IsIn y (map f xs) → (x : X) × (IsIn x xs × (y ≡ f x))
of_map f [] y is = absurd is
of_map f (x ∷ xs) y (inl same) = (x, (inl refl, same))
of_map f (x ∷ xs) y (inr more) = let found = of_map f xs y more in (found.0, (inr found.1.0, found.1.1))

rising_map : {X Y K : Type 0} (f : X → Y) (key : Y → K) (key_cmp : K → K → Ordering) (xs : List X) → Rising (λ x. key (f x)) key_cmp xs → Rising key key_cmp (map f xs)
rising_map f key key_cmp [] rises = tt
rising_map f key key_cmp (x ∷ xs) rises = (
  λ y is. let from = of_map f xs y is in ap (λ z. key_cmp (key (f x)) (key z)) from.1.1 ∙ rises.0 from.0 from.1.0,
  rising_map f key key_cmp xs rises.1,
)

module _ (p : Package) (valid : IsIncluded p) where
  pub files_rise : Rising path_of (slice_cmp nat_cmp) p.files
  files_rise =
      rising path_of (slice_cmp nat_cmp) nat_list_cmp_total text_precedes (λ a b lower. is_lt-true (slice_cmp nat_cmp a b) lower) p.files
      (and_parts (list_all file_rule p.files) (is_strictly_sorted packed_file_precedes p.files) valid.files).1

  -- apart from the parents to which they refer
  each_sorted : (list_all table_rule p.tables && is_strictly_sorted packed_table_precedes p.tables) ≡ true
  each_sorted = (and_parts (list_all table_rule p.tables && is_strictly_sorted packed_table_precedes p.tables) (have_parents (packed_catalog p.tables)) valid.tables).0

  tables_rise : Rising name_in (slice_cmp nat_cmp) p.tables
  tables_rise =
      rising name_in (slice_cmp nat_cmp) nat_list_cmp_total text_precedes (λ a b lower. is_lt-true (slice_cmp nat_cmp a b) lower) p.tables
      (and_parts (list_all table_rule p.tables) (is_strictly_sorted packed_table_precedes p.tables) each_sorted).1

  pub of_all : (ts : List PackedTable) → list_all table_rule ts ≡ true → (t : PackedTable) → IsIn t ts → table_rule t ≡ true
  of_all [] all t is = absurd is
  of_all (u ∷ us) all t (inl same) = ap table_rule same ∙ (and_parts (table_rule u) (list_all table_rule us) all).0
  of_all (u ∷ us) all t (inr more) = of_all us (and_parts (table_rule u) (list_all table_rule us) all).1 t more

  rows_rise : RowsRise p.tables
  rows_rise t is =
      let rule = of_all p.tables (and_parts (list_all table_rule p.tables) (is_strictly_sorted packed_table_precedes p.tables) each_sorted).0 t is in
      let described = and_parts (sql_name_test t.name && schema_test t.schema && rows_rule t) (are_keys_unique t.schema.key (map (λ (row : PackedRow). row.values) t.rows)) rule in
      let rows = and_parts (sql_name_test t.name && schema_test t.schema) (rows_rule t) described.0 in
      let fit = and_parts (numbers_test (λ (row : PackedRow). row.number) t.next t.rows && list_all (λ (row : PackedRow). is_row t.schema.columns row.values) t.rows) (list_all (λ (row : PackedRow). list_all is_short row.values) t.rows) rows.1 in
      let numbered = and_parts (numbers_test (λ (row : PackedRow). row.number) t.next t.rows) (list_all (λ (row : PackedRow). is_row t.schema.columns row.values) t.rows) fit.0 in
      let sorted = and_parts (is_strictly_sorted (λ (a b : PackedRow). nat_lt a.number b.number) t.rows) (list_all (λ (row : PackedRow). nat_lt row.number t.next) t.rows) numbered.0 in
      rising number_in nat_cmp nat_cmp_total nat_lt (λ a b lower. less a b lower) t.rows sorted.0
    where
      less : (a b : ℕ) → nat_lt a b ≡ true → nat_cmp a b ≡ Less
      less a b lower = rw lower refl

  pub own_rise : Rising name_of (slice_cmp nat_cmp) (own_tables p)
  own_rise = rising_map own_table name_of (slice_cmp nat_cmp) p.tables tables_rise

  pub its_rows_rise : (y : Table) → IsIn y (own_tables p) → Rising number_of nat_cmp y.rows
  its_rows_rise y is =
      let from = of_map own_table p.tables y is in
      subst (λ (u : Table). Rising number_of nat_cmp u.rows) (sym from.1.1) (rising_map own_row number_of nat_cmp from.0.rows (rows_rise from.0 from.1.0))

-- ---- the law

module _ (a b : Package) (va : IsIncluded a) (vb : IsIncluded b) (none : clash_of a b ≡ None) where
  abbrev both_lists : List Table
  both_lists = merged_tables (own_tables a) (own_tables b)

  first_files : filter_map (picked_file (run_in a)) (merged_files a.files b.files) ≡ a.files
  first_files =
      files_picked a (files_rise a va) both_files b.files (files_rise b vb)
      (λ f g is there same. picked_either a (files_rise a va) f (both_files f g) is refl (λ bytes whole. ap (λ (o : Option (List ℕ)). option_or o g.content) whole))

  first_tables : filter_map (pick_table a (tables_rise a va) (rows_rise a va)) both_lists ≡ a.tables
  first_tables =
      tables_picked a (tables_rise a va) (rows_rise a va) both_tables (own_tables b) (own_rise b vb)
      (λ t y is there same.
      table_picked a (tables_rise a va) (rows_rise a va) t is (both_tables (own_table t) y) refl refl refl
      (rows_picked a (tables_rise a va) (rows_rise a va) t is both_rows y.rows (its_rows_rise b vb y there) (λ row other one two equal. refl)))

  first_is : picked_package (run_in a) (merged_files a.files b.files) both_lists ≡ a
  first_is = λ j. record {
    mode = sym va.mode j;
    start = a.start;
    seed = a.seed;
    steps = a.steps;
    files = first_files j;
    tables = (tables_as a (tables_rise a va) (rows_rise a va) both_lists ∙ first_tables) j;
    logs = sym va.logs j;
    events = a.events;
  }

  -- ---- what has no clash

  no_file_clash : first_clash file_cmp file_clash a.files b.files ≡ None
  no_file_clash = (or_none (first_clash file_cmp file_clash a.files b.files) (clash_in (own_tables a) (own_tables b) both_lists) none).0

  no_others : (first_clash table_cmp table_clash (own_tables a) (own_tables b) ≡ None) × (first_clash table_cmp rows_clash (own_tables a) (own_tables b) ≡ None)
  no_others =
      let rest = (or_none (first_clash file_cmp file_clash a.files b.files) (clash_in (own_tables a) (own_tables b) both_lists) none).1 in
      let two = or_none (first_clash table_cmp table_clash (own_tables a) (own_tables b)) (option_or (first_clash table_cmp rows_clash (own_tables a) (own_tables b)) (first_some keys_clash both_lists)) rest in
      (two.0, (or_none (first_clash table_cmp rows_clash (own_tables a) (own_tables b)) (first_some keys_clash both_lists) two.1).0)

  contents_agree : (f g : PackedFile) → IsIn f a.files → IsIn g b.files → f.path ≡ g.path → contents_differ f.content g.content ≡ false
  contents_agree f g is there same =
      no_clash_if (contents_differ f.content g.content) (clash_at kinds.File f.path 0)
      (agree path_of (slice_cmp nat_cmp) nat_list_cmp_total file_clash a.files b.files no_file_clash (files_rise a va) (files_rise b vb) f g is there
      (ap (λ (path : List ℕ). slice_cmp nat_cmp path g.path) same ∙ tied_itself nat_list_cmp_total g.path))

  module _ (x y : Table) (is : IsIn x (own_tables a)) (there : IsIn y (own_tables b)) (same : x.name ≡ y.name) where
    equal : slice_cmp nat_cmp x.name y.name ≡ Equal
    equal = ap (λ (name : List ℕ). slice_cmp nat_cmp name y.name) same ∙ tied_itself nat_list_cmp_total y.name

    pub tables_agree : (x.schema ≡ y.schema) × (x.next ≡ y.next)
    tables_agree =
        same_tables x y
        (no_clash_if (tables_differ x y) (clash_at kinds.Table x.name 0)
        (agree name_of (slice_cmp nat_cmp) nat_list_cmp_total table_clash (own_tables a) (own_tables b) no_others.0 (own_rise a va) (own_rise b vb) x y is there equal))

    pub rows_agree : (r s : TableRow) → IsIn r x.rows → IsIn s y.rows → r.number ≡ s.number → r.values ≡ s.values
    rows_agree r s r_in s_in alike =
        same_rows r s
        (no_clash_if (not (same_values r.values s.values)) (clash_at kinds.Row x.name r.number)
        (agree number_of nat_cmp nat_cmp_total (row_clash x.name) x.rows y.rows
        (agree name_of (slice_cmp nat_cmp) nat_list_cmp_total rows_clash (own_tables a) (own_tables b) no_others.1 (own_rise a va) (own_rise b vb) x y is there equal)
        (its_rows_rise a va x is) (its_rows_rise b vb y there) r s r_in s_in
        (ap (λ (n : ℕ). nat_cmp n s.number) alike ∙ tied_itself nat_cmp_total s.number)))

  -- ---- the second

  second_files : filter_map (picked_file (run_in b)) (merged_files a.files b.files) ≡ b.files
  second_files =
      ap (filter_map (picked_file (run_in b))) (merged_flip path_of (slice_cmp nat_cmp) nat_list_cmp_total both_files a.files b.files)
      ∙ files_picked b (files_rise b vb) (λ f g. both_files g f) a.files (files_rise a va)
      (λ f g is there same.
      picked_either b (files_rise b vb) f (both_files g f) is (sym same) (λ bytes whole. whole_of g.content f.content (contents_agree g f there is (sym same)) bytes whole))

  in_map : {X Y : Type 0} (f : X → Y) (xs : List X) (x : X) → IsIn x xs → IsIn (f x) (map f xs)
  in_map f [] x is = absurd is
  in_map f (y ∷ ys) x (inl same) = inl (ap f same)
  in_map f (y ∷ ys) x (inr more) = inr (in_map f ys x more)

  second_rows : (t : PackedTable) (x : Table) → IsIn t b.tables → IsIn x (own_tables a) → t.name ≡ x.name
      → filter_map (picked_row (run_in b) x.name) (merged_rows x.rows (map own_row t.rows)) ≡ t.rows
  second_rows t x is there same =
      (λ j. filter_map (picked_row (run_in b) (sym same j)) (merged_flip number_of nat_cmp nat_cmp_total both_rows x.rows (map own_row t.rows) j))
      ∙ rows_picked b (tables_rise b vb) (rows_rise b vb) t is (λ r s. both_rows s r) x.rows (its_rows_rise a va x there)
      (λ row r row_in r_in alike. λ j. record {
        number = sym alike j;
        values = rows_agree x (own_table t) there (in_map own_table b.tables t is) (sym same) r (own_row row) r_in (in_map own_row t.rows row row_in) (sym alike) j;
      })

  second_tables : filter_map (pick_table b (tables_rise b vb) (rows_rise b vb)) both_lists ≡ b.tables
  second_tables =
      ap (filter_map (pick_table b (tables_rise b vb) (rows_rise b vb))) (merged_flip name_of (slice_cmp nat_cmp) nat_list_cmp_total both_tables (own_tables a) (own_tables b))
      ∙ tables_picked b (tables_rise b vb) (rows_rise b vb) (λ t x. both_tables x t) (own_tables a) (own_rise a va)
      (λ t x is there same.
      let alike = tables_agree x (own_table t) there (in_map own_table b.tables t is) (sym same) in
      table_picked b (tables_rise b vb) (rows_rise b vb) t is (both_tables x (own_table t)) (sym same) alike.0 alike.1 (second_rows t x is there same))

  second_is : picked_package (run_in b) (merged_files a.files b.files) both_lists ≡ b
  second_is = λ j. record {
    mode = sym vb.mode j;
    start = b.start;
    seed = b.seed;
    steps = b.steps;
    files = second_files j;
    tables = (tables_as b (tables_rise b vb) (rows_rise b vb) both_lists ∙ second_tables) j;
    logs = sym vb.logs j;
    events = b.events;
  }

pub pick_law : PickLaw
pick_law a b va vb none = record { first = first_is a b va vb none; second = second_is a b va vb none }

pub anew_law : AnewLaw
anew_law a b va vb j is = by (clash_of a b) refl is
  where
    by : (o : Option Clash) → clash_of a b ≡ o → unless_clash o (put_together a b) ≡ Ok j
        → joined_of (picked_package j.first j.files j.tables) (picked_package j.second j.files j.tables) ≡ Ok j
    by (Some clash) none ok = cc
    by None none ok =
        let same : put_together a b ≡ j = cc in
        let picked = pick_law a b va vb none in
        ap (λ (k : Joined). joined_of (picked_package k.first k.files k.tables) (picked_package k.second k.files k.tables)) (sym same)
        ∙ (λ i. joined_of (picked.first i) (picked.second i)) ∙ is
