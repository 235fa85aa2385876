-- The world of a run of a valid joined package can be run.
use Rattle.std.proofs.Common.{◌≡◌, ℕ, Bool, true, false, cond, List, [], ◌∷◌, map, length, Option, Some, None, refl, sym, ap, subst, ◌∙◌, arith, inl, inr, ◌&&◌}
use Rattle.std.specs.Prelude.{◌==◌, nat_le, nat_lt, bytes_eq, find, is_some, option_and_then, Ok}
use Rattle.std.specs.List.{list_all, filter_map, cons_option, AllByRecursion}
use Rattle.std.specs.Option.{option_or, option_map}
use Rattle.std.specs.Ordering.{nat_cmp}
use Rattle.std.specs.Cmp.Lexicographic.{slice_cmp}
use Rattle.std.specs.declared.cmp.Ordering.{Ordering}
use Rattle.std.specs.declared.cmp.Ordering.TheVariants.{Less, Equal, Greater}
use Rattle.std.proofs.lemmas.Bool.{cases_Bool, le-leb}
use Rattle.std.proofs.lemmas.Cmp.{nat_cmp_total, nat_list_cmp_total, tied_itself}
use Rattle.std.proofs.lemmas.Slice.Eq.{bytes_eq-Decides}
use Rattle.ldv_value.proofs.Booleans.{and-parts, and-from}
use Rattle.ldv_value.proofs.Options.{is_some-true, same-some}
use Rattle.ldv_value.proofs.Lists.{list_all-map}
use Rattle.ldv_value.specs.FileState.{file_test, file_precedes, files_test, file_at}
use Rattle.ldv_value.specs.Limits.{file_limit, max_next}
use Rattle.ldv_value.specs.Names.{path_test}
use Rattle.ldv_value.specs.Sorted.{is_strictly_sorted, precedes_first}
use Rattle.ldv_value.specs.Options.{first_some}
use Rattle.std.specs.Ordering.{is_lt}
use Rattle.std.proofs.lemmas.Map.Lookups.{exact_bytes}
use Rattle.script_parse.specs.Script.{script_of}
use Rattle.script_parse.specs.declared.script.Instr.{Instr}
use Rattle.sql_model.proofs.Databases.{database-from}
use Rattle.sql_model.proofs.UniqueKeys.{unique-clash, or_none}
use Rattle.sql_model.proofs.ValidTables.{table-from}
use Rattle.sql_model.specs.Changes.{KeyClash, key_clash}
use Rattle.sql_model.specs.ForeignKeys.{have_parents}
use Rattle.sql_model.specs.Scope.{catalog_of}
use Rattle.sql_model.specs.SqlNames.{sql_name_test}
use Rattle.sql_model.specs.Tables.{are_tables, is_database, is_described, is_row, is_short, is_valid_table, numbers_test, are_keys_unique, schema_test, table_precedes, tables_test}
use Rattle.sql_model.specs.declared.table.Schema.{Schema}
use Rattle.sql_model.proofs.NewNumbers.{row_precedes}
use Rattle.run_model.proofs.StartScripts.{first_script}
use Rattle.run_model.specs.Between.{IsIn}
use Rattle.run_model.specs.Package.{own_row, own_table}
use Rattle.run_model.specs.Start.{start_script}
use Rattle.run_model.specs.ValidPackage.{content_rule, file_rule, packed_file_precedes, parts_rule, rows_rule, rules, script_rule, table_rule, whole_rule}
use Rattle.run_model.specs.ValidWorld.{CanRun}
use Rattle.package_layout.specs.StartScript.{file_script, packed_script}
use Rattle.package_layout.specs.StartScript.{script_in as content_script}
use Rattle.package_layout.specs.Valid.{IsValidPackage}
use Rattle.package_layout.specs.Whole.{has_room}
use Rattle.package_layout.proofs.StartScripts.{script_there, unwrapped}
use Rattle.run_laws.proofs.ListMembers.{filter_map_in}
use Rattle.package_join.specs.Types.{File, Package, PackedFile, PackedRow, PackedTable, Table, TableRow}
use Rattle.joined_data.specs.declared.joined.Joined.{Joined}
use Rattle.joined_data.specs.declared.joined.JoinedRun.{JoinedRun}
use Rattle.joined_data.specs.declared.joined.Which.{Which}
use Rattle.joined_data.specs.declared.joined.Which.TheVariants.{First, Second}
use Rattle.joined_data.specs.Joined.{as_present, both_files, both_rows, both_tables, clash_in, clash_of, clash_of_keys, file_clash, file_cmp, is_among, joined_of, keys_clash, merged_files, merged_rows, merged_tables, own_tables, picked_file, put_together, rows_clash, run_of, run_package, table_clash, table_cmp}
use Rattle.package_join.specs.Laws.{IsIncluded, RunsLaw}
use Rattle.joined_data.specs.Merging.{first_clash}
use Rattle.joined_data.specs.Rooms.{TypedCommonTable}
use Rattle.package_join.specs.Worlds.{empty_if, joined_world, seen_file, world_file, world_of}
use Rattle.joined_data.proofs.Cuts.{Rising}
use Rattle.package_join.proofs.ListedTables.{listed, own_parents}
use Rattle.joined_data.proofs.Lists.{all_in, each_of}
use Rattle.joined_data.proofs.MergedLists.{in_merged, merged_rises, IsOf}
use Rattle.joined_data.proofs.MergedParents.{merged_parents}
use Rattle.joined_data.proofs.PickedFiles.{path_of}
use Rattle.joined_data.proofs.PickedTables.{name_of, number_of}
use Rattle.package_join.proofs.Picks.{files_rise, its_rows_rise, of_map, own_rise, pick_law, tables_agree}
use Rattle.package_join.proofs.ValidJoins.{included}
use Rattle.package_join.proofs.ValidRooms.{unclashed}

-- ---- lists that rise

module _ {X K : Type 0} (key : X → K) (key_cmp : K → K → Ordering) (lower : X → X → Bool)
    (less : (a b : X) → key_cmp (key a) (key b) ≡ Less → lower a b ≡ true) where
  first_lower : (x : X) (xs : List X) → ((y : X) → IsIn y xs → key_cmp (key x) (key y) ≡ Less) → precedes_first lower x xs ≡ true
  first_lower x [] before = refl
  first_lower x (y ∷ ys) before = less x y (before y (inl refl))

  pub sorted_from : (xs : List X) → Rising key key_cmp xs → is_strictly_sorted lower xs ≡ true
  sorted_from [] rises = refl
  sorted_from (x ∷ xs) rises =
      and-from (precedes_first lower x xs) (is_strictly_sorted lower xs) (first_lower x xs rises.0) (sorted_from xs rises.1)

module _ {S X K : Type 0} (f : S → Option X) (key_of : S → K) (key : X → K) (key_cmp : K → K → Ordering)
    (keeps : (s : S) (x : X) → f s ≡ Some x → key x ≡ key_of s) where
  pub rising_cut : (ss : List S) → Rising key_of key_cmp ss → Rising key key_cmp (filter_map f ss)
  rising_cut [] rises = tt
  rising_cut (s ∷ ss) rises = by (f s) refl (rising_cut ss rises.1)
    where
      by : (o : Option X) → f s ≡ o → Rising key key_cmp (filter_map f ss) → Rising key key_cmp (cons_option o (filter_map f ss))
      by None e rest = rest
      by (Some x) e rest = (
        λ y is.
            let from = filter_map_in f ss y is in
            (λ i. key_cmp (keeps s x e i) (keeps from.0 y from.1.1 i)) ∙ rises.0 from.0 from.1.0,
        rest,
      )

-- ---- the files of a world

module _ (run : JoinedRun) where
  abbrev world_path : File → List ℕ
  world_path f = f.path

  seen_is : (present : Bool) (path : List ℕ) (x : File) → path_test path ≡ true → empty_if present path ≡ Some x → (x.path ≡ path) × (file_test x ≡ true)
  seen_is true path x good e =
      let same : record { path = path; content = [] } ≡ x = same-some (record { path = path; content = [] }) x e in
      subst (λ (y : File). (y.path ≡ path) × (file_test y ≡ true)) same
      (refl, and-from (path_test path) (nat_le (length {A = ℕ} []) file_limit) good (le-leb 0 file_limit (omega arith)))
  seen_is false path x good e = absurd cc

  seen_fits : (g : PackedFile) (content : Option (List ℕ)) (x : File) → path_test g.path ≡ true → content_rule content ≡ true
      → seen_file (λ path. is_among path run.presents) g.path content ≡ Some x → (x.path ≡ g.path) × (file_test x ≡ true)
  seen_fits g None x good fits e = seen_is (is_among g.path run.presents) g.path x good e
  seen_fits g (Some bytes) x good fits e =
      let same : record { path = g.path; content = bytes } ≡ x = same-some (record { path = g.path; content = bytes }) x e in
      subst (λ (y : File). (y.path ≡ g.path) × (file_test y ≡ true)) same
      (refl, and-from (path_test g.path) (nat_le (length bytes) file_limit) good fits)

  file_seen : (g : PackedFile) (x : File) → file_rule g ≡ true → world_file run g ≡ Some x → (x.path ≡ g.path) × (file_test x ≡ true)
  file_seen g x rule e =
      let both = and-parts (path_test g.path) (content_rule g.content) rule in
      seen_fits g g.content x both.0 both.1 e

  -- a path goes with the file, whatever the file is
  path_kept : (g : PackedFile) (content : Option (List ℕ)) (x : File) → seen_file (λ path. is_among path run.presents) g.path content ≡ Some x → x.path ≡ g.path
  path_kept g (Some bytes) x e = sym (ap (λ (y : File). y.path) (same-some (record { path = g.path; content = bytes }) x e))
  path_kept g None x e = by (is_among g.path run.presents) e
    where
      by : (b : Bool) → empty_if b g.path ≡ Some x → x.path ≡ g.path
      by true e = sym (ap (λ (y : File). y.path) (same-some (record { path = g.path; content = [] }) x e))
      by false e = absurd cc

  pub world_files_met : (files : List PackedFile) → Rising path_of (slice_cmp nat_cmp) files → ((g : PackedFile) → IsIn g files → file_rule g ≡ true)
      → files_test (filter_map (world_file run) files) ≡ true
  world_files_met files rises each =
      let seen : List File = filter_map (world_file run) files in
      and-from (list_all file_test seen) (is_strictly_sorted file_precedes seen)
      (all_in file_test seen (λ x is. let from = filter_map_in (world_file run) files x is in (file_seen from.0 x (each from.0 from.1.0) from.1.1).1))
      (sorted_from world_path (slice_cmp nat_cmp) file_precedes (λ a b e. ap is_lt e) seen
      (rising_cut (world_file run) path_of world_path (slice_cmp nat_cmp) (λ g x e. path_kept g g.content x e) files rises))

  -- ---- its script

  abbrev script_in : List ℕ → List File → Option (List Instr)
  script_in word files = option_and_then (λ (file : File). script_of file.content) (file_at word files)

  abbrev is_at : List ℕ → PackedFile → Bool
  is_at word f = bytes_eq word f.path

  abbrev picked : List PackedFile → List PackedFile
  picked files = filter_map (picked_file run) files

  -- no later file has the path
  none_later : (word : List ℕ) (files : List PackedFile) → ((g : PackedFile) → IsIn g files → bytes_eq word g.path ≡ false)
      → find (is_at word) (picked files) ≡ None
  none_later word [] none = refl
  none_later word (g ∷ gs) none =
      by (none g (inl refl)) (is_among g.path run.wholes) (is_among g.path run.presents) (none_later word gs (λ h is. none h (inr is)))
    where
      by : bytes_eq word g.path ≡ false → (x y : Bool) → find (is_at word) (picked gs) ≡ None
          → find (is_at word) (cons_option (cond x (Some g) (cond y (Some (as_present g)) None)) (picked gs)) ≡ None
      by here true y later = rw here later
      by here false true later = rw here later
      by here false false later = later

  script_seen : (word : List ℕ) (files : List PackedFile) → Rising path_of (slice_cmp nat_cmp) files → (script : List Instr)
      → file_script (find (is_at word) (picked files)) ≡ Some script → script_in word (filter_map (world_file run) files) ≡ Some script
  script_seen word [] rises script found = found
  script_seen word (g ∷ gs) rises script found = elim (cases_Bool (bytes_eq word g.path)) [
    | inl hit ↦ at_hit hit (is_among g.path run.wholes) (is_among g.path run.presents) g.content refl found
    | inr miss ↦ at_miss miss (is_among g.path run.wholes) (is_among g.path run.presents) (world_file run g) refl (script_seen word gs rises.1 script) found
  ]
    where
      others : bytes_eq word g.path ≡ true → (h : PackedFile) → IsIn h gs → bytes_eq word h.path ≡ false
      others hit h is = elim (cases_Bool (bytes_eq word h.path)) [
        | inr miss ↦ miss
        | inl same ↦
            let one : word ≡ g.path = (bytes_eq-Decides word g.path).0 hit in
            let two : word ≡ h.path = (bytes_eq-Decides word h.path).0 same in
            let never : Less ≡ Equal =
            sym (rises.0 h is) ∙ ap (λ (p : List ℕ). slice_cmp nat_cmp g.path p) (sym two ∙ one) ∙ tied_itself nat_list_cmp_total g.path in
            cc
      ]

      -- the file of this path is picked whole, so it is in the world with its bytes
      at_hit : bytes_eq word g.path ≡ true → (x y : Bool) (content : Option (List ℕ)) → g.content ≡ content
          → file_script (find (is_at word) (cons_option (cond x (Some g) (cond y (Some (as_present g)) None)) (picked gs))) ≡ Some script
          → script_in word (cons_option (seen_file (λ path. is_among path run.presents) g.path content) (filter_map (world_file run) gs)) ≡ Some script
      at_hit hit true y (Some bytes) e found =
          let parsed : content_script g.content ≡ Some script = rw hit at found in
          let whole : content_script (Some bytes) ≡ Some script = ap content_script (sym e) ∙ parsed in
          rw hit (unwrapped (nat_le (length bytes) file_limit) (script_of bytes) script whole)
      at_hit hit true y None e found =
          let parsed : content_script g.content ≡ Some script = rw hit at found in
          let never : None ≡ Some script = ap content_script (sym e) ∙ parsed in absurd cc
      at_hit hit false true content e found = let never : None ≡ Some script = rw hit at found in absurd cc
      at_hit hit false false content e found =
          let none : find (is_at word) (picked gs) ≡ None = none_later word gs (others hit) in
          let never : None ≡ Some script = ap file_script (sym none) ∙ found in absurd cc

      at_miss : bytes_eq word g.path ≡ false → (x y : Bool) (o : Option File) → world_file run g ≡ o
          → (file_script (find (is_at word) (picked gs)) ≡ Some script → script_in word (filter_map (world_file run) gs) ≡ Some script)
          → file_script (find (is_at word) (cons_option (cond x (Some g) (cond y (Some (as_present g)) None)) (picked gs))) ≡ Some script
          → script_in word (cons_option o (filter_map (world_file run) gs)) ≡ Some script
      at_miss miss x y o e later found = passed o e (later (skipped x y found))
        where
          skipped : (x y : Bool) → file_script (find (is_at word) (cons_option (cond x (Some g) (cond y (Some (as_present g)) None)) (picked gs))) ≡ Some script
              → file_script (find (is_at word) (picked gs)) ≡ Some script
          skipped true y found = rw miss at found
          skipped false true found = rw miss at found
          skipped false false found = found

          passed : (o : Option File) → world_file run g ≡ o → script_in word (filter_map (world_file run) gs) ≡ Some script
              → script_in word (cons_option o (filter_map (world_file run) gs)) ≡ Some script
          passed None e rest = rest
          passed (Some f) e rest =
              let other : bytes_eq word f.path ≡ false = ap (bytes_eq word) (path_kept g g.content f e) ∙ miss in
              rw other rest

-- ---- files of both

module _ (a b : Package) (ia : IsIncluded a) (ib : IsIncluded b) where
  each_file : (g : PackedFile) → IsIn g (merged_files a.files b.files) → file_rule g ≡ true
  each_file g is = by (in_merged path_of (slice_cmp nat_cmp) nat_list_cmp_total both_files (λ x y e. refl) g a.files b.files is)
    where
      of_a : (f : PackedFile) → IsIn f a.files → file_rule f ≡ true
      of_a f there = each_of file_rule a.files (and-parts (list_all file_rule a.files) (is_strictly_sorted packed_file_precedes a.files) ia.files).0 f there

      of_b : (f : PackedFile) → IsIn f b.files → file_rule f ≡ true
      of_b f there = each_of file_rule b.files (and-parts (list_all file_rule b.files) (is_strictly_sorted packed_file_precedes b.files) ib.files).0 f there

      either_content : (x y : Option (List ℕ)) → content_rule x ≡ true → content_rule y ≡ true → content_rule (option_or x y) ≡ true
      either_content None y hx hy = hy
      either_content (Some bytes) y hx hy = hx

      by : IsOf path_of (slice_cmp nat_cmp) nat_list_cmp_total both_files (λ x y e. refl) g a.files b.files → file_rule g ≡ true
      by (inl there) = of_a g there
      by (inr (inl there)) = of_b g there
      by (inr (inr made)) =
          let x = and-parts (path_test made.0.path) (content_rule made.0.content) (of_a made.0 made.1.1.0) in
          let y = and-parts (path_test made.1.0.path) (content_rule made.1.0.content) (of_b made.1.0 made.1.1.1.0) in
          ap file_rule made.1.1.1.1.1
          ∙ and-from (path_test made.0.path) (content_rule (option_or made.0.content made.1.0.content)) x.0
          (either_content made.0.content made.1.0.content x.1 y.1)

  files_rising : Rising path_of (slice_cmp nat_cmp) (merged_files a.files b.files)
  files_rising = merged_rises path_of (slice_cmp nat_cmp) nat_list_cmp_total both_files (λ x y e. refl) a.files b.files (files_rise a ia) (files_rise b ib)

-- ---- the script of a world

starts_as : (run : JoinedRun) (files : List PackedFile) → Rising path_of (slice_cmp nat_cmp) files → (start : List (List ℕ)) (script : List Instr)
    → packed_script start (filter_map (picked_file run) files) ≡ Some script → first_script start (filter_map (world_file run) files) ≡ Some script
starts_as run files rises [] script is = is
starts_as run files rises (word ∷ words) script is = script_seen run word files rises script is

starts : (run : JoinedRun) (files : List PackedFile) → Rising path_of (slice_cmp nat_cmp) files → (start : List (List ℕ))
    → script_rule start (filter_map (picked_file run) files) ≡ true → is_some (first_script start (filter_map (world_file run) files)) ≡ true
starts run files rises start rule =
    let chosen : List PackedFile = filter_map (picked_file run) files in
    let found = is_some-true (packed_script start chosen) (script_there start chosen ∙ rule) in
    ap (λ (o : Option (List Instr)). is_some o) (starts_as run files rises start found.0 found.1)

-- of two packages that are joined: that of each package
module _ (a b : Package) (j : Joined) (ia : IsIncluded a) (ib : IsIncluded b) (joined : joined_of a b ≡ Ok j) where
  no_clash : clash_of a b ≡ None
  no_clash = (unclashed a b j (clash_of a b) refl joined).0

  together : put_together a b ≡ j
  together = (unclashed a b j (clash_of a b) refl joined).1

  its_files_rise : Rising path_of (slice_cmp nat_cmp) j.files
  its_files_rise = subst (Rising path_of (slice_cmp nat_cmp)) (ap (λ (k : Joined). k.files) together) (files_rising a b ia ib)

  starts_of : (which : Which) (p : Package) (script : List Instr) → run_package which j ≡ p → packed_script p.start p.files ≡ Some script
      → start_script (joined_world which j) ≡ Some script
  starts_of which p script again is =
      starts_as (run_of which j) j.files its_files_rise (run_of which j).start script
      (ap (λ (q : Package). packed_script q.start q.files) again ∙ is)

  pub first_starts : (script : List Instr) → packed_script a.start a.files ≡ Some script → start_script (joined_world First j) ≡ Some script
  first_starts script is =
      starts_of First a script (sym (ap (run_package First) together) ∙ (pick_law a b ia ib no_clash).first) is

  pub second_starts : (script : List Instr) → packed_script b.start b.files ≡ Some script → start_script (joined_world Second j) ≡ Some script
  second_starts script is =
      starts_of Second b script (sym (ap (run_package Second) together) ∙ (pick_law a b ia ib no_clash).second) is

script_ruled : (p : Package) → IsValidPackage p → script_rule p.start p.files ≡ true
script_ruled p valid =
    let all = (and-parts (has_room p) (rules p) valid).1 in
    (and-parts (parts_rule p && whole_rule p) (script_rule p.start p.files) all).1

-- ---- the tables of both

pub record Met (t : Table) : Type 0 where
  pub described : is_described t ≡ true
  pub below : list_all (λ row. nat_lt row.number t.next) t.rows ≡ true
  pub rows : list_all (λ row. is_row t.schema.columns row.values) t.rows ≡ true

packed_met : (t : PackedTable) → table_rule t ≡ true → Met (own_table t)
packed_met t rule =
    let described : Bool = sql_name_test t.name && schema_test t.schema in
    let numbers : Bool = numbers_test (λ (row : PackedRow). row.number) t.next t.rows in
    let fit : Bool = list_all (λ (row : PackedRow). is_row t.schema.columns row.values) t.rows in
    let one = and-parts (described && rows_rule t) (are_keys_unique t.schema.key (map (λ (row : PackedRow). row.values) t.rows)) rule in
    let two = and-parts described (rows_rule t) one.0 in
    let three = and-parts (numbers && fit) (list_all (λ (row : PackedRow). list_all is_short row.values) t.rows) two.1 in
    let four = and-parts numbers fit three.0 in
    let five = and-parts (is_strictly_sorted (λ (a b : PackedRow). nat_lt a.number b.number) t.rows) (list_all (λ (row : PackedRow). nat_lt row.number t.next) t.rows) four.0 in
    record {
      described = two.0;
      below = list_all-map (λ (row : TableRow). nat_lt row.number t.next) own_row t.rows ∙ five.1;
      rows = list_all-map (λ (row : TableRow). is_row t.schema.columns row.values) own_row t.rows ∙ four.1;
    }

own_met : (p : Package) → IsIncluded p → (t : Table) → IsIn t (own_tables p) → Met t
own_met p ip t is =
    let from = of_map own_table p.tables t is in
    subst Met (sym from.1.1) (packed_met from.0 (each_of table_rule p.tables (listed p.tables ip.tables).each from.0 from.1.0))

is_lower : (lower same : Bool) → cond lower Less (cond same Equal Greater) ≡ Less → lower ≡ true
is_lower true same e = refl
is_lower false true e = let never : Equal ≡ Less = e in absurd cc
is_lower false false e = let never : Greater ≡ Less = e in absurd cc

lower_number : (a b : ℕ) → nat_cmp a b ≡ Less → nat_lt a b ≡ true
lower_number a b e = is_lower (nat_lt a b) (a == b) e

first_none : (ts : List Table) → first_some keys_clash ts ≡ None → (t : Table) → IsIn t ts → keys_clash t ≡ None
first_none [] none t is = absurd is
first_none (u ∷ us) none t (inl same) = ap keys_clash same ∙ (or_none (keys_clash u) (first_some keys_clash us) none).0
first_none (u ∷ us) none t (inr more) = first_none us (or_none (keys_clash u) (first_some keys_clash us) none).1 t more

no_key_clash : (t : Table) → keys_clash t ≡ None → key_clash t ≡ None
no_key_clash t none = by (key_clash t) none
  where
    by : (o : Option KeyClash) → option_map (clash_of_keys t.name) o ≡ None → o ≡ None
    by None e = refl
    by (Some clash) e = absurd cc

pub typed_in : {X : Type 0} (P : X → Type 0) (xs : List X) → AllByRecursion P xs → (x : X) → IsIn x xs → P x
typed_in P [] all x is = absurd is
typed_in P (y ∷ ys) all x (inl same) = subst P (sym same) all.0
typed_in P (y ∷ ys) all x (inr more) = typed_in P ys all.1 x more

module _ (a b : Package) (ia : IsIncluded a) (ib : IsIncluded b) (none : clash_of a b ≡ None) where
  abbrev both_lists : List Table
  both_lists = merged_tables (own_tables a) (own_tables b)

  no_keys : first_some keys_clash both_lists ≡ None
  no_keys =
      let rest = (or_none (first_clash file_cmp file_clash a.files b.files) (clash_in (own_tables a) (own_tables b) both_lists) none).1 in
      let two = or_none (first_clash table_cmp table_clash (own_tables a) (own_tables b)) (option_or (first_clash table_cmp rows_clash (own_tables a) (own_tables b)) (first_some keys_clash both_lists)) rest in
      (or_none (first_clash table_cmp rows_clash (own_tables a) (own_tables b)) (first_some keys_clash both_lists) two.1).1

  of_either : (p : TableRow → Bool) (xs ys : List TableRow) → list_all p xs ≡ true → list_all p ys ≡ true → list_all p (merged_rows xs ys) ≡ true
  of_either p xs ys hx hy = all_in p (merged_rows xs ys) (λ z is. by z (in_merged number_of nat_cmp nat_cmp_total both_rows (λ x y e. refl) z xs ys is))
    where
      by : (z : TableRow) → IsOf number_of nat_cmp nat_cmp_total both_rows (λ x y e. refl) z xs ys → p z ≡ true
      by z (inl there) = each_of p xs hx z there
      by z (inr (inl there)) = each_of p ys hy z there
      by z (inr (inr made)) = ap p made.1.1.1.1.1 ∙ each_of p xs hx made.0 made.1.1.0

  both_met : (x y : Table) → IsIn x (own_tables a) → IsIn y (own_tables b) → x.name ≡ y.name → Met (both_tables x y)
  both_met x y is there same =
      let alike = tables_agree a b ia ib none x y is there same in
      let mx : Met x = own_met a ia x is in
      let my : Met y = own_met b ib y there in
      record {
        described = mx.described;
        below = of_either (λ (row : TableRow). nat_lt row.number x.next) x.rows y.rows mx.below
            (ap (λ (n : ℕ). list_all (λ (row : TableRow). nat_lt row.number n) y.rows) alike.1 ∙ my.below);
        rows = of_either (λ (row : TableRow). is_row x.schema.columns row.values) x.rows y.rows mx.rows
            (ap (λ (s : Schema). list_all (λ (row : TableRow). is_row s.columns row.values) y.rows) alike.0 ∙ my.rows);
      }

  merged_met : (z : Table) → IsIn z both_lists → Met z
  merged_met z is = by (in_merged name_of (slice_cmp nat_cmp) nat_list_cmp_total both_tables (λ x y e. refl) z (own_tables a) (own_tables b) is)
    where
      by : IsOf name_of (slice_cmp nat_cmp) nat_list_cmp_total both_tables (λ x y e. refl) z (own_tables a) (own_tables b) → Met z
      by (inl there) = own_met a ia z there
      by (inr (inl there)) = own_met b ib z there
      by (inr (inr made)) =
          subst Met (sym made.1.1.1.1.1)
          (both_met made.0 made.1.0 made.1.1.0 made.1.1.1.0 (exact_bytes made.0.name made.1.0.name made.1.1.1.1.0))

  rows_rising : (z : Table) → IsIn z both_lists → Rising number_of nat_cmp z.rows
  rows_rising z is = by (in_merged name_of (slice_cmp nat_cmp) nat_list_cmp_total both_tables (λ x y e. refl) z (own_tables a) (own_tables b) is)
    where
      by : IsOf name_of (slice_cmp nat_cmp) nat_list_cmp_total both_tables (λ x y e. refl) z (own_tables a) (own_tables b) → Rising number_of nat_cmp z.rows
      by (inl there) = its_rows_rise a ia z there
      by (inr (inl there)) = its_rows_rise b ib z there
      by (inr (inr made)) =
          subst (λ (t : Table). Rising number_of nat_cmp t.rows) (sym made.1.1.1.1.1)
          (merged_rises number_of nat_cmp nat_cmp_total both_rows (λ x y e. refl) made.0.rows made.1.0.rows
          (its_rows_rise a ia made.0 made.1.1.0) (its_rows_rise b ib made.1.0 made.1.1.1.0))

  table_valid : AllByRecursion TypedCommonTable both_lists → (z : Table) → IsIn z both_lists → is_valid_table z ≡ true
  table_valid typed z is =
      let met : Met z = merged_met z is in
      let small = (typed_in TypedCommonTable both_lists typed z is).1.1.0 in
      let sorted : is_strictly_sorted row_precedes z.rows ≡ true =
      sorted_from number_of nat_cmp row_precedes (λ r s e. lower_number r.number s.number e) z.rows (rows_rising z is) in
      table-from z (record {
        next = le-leb z.next max_next (omega (arith, small));
        numbers = and-from (is_strictly_sorted row_precedes z.rows) (list_all (λ (row : TableRow). nat_lt row.number z.next) z.rows) sorted met.below;
        rows = met.rows;
        keys = unique-clash z.schema.key z.rows (no_key_clash z (first_none both_lists no_keys z is));
      })

  parents : have_parents (catalog_of both_lists) ≡ true
  parents =
      merged_parents (own_tables a) (own_tables b) (λ x y is there same. (tables_agree a b ia ib none x y is there same).0)
      (own_parents a.tables (listed a.tables ia.tables).parents) (own_parents b.tables (listed b.tables ib.tables).parents)

  tables_met : AllByRecursion TypedCommonTable both_lists → tables_test both_lists ≡ true
  tables_met typed =
      let rises = merged_rises name_of (slice_cmp nat_cmp) nat_list_cmp_total both_tables (λ x y e. refl) (own_tables a) (own_tables b) (own_rise a ia) (own_rise b ib) in
      let sorted : is_strictly_sorted table_precedes both_lists ≡ true = sorted_from name_of (slice_cmp nat_cmp) table_precedes (λ t u e. ap is_lt e) both_lists rises in
      let tables : are_tables both_lists ≡ true =
      and-from (list_all is_valid_table both_lists) (is_strictly_sorted table_precedes both_lists) (all_in is_valid_table both_lists (table_valid typed)) sorted in
      and-from (is_database both_lists) (list_all is_described both_lists)
      (database-from both_lists tables parents)
      (all_in is_described both_lists (λ z is. (merged_met z is).described))

-- ---- the law

can_run : (run : JoinedRun) (j : Joined) (a b : Package) → IsValidPackage a → IsValidPackage b → IsIncluded a → IsIncluded b → clash_of a b ≡ None → put_together a b ≡ j
    → AllByRecursion TypedCommonTable j.tables → script_rule run.start (filter_map (picked_file run) j.files) ≡ true → CanRun (world_of run j)
can_run run j a b va vb ia ib none same typed script =
    let files : List PackedFile = merged_files a.files b.files in
    let tables : List Table = merged_tables (own_tables a) (own_tables b) in
    let files_same : files ≡ j.files = ap (λ (k : Joined). k.files) same in
    let tables_same : tables ≡ j.tables = ap (λ (k : Joined). k.tables) same in
    let rises : Rising path_of (slice_cmp nat_cmp) j.files = subst (Rising path_of (slice_cmp nat_cmp)) files_same (files_rising a b ia ib) in
    let each : (g : PackedFile) → IsIn g j.files → file_rule g ≡ true =
    subst (λ (fs : List PackedFile). (g : PackedFile) → IsIn g fs → file_rule g ≡ true) files_same (each_file a b ia ib) in
    record {
      script = starts run j.files rises run.start script;
      files = world_files_met run j.files rises each;
      tables = subst (λ (ts : List Table). tables_test ts ≡ true) tables_same
          (tables_met a b ia ib none (subst (AllByRecursion TypedCommonTable) (sym tables_same) typed));
    }

pub runs_law : RunsLaw
runs_law which j typed v =
    let a : Package = run_package First j in
    let b : Package = run_package Second j in
    let its = unclashed a b j (clash_of a b) refl v.same in
    let runs : (run : JoinedRun) → script_rule run.start (filter_map (picked_file run) j.files) ≡ true → CanRun (world_of run j) =
    λ run script. can_run run j a b v.first v.second (included a v.first refl) (included b v.second refl) its.0 its.1 typed script in
    by which runs (script_ruled a v.first) (script_ruled b v.second)
  where
    by : (w : Which) → ((run : JoinedRun) → script_rule run.start (filter_map (picked_file run) j.files) ≡ true → CanRun (world_of run j))
        → script_rule j.first.start (filter_map (picked_file j.first) j.files) ≡ true
        → script_rule j.second.start (filter_map (picked_file j.second) j.files) ≡ true → CanRun (joined_world w j)
    by First runs first second = runs j.first first
    by Second runs first second = runs j.second second
