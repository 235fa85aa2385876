-- A sorted world lies between by its contents if and only if it does by what was cut.
use Rattle.std.proofs.Common.{◌≡◌, ℕ, List, [], ◌∷◌, refl, sym, ap, ◌∙◌, subst, Bool, true, false, cond, arith, inl, inr}
use Rattle.std.specs.Prelude.{Option, Some, None, is_some, is_none, filter, map, ◌||◌, ◌⊎◌, ◌==◌, nat_lt}
use Rattle.std.specs.List.{filter_map, cons_option, list_any}
use Rattle.std.proofs.lemmas.Bool.{cases_Bool, and_parts, and_from, eq-eqb}
use Rattle.std.proofs.lemmas.Bool.Decides.{nat_tests}
use Rattle.ldv_value.proofs.Booleans.{or-left, or-right}
use Rattle.ldv_value.proofs.SameBytes.{bytes_eq-true, bytes_eq-itself, nat_eq-true}
use Rattle.sql_model.specs.Scope.{same_text, is_table, has_row}
use Rattle.replay_db.specs.Types.{File, Table, TableRow, Event, World}
use Rattle.run_model.specs.Between.{IsIn, HasParents, is_row_needed, with_content, IsPresent, TableBetween, LiesBetween, FileCut, Gone, Same, Other, Cut, kept_file, cut_files, row_stays, cut_table, table_stays, cut_tables, cut_world, KeepsFile, is_initial, KeepsNeeded, CutOf}
use Rattle.run_model.specs.Slice.{FileNeed, Whole, Present, file_need, is_table_needed}
use Rattle.package_layout.specs.inner.Order.{rises, is_below}
use Rattle.run_laws.proofs.ListMembers.{found_in, none_in, any_in, in_any, in_filter, filter_in, in_filter_map, filter_map_in}
use Rattle.replay_db.specs.Laws.{MembershipLaw}
use Rattle.replay_db.proofs.SortedLists.{same_item, at, at_key, at_item, found_all}
use Rattle.replay_db.proofs.TraceLists.{below_itself}
use Rattle.replay_db.proofs.WorldRules.{SortedWorld, sorted_world}
use Rattle.ldv_value.proofs.Numbers.{less-trans}
use Rattle.ldv_value.proofs.TextOrders.{text_trans}

-- ---- files, tables and rows by their keys

abbrev path_of : File → List ℕ
path_of f = f.path

abbrev name_of : Table → List ℕ
name_of t = t.name

abbrev number_of : TableRow → ℕ
number_of r = r.number

itself : (n : ℕ) → (n == n) ≡ true
itself n = eq-eqb n n refl

lt_itself : (n : ℕ) → nat_lt n n ≡ false
lt_itself n = grind (arith, nat_tests)

abbrev file_found : List ℕ → List File → Option File
file_found = at path_of is_below below_itself text_trans same_text bytes_eq-true bytes_eq-itself

abbrev table_found : List ℕ → List Table → Option Table
table_found = at name_of is_below below_itself text_trans same_text bytes_eq-true bytes_eq-itself

abbrev row_found : ℕ → List TableRow → Option TableRow
row_found = at number_of nat_lt lt_itself less-trans (λ a b. a == b) nat_eq-true itself

-- ---- from what is in them to what was cut

module _ (events : List Event) (v w : World) (sv : SortedWorld v) (sw : SortedWorld w) (l : LiesBetween events v w) where
  -- a present file has the bytes that it has there, and any other goes where it isn't there
  abbrev file_as : Option FileNeed → Option File → FileCut
  file_as (Some Whole) there = Same
  file_as (Some Present) (Some f) = Other f.content
  file_as (Some Present) None = Same
  file_as None (Some f) = Same
  file_as None None = Gone

  -- a row goes where its table is there without it
  abbrev row_as : Option Table → ℕ → Bool
  row_as None number = true
  row_as (Some t) number = list_any (λ row. row.number == number) t.rows

  -- a table goes where it isn't there; of one that isn't in the world nothing is asked
  abbrev table_as : Option Table → Option Table → Bool
  table_as small whole = is_some small || is_none whole

  abbrev made_cut : Cut
  made_cut = record {
    file = λ path. file_as (file_need path events) (file_found path v.files);
    table = λ name. table_as (table_found name v.tables) (table_found name w.tables);
    row = λ name number. row_as (table_found name v.tables) number;
  }

  -- ---- files

  file_keeps : (need : Option FileNeed) (there : Option File) → KeepsFile need (file_as need there)
  file_keeps (Some Whole) there = tt
  file_keeps (Some Present) (Some f) = tt
  file_keeps (Some Present) None = tt
  file_keeps None (Some f) = tt
  file_keeps None None = tt

  same_file : (f g : File) → IsIn f w.files → IsIn g w.files → g.path ≡ f.path → g ≡ f
  same_file f g in_f in_g same = same_item path_of is_below below_itself text_trans w.files sw.files g f in_g in_f same

  -- a file without a need that is there is the world's
  other_is : (f g : File) → IsIn f w.files → file_need f.path events ≡ None → g.path ≡ f.path → IsIn g w.files ⊎ IsPresent events w.files g → f ≡ g
  other_is f g in_f none same (inl in_g) = sym (same_file f g in_f in_g same)
  other_is f g in_f none same (inr present) =
      let never : None ≡ Some Present = sym none ∙ ap (λ path. file_need path events) (sym same) ∙ present.0 in cc

  -- what becomes of a file of the world is what is there at its path
  file_becomes : (f : File) → IsIn f w.files → (need : Option FileNeed) → file_need f.path events ≡ need
      → (there : Option File) → file_found f.path v.files ≡ there → kept_file (file_as need there) f ≡ there
  file_becomes f in_f (Some Whole) is there found =
      sym (at_item path_of is_below below_itself text_trans same_text bytes_eq-true bytes_eq-itself v.files sv.files f (l.whole f in_f is)) ∙ found
  file_becomes f in_f (Some Present) is (Some g) found =
      let same : g.path ≡ f.path = at_key path_of is_below below_itself text_trans same_text bytes_eq-true bytes_eq-itself f.path v.files g found in
      λ j. Some (record { path = sym same j; content = g.content })
  file_becomes f in_f (Some Present) is None none =
      let there = l.present f in_f is in
      let never : true ≡ false = sym (bytes_eq-itself f.path) ∙ none_in (λ (x : File). same_text x.path f.path) v.files (with_content f there.0) none there.1 in cc
  file_becomes f in_f None is (Some g) found =
      let in_g : IsIn g v.files = found_in (λ (x : File). same_text x.path f.path) v.files g found in
      let same : g.path ≡ f.path = at_key path_of is_below below_itself text_trans same_text bytes_eq-true bytes_eq-itself f.path v.files g found in
      ap Some (other_is f g in_f is same (l.others g in_g))
  file_becomes f in_f None is None none = refl

  files_become : (fs : List File) → ((f : File) → IsIn f fs → IsIn f w.files)
      → cut_files made_cut fs ≡ filter_map (λ (f : File). file_found f.path v.files) fs
  files_become [] among = refl
  files_become (f ∷ fs) among =
      let one : kept_file (made_cut.file f.path) f ≡ file_found f.path v.files =
      file_becomes f (among f (inl refl)) (file_need f.path events) refl (file_found f.path v.files) refl in
      λ j. cons_option (one j) (files_become fs (λ g is. among g (inr is)) j)

  file_covered : (g : File) → IsIn g w.files ⊎ IsPresent events w.files g → (f : File) × (IsIn f w.files × (f.path ≡ g.path))
  file_covered g (inl in_g) = (g, (in_g, refl))
  file_covered g (inr present) = (with_content g present.1.0, (present.1.1, refl))

  files_same : cut_files made_cut w.files ≡ v.files
  files_same =
      files_become w.files (λ f is. is)
      ∙ found_all path_of is_below below_itself text_trans same_text bytes_eq-true bytes_eq-itself v.files w.files sv.files sw.files (λ g is. file_covered g (l.others g is))

  -- ---- rows

  module _ (small table : Table) (in_small : IsIn small v.tables) (in_table : IsIn table w.tables) (b : TableBetween events small table) where
    sorted_small : rises (λ (x y : TableRow). nat_lt x.number y.number) small.rows ≡ true
    sorted_small = sv.rows small in_small

    sorted_table : rises (λ (x y : TableRow). nat_lt x.number y.number) table.rows ≡ true
    sorted_table = sw.rows table in_table

    -- a row of the number of one that is there is that one
    row_becomes : (row : TableRow) → IsIn row table.rows → (there : Option TableRow) → row_found row.number small.rows ≡ there
        → cons_option there [] ≡ filter (λ (r : TableRow). list_any (λ (s : TableRow). s.number == r.number) small.rows) (row ∷ [])
    row_becomes row is (Some s) found =
        let in_s : IsIn s small.rows = found_in (λ (x : TableRow). x.number == row.number) small.rows s found in
        let number : s.number ≡ row.number = at_key number_of nat_lt lt_itself less-trans (λ a b. a == b) nat_eq-true itself row.number small.rows s found in
        let same : s ≡ row = same_item number_of nat_lt lt_itself less-trans table.rows sorted_table s row (b.rows s in_s) is number in
        let hit : list_any (λ (x : TableRow). x.number == row.number) small.rows ≡ true =
        in_any (λ (x : TableRow). x.number == row.number) small.rows s in_s (ap (λ n. n == row.number) number ∙ itself row.number) in
        rw hit (ap (λ (r : TableRow). r ∷ []) same)
    row_becomes row is None none = elim (cases_Bool (list_any (λ (x : TableRow). x.number == row.number) small.rows)) [
      | inr miss ↦ rw miss refl
      | inl hit ↦
          let some = any_in (λ (x : TableRow). x.number == row.number) small.rows hit in
          let never : true ≡ false = sym some.1.1 ∙ none_in (λ (x : TableRow). x.number == row.number) small.rows some.0 none some.1.0 in cc
    ]

    rows_become : (rows : List TableRow) → ((row : TableRow) → IsIn row rows → IsIn row table.rows)
        → filter (λ (r : TableRow). list_any (λ (s : TableRow). s.number == r.number) small.rows) rows
        ≡ filter_map (λ (r : TableRow). row_found r.number small.rows) rows
    rows_become [] among = refl
    rows_become (row ∷ rows) among =
        one_more (list_any (λ (s : TableRow). s.number == row.number) small.rows) (row_found row.number small.rows)
        (row_becomes row (among row (inl refl)) (row_found row.number small.rows) refl)
        (rows_become rows (λ r is. among r (inr is)))
      where
        one_more : (hit : Bool) (there : Option TableRow) → cons_option there [] ≡ cond hit (row ∷ []) []
            → filter (λ (r : TableRow). list_any (λ (s : TableRow). s.number == r.number) small.rows) rows ≡ filter_map (λ (r : TableRow). row_found r.number small.rows) rows
            → cond hit (row ∷ filter (λ (r : TableRow). list_any (λ (s : TableRow). s.number == r.number) small.rows) rows) (filter (λ (r : TableRow). list_any (λ (s : TableRow). s.number == r.number) small.rows) rows)
            ≡ cons_option there (filter_map (λ (r : TableRow). row_found r.number small.rows) rows)
        one_more true (Some s) one rest = let same : s ≡ row = cc in λ j. sym same j ∷ rest j
        one_more true None one rest = cc
        one_more false (Some s) one rest = cc
        one_more false None one rest = rest

    rows_same : filter (λ (r : TableRow). list_any (λ (s : TableRow). s.number == r.number) small.rows) table.rows ≡ small.rows
    rows_same =
        rows_become table.rows (λ row is. is)
        ∙ found_all number_of nat_lt lt_itself less-trans (λ a b. a == b) nat_eq-true itself small.rows table.rows sorted_small sorted_table (λ row is. (row, (b.rows row is, refl)))

  -- ---- tables

  same_table : (t u : Table) → IsIn t w.tables → IsIn u w.tables → t.name ≡ u.name → t ≡ u
  same_table t u in_t in_u same = same_item name_of is_below below_itself text_trans w.tables sw.tables t u in_t in_u same

  table_is : (small table : Table) → (found : table_found table.name v.tables ≡ Some small) → IsIn small v.tables → IsIn table w.tables
      → TableBetween events small table → cut_table made_cut table ≡ small
  table_is small table found in_small in_table b =
      let rows : filter (row_stays made_cut table) table.rows ≡ small.rows =
      (λ j. filter (λ (r : TableRow). row_as (found j) r.number) table.rows) ∙ rows_same small table in_small in_table b in
      λ j. record { name = sym b.name j; schema = sym b.schema j; rows = rows j; next = sym b.next j }

  -- what becomes of a table of the world is what is there of its name
  table_becomes : (table : Table) → IsIn table w.tables → (there : Option Table) → table_found table.name v.tables ≡ there
      → cond (table_as there (table_found table.name w.tables)) (Some (cut_table made_cut table)) None ≡ there
  table_becomes table is (Some small) found =
      let in_small : IsIn small v.tables = found_in (λ (x : Table). same_text x.name table.name) v.tables small found in
      let name : small.name ≡ table.name = at_key name_of is_below below_itself text_trans same_text bytes_eq-true bytes_eq-itself table.name v.tables small found in
      let of = l.tables small in_small in
      let same : of.0 ≡ table = same_table of.0 table of.1 is (sym of.2.name ∙ name) in
      ap Some (table_is small table found in_small is (subst (TableBetween events small) same of.2))
  table_becomes table is None none =
      let there : table_found table.name w.tables ≡ Some table = at_item name_of is_below below_itself text_trans same_text bytes_eq-true bytes_eq-itself w.tables sw.tables table is in
      ap (λ (o : Option Table). cond (is_none o) (Some (cut_table made_cut table)) None) there

  tables_become : (ts : List Table) → ((t : Table) → IsIn t ts → IsIn t w.tables)
      → cut_tables made_cut ts ≡ filter_map (λ (t : Table). table_found t.name v.tables) ts
  tables_become [] among = refl
  tables_become (t ∷ ts) among =
      one_more (table_as (table_found t.name v.tables) (table_found t.name w.tables)) (table_found t.name v.tables)
      (table_becomes t (among t (inl refl)) (table_found t.name v.tables) refl)
      (tables_become ts (λ u is. among u (inr is)))
    where
      one_more : (stays : Bool) (there : Option Table) → cond stays (Some (cut_table made_cut t)) None ≡ there
          → cut_tables made_cut ts ≡ filter_map (λ (u : Table). table_found u.name v.tables) ts
          → cond stays (cut_table made_cut t ∷ cut_tables made_cut ts) (cut_tables made_cut ts)
          ≡ cons_option there (filter_map (λ (u : Table). table_found u.name v.tables) ts)
      one_more true (Some s) one rest = let same : cut_table made_cut t ≡ s = cc in λ j. same j ∷ rest j
      one_more true None one rest = cc
      one_more false (Some s) one rest = cc
      one_more false None one rest = rest

  tables_same : cut_tables made_cut w.tables ≡ v.tables
  tables_same =
      tables_become w.tables (λ t is. is)
      ∙ found_all name_of is_below below_itself text_trans same_text bytes_eq-true bytes_eq-itself v.tables w.tables sv.tables sw.tables
      (λ small is. let of = l.tables small is in (of.0, (of.1, sym of.2.name)))

  -- ---- what is needed stays

  table_there : (name : List ℕ) (small : Table) → IsIn small v.tables → small.name ≡ name → is_some (table_found name v.tables) ≡ true
  table_there name small is same = by (table_found name v.tables) refl
    where
      by : (o : Option Table) → table_found name v.tables ≡ o → is_some (table_found name v.tables) ≡ true
      by (Some t) found = ap is_some found
      by None none =
          let never : true ≡ false = sym (bytes_eq-itself name) ∙ ap (λ (k : List ℕ). same_text k name) (sym same) ∙ none_in (λ (x : Table). same_text x.name name) v.tables small none is in cc

  table_stays_here : (name : List ℕ) → is_table_needed events name ≡ true → made_cut.table name ≡ true
  table_stays_here name needed = by (table_found name w.tables) refl
    where
      by : (o : Option Table) → table_found name w.tables ≡ o → made_cut.table name ≡ true
      by None none = or-right (is_some (table_found name v.tables)) (is_none (table_found name w.tables)) (ap is_none none)
      by (Some t) found =
          let is : IsIn t w.tables = found_in (λ (x : Table). same_text x.name name) w.tables t found in
          let same : t.name ≡ name = at_key name_of is_below below_itself text_trans same_text bytes_eq-true bytes_eq-itself name w.tables t found in
          let there = l.needed t is (ap (is_table_needed events) same ∙ needed) in
          or-left (is_some (table_found name v.tables)) (is_none (table_found name w.tables)) (table_there name there.0 there.1 (there.2 ∙ same))

  row_in : (name : List ℕ) (number : ℕ) (small : Table) → table_found name v.tables ≡ Some small → is_initial w.tables name number ≡ true
      → is_row_needed events name number ≡ true → list_any (λ (r : TableRow). r.number == number) small.rows ≡ true
  row_in name number small found first needed =
      let in_small : IsIn small v.tables = found_in (λ (x : Table). same_text x.name name) v.tables small found in
      let named : small.name ≡ name = at_key name_of is_below below_itself text_trans same_text bytes_eq-true bytes_eq-itself name v.tables small found in
      let of = l.tables small in_small in
      let b : TableBetween events small of.0 = of.2 in
      let some = any_in (has_row name number) w.tables first in
      let parts = and_parts (is_table name some.0) (list_any (λ (r : TableRow). r.number == number) some.0.rows) some.1.1 in
      let same : some.0 ≡ of.0 = same_table some.0 of.0 some.1.0 of.1 (bytes_eq-true some.0.name name parts.0 ∙ sym named ∙ b.name) in
      let row = any_in (λ (r : TableRow). r.number == number) some.0.rows parts.1 in
      let in_table : IsIn row.0 of.0.rows = subst (λ (t : Table). IsIn row.0 t.rows) same row.1.0 in
      let numbered : row.0.number ≡ number = nat_eq-true row.0.number number row.1.1 in
      let wanted : is_row_needed events of.0.name row.0.number ≡ true = (λ j. is_row_needed events ((sym b.name ∙ named) j) (numbered j)) ∙ needed in
      in_any (λ (r : TableRow). r.number == number) small.rows row.0 (b.needed row.0 in_table wanted) row.1.1

  row_stays_here : (name : List ℕ) (number : ℕ) → is_initial w.tables name number ≡ true → is_row_needed events name number ≡ true
      → made_cut.row name number ≡ true
  row_stays_here name number first needed = by (table_found name v.tables) refl
    where
      by : (o : Option Table) → table_found name v.tables ≡ o → made_cut.row name number ≡ true
      by None none = ap (λ (o : Option Table). row_as o number) none
      by (Some small) found = ap (λ (o : Option Table). row_as o number) found ∙ row_in name number small found first needed

  pub as_cut : CutOf events v w
  as_cut = (
    made_cut,
    record {
      files = λ path. file_keeps (file_need path events) (file_found path v.files);
      tables = table_stays_here;
      rows = row_stays_here;
    },
    l.parents,
    λ j. record { start = l.start j; seed = l.seed j; files = sym files_same j; tables = sym tables_same j },
  )

-- ---- from what was cut to what is in them

module _ (events : List Event) (w : World) (cut : Cut) (keeps : KeepsNeeded cut w.tables events)
    (parents : HasParents (cut_world cut w)) where
  abbrev small : World
  small = cut_world cut w

  abbrev file_left : File → Option File
  file_left f = kept_file (cut.file f.path) f

  whole_stays : (f : File) → IsIn f w.files → (k : FileCut) → cut.file f.path ≡ k → KeepsFile (Some Whole) k → IsIn f small.files
  whole_stays f is Gone becomes kept = absurd kept
  whole_stays f is Same becomes kept = in_filter_map file_left w.files f f is (ap (λ (k : FileCut). kept_file k f) becomes)
  whole_stays f is (Other bytes) becomes kept = absurd kept

  present_stays : (f : File) → IsIn f w.files → (k : FileCut) → cut.file f.path ≡ k → KeepsFile (Some Present) k
      → (bytes : List ℕ) × IsIn (with_content f bytes) small.files
  present_stays f is Gone becomes kept = absurd kept
  present_stays f is Same becomes kept = (f.content, in_filter_map file_left w.files f f is (ap (λ (k : FileCut). kept_file k f) becomes))
  present_stays f is (Other bytes) becomes kept = (bytes, in_filter_map file_left w.files f (with_content f bytes) is (ap (λ (k : FileCut). kept_file k f) becomes))

  other_need : (need : Option FileNeed) (bytes : List ℕ) → KeepsFile need (Other bytes) → need ≡ Some Present
  other_need (Some Whole) bytes kept = absurd kept
  other_need (Some Present) bytes kept = refl
  other_need None bytes kept = absurd kept

  other_from : (f g : File) → IsIn f w.files → (k : FileCut) → cut.file f.path ≡ k → kept_file k f ≡ Some g
      → IsIn g w.files ⊎ IsPresent events w.files g
  other_from f g is Gone becomes gives = cc
  other_from f g is Same becomes gives = let same : f ≡ g = cc in inl (subst (λ (x : File). IsIn x w.files) same is)
  other_from f g is (Other bytes) becomes gives =
      let same : with_content f bytes ≡ g = cc in
      let path : f.path ≡ g.path = ap path_of same in
      let need : file_need f.path events ≡ Some Present = other_need (file_need f.path events) bytes (subst (KeepsFile (file_need f.path events)) becomes (keeps.files f.path)) in
      let there : IsIn (with_content g f.content) w.files = subst (λ (p : List ℕ). IsIn (record { path = p; content = f.content }) w.files) path is in
      inr (ap (λ (p : List ℕ). file_need p events) (sym path) ∙ need, (f.content, there))

  table_left : (t : Table) → IsIn t w.tables → cut.table t.name ≡ true → IsIn (cut_table cut t) small.tables
  table_left t is stays = in_filter (table_stays cut) (map (cut_table cut) w.tables) (cut_table cut t) (in_map w.tables is) stays
    where
      in_map : (ts : List Table) → IsIn t ts → IsIn (cut_table cut t) (map (cut_table cut) ts)
      in_map [] here = absurd here
      in_map (u ∷ us) (inl same) = inl (ap (cut_table cut) same)
      in_map (u ∷ us) (inr more) = inr (in_map us more)

  map_in : (ts : List Table) (s : Table) → IsIn s (map (cut_table cut) ts) → (t : Table) × (IsIn t ts × (s ≡ cut_table cut t))
  map_in [] s is = absurd is
  map_in (t ∷ ts) s (inl same) = (t, (inl refl, same))
  map_in (t ∷ ts) s (inr more) = let of = map_in ts s more in (of.0, (inr of.1.0, of.1.1))

  table_between : (t : Table) → IsIn t w.tables → TableBetween events (cut_table cut t) t
  table_between t is = record {
    name = refl;
    schema = refl;
    next = refl;
    rows = λ row there. (filter_in (row_stays cut t) t.rows row there).0;
    needed = λ row there needed.
        let has : has_row t.name row.number t ≡ true = and_from (is_table t.name t) (list_any (λ (r : TableRow). r.number == row.number) t.rows) (bytes_eq-itself t.name)
        (in_any (λ (r : TableRow). r.number == row.number) t.rows row there (itself row.number)) in
        let first : is_initial w.tables t.name row.number ≡ true = in_any (has_row t.name row.number) w.tables t is has in
        in_filter (row_stays cut t) t.rows row there (keeps.rows t.name row.number first needed);
  }

  table_from : (s : Table) → IsIn s small.tables → (t : Table) × IsIn t w.tables × TableBetween events s t
  table_from s is =
      let of = map_in w.tables s (filter_in (table_stays cut) (map (cut_table cut) w.tables) s is).0 in
      (of.0, of.1.0, subst (λ (x : Table). TableBetween events x of.0) (sym of.1.1) (table_between of.0 of.1.0))

  pub as_members : LiesBetween events small w
  as_members = record {
    parents = parents;
    start = refl;
    seed = refl;
    whole = λ f is need. whole_stays f is (cut.file f.path) refl (subst (λ (o : Option FileNeed). KeepsFile o (cut.file f.path)) need (keeps.files f.path));
    present = λ f is need. present_stays f is (cut.file f.path) refl (subst (λ (o : Option FileNeed). KeepsFile o (cut.file f.path)) need (keeps.files f.path));
    others = λ g is. let of = filter_map_in file_left w.files g is in other_from of.0 g of.1.0 (cut.file of.0.path) refl of.1.1;
    needed = λ t is needed. (cut_table cut t, table_left t is (keeps.tables t.name needed), refl);
    tables = table_from;
  }

pub membership_law : MembershipLaw
membership_law events v w ruled_v ruled_w = (
  λ l. as_cut events v w (sorted_world v ruled_v) (sorted_world w ruled_w) l,
  λ c. subst (λ (x : World). LiesBetween events x w) (sym c.3) (as_members events w c.0 c.1 (subst HasParents c.3 c.2)),
)
