-- The sorted lists of a world that meets the rules, and the names of its tables.
use Rattle.std.proofs.Common.{◌≡◌, ◌≤◌, List, [], ◌∷◌, length, map, sym, ap, ◌∙◌, Bool, true, arith, inl, inr}
use Rattle.std.specs.Prelude.{◌&&◌, nat_le, nat_lt, IsTrue}
use Rattle.std.specs.List.{list_all, AllByRecursion}
use Rattle.std.proofs.lemmas.Bool.{and_parts, leb-true}
use Rattle.std.specs.Str.{IsUtf8}
use Rattle.ldv_value.proofs.Lists.{length-map, all-weaker, sorted-under}
use Rattle.sql_model.specs.Needs.{table_name}
use Rattle.replay_db.specs.Types.{File, Table, TableRow, PackedFile, World}
use Rattle.run_model.specs.Between.{IsIn}
use Rattle.run_model.specs.TypedPackage.{TypedTable}
use Rattle.run_model.specs.ValidPackage.{file_rule, files_rule, table_rule}
use Rattle.run_model.specs.ValidWorld.{all_of_file, all_of_table, all_of_world, TypedWorld, world_rules}
use Rattle.run_model.proofs.ValidWorlds.{Ruled, ruled_by, RuledTable, ruled_table, RuledList, ruled_list}
use Rattle.package_layout.specs.inner.Order.{rises, is_below, file_below, table_below}
use Rattle.replay_db.proofs.TraceLists.{all_map, all_of_map}

-- ---- what is sorted

each_in : {X Y : Type 0} (p : Y → Bool) (f : X → Y) (xs : List X) (x : X) → list_all p (map f xs) ≡ true → IsIn x xs → p (f x) ≡ true
each_in p f [] x all is = absurd is
each_in p f (y ∷ ys) x all (inl same) = ap (λ z. p (f z)) same ∙ (and_parts (p (f y)) (list_all p (map f ys)) all).0
each_in p f (y ∷ ys) x all (inr more) = each_in p f ys x (and_parts (p (f y)) (list_all p (map f ys)) all).1 more

pub record SortedWorld (w : World) : Type 0 where
  pub files : rises (λ (a b : File). is_below a.path b.path) w.files ≡ true
  pub tables : rises (λ (a b : Table). is_below a.name b.name) w.tables ≡ true
  pub rows : (t : Table) → IsIn t w.tables → rises (λ (a b : TableRow). nat_lt a.number b.number) t.rows ≡ true

sorted_files : (files : List File) → files_rule (map all_of_file files) ≡ true → rises (λ (a b : File). is_below a.path b.path) files ≡ true
sorted_files files met =
    let packed : List PackedFile = map all_of_file files in
    let a = and_parts (nat_le (length packed) 65536) (list_all file_rule packed && rises file_below packed) met in
    let b = and_parts (list_all file_rule packed) (rises file_below packed) a.1 in
    sym (sorted-under file_below all_of_file files) ∙ b.1

pub sorted_world : (w : World) → IsTrue (world_rules w) → SortedWorld w
sorted_world w met =
    let ruled : Ruled (all_of_world w) = ruled_by (all_of_world w) met in
    let list : RuledList (map all_of_table w.tables) = ruled_list (map all_of_table w.tables) ruled.tables in
    record {
      files = sorted_files w.files ruled.files;
      tables = sym (sorted-under table_below all_of_table w.tables) ∙ list.sorted;
      rows = λ t is.
          let one : RuledTable t = ruled_table t (each_in table_rule all_of_table w.tables t list.each is) in
          (and_parts (rises (λ (a b : TableRow). nat_lt a.number b.number) t.rows) (list_all (λ (row : TableRow). nat_lt row.number t.next) t.rows) one.numbers).0;
    }

-- ---- the names of its tables

-- there are no more than there may be
pub few_names : (w : World) → IsTrue (world_rules w) → length (map table_name w.tables) ≤ 256
few_names w met =
    let ruled : Ruled (all_of_world w) = ruled_by (all_of_world w) met in
    let list : RuledList (map all_of_table w.tables) = ruled_list (map all_of_table w.tables) ruled.tables in
    let count : length (map all_of_table w.tables) ≤ 256 = leb-true (length (map all_of_table w.tables)) 256 list.few in
    omega (arith, length-map w.tables all_of_table, length-map w.tables table_name, count)

pub texts_of_names : (w : World) → TypedWorld w → AllByRecursion IsUtf8 (map table_name w.tables)
texts_of_names w typed =
    all_map IsUtf8 table_name w.tables
    (all-weaker (λ t. TypedTable (all_of_table t)) (λ t. IsUtf8 t.name) (λ t h. h.0) w.tables (all_of_map TypedTable all_of_table w.tables typed.1.1.1.1.0))
