-- If two packages have numbers that fit their types and texts of UTF-8, so has their joined package.
use Rattle.std.proofs.Common.{ℕ, List, [], ◌∷◌, map, Option, Some, None, refl, sym, subst, inl, inr}
use Rattle.std.specs.List.{flat_map, cons_option, AllByRecursion}
use Rattle.std.specs.Ordering.{nat_cmp}
use Rattle.std.specs.Cmp.Lexicographic.{slice_cmp}
use Rattle.std.specs.Str.{IsUtf8}
use Rattle.std.proofs.lemmas.Cmp.{nat_cmp_total, nat_list_cmp_total}
use Rattle.ldv_value.proofs.ItemLists.{all_append}
use Rattle.run_model.specs.Between.{IsIn}
use Rattle.run_model.specs.Package.{own_row, own_table}
use Rattle.run_model.specs.TypedPackage.{IsTyped, TypedFile, TypedRow, TypedTable}
use Rattle.package_codec.proofs.RunFields.{all_mapped}
use Rattle.package_join.specs.Types.{Package, PackedFile, PackedTable, Table, TableRow}
use Rattle.joined_data.specs.Joined.{both_files, both_rows, both_tables, merged_files, merged_rows, merged_tables, own_tables, path_unless, presents_of, put_together, row_reason, run_in, table_reasons, whole_path, wholes_of}
use Rattle.joined_data.specs.Rooms.{TypedCommonRow, TypedCommonTable, IsTypedJoined, TypedJoinedRun, TypedReason, TypedTexts}
use Rattle.joined_data.proofs.MergedLists.{in_merged, IsOf}
use Rattle.joined_data.proofs.PickedFiles.{path_of}
use Rattle.joined_data.proofs.PickedTables.{name_of, number_of}
use Rattle.package_join.proofs.RunsOfJoins.{typed_in}

-- ---- lists

all_typed : {X : Type 0} (P : X → Type 0) (xs : List X) → ((x : X) → IsIn x xs → P x) → AllByRecursion P xs
all_typed P [] each = tt
all_typed P (x ∷ xs) each = (each x (inl refl), all_typed P xs (λ y is. each y (inr is)))

-- ---- a run

wholes_typed : (files : List PackedFile) → AllByRecursion TypedFile files → TypedTexts (wholes_of files)
wholes_typed [] typed = tt
wholes_typed (f ∷ fs) typed = by f.content (wholes_typed fs typed.1)
  where
    by : (content : Option (List ℕ)) → TypedTexts (wholes_of fs)
        → TypedTexts (cons_option (whole_path (record { path = f.path; content = content })) (wholes_of fs))
    by None rest = rest
    by (Some bytes) rest = (typed.0, rest)

presents_typed : (files : List PackedFile) → AllByRecursion TypedFile files → TypedTexts (presents_of files)
presents_typed [] typed = tt
presents_typed (f ∷ fs) typed = by f.content (presents_typed fs typed.1)
  where
    by : (content : Option (List ℕ)) → TypedTexts (presents_of fs) → TypedTexts (cons_option (path_unless f.path content) (presents_of fs))
    by None rest = (typed.0, rest)
    by (Some bytes) rest = rest

reasons_typed : (tables : List PackedTable) → AllByRecursion TypedTable tables → AllByRecursion TypedReason (flat_map table_reasons tables)
reasons_typed [] typed = tt
reasons_typed (t ∷ ts) typed =
    all_append TypedReason (table_reasons t) (flat_map table_reasons ts)
    (all_mapped TypedRow TypedReason (row_reason t.name) (λ row r. (typed.0.0, (r.0, r.1.0))) t.rows typed.0.1.1.1) (reasons_typed ts typed.1)

run_typed : (p : Package) → IsTyped p → TypedJoinedRun (run_in p)
run_typed p t = (
  (
    t.0,
    (
      t.1.0,
      (
        t.1.1.0,
        (
          wholes_typed p.files t.1.1.1.0,
          (presents_typed p.files t.1.1.1.0, (all_mapped TypedTable IsUtf8 (λ table. table.name) (λ table r. r.0) p.tables t.1.1.1.1.0, reasons_typed p.tables t.1.1.1.1.0)),
        ),
      ),
    ),
  ),
  t.1.1.1.1.1.1,
)

-- ---- files and tables

own_typed : (tables : List PackedTable) → AllByRecursion TypedTable tables → AllByRecursion TypedCommonTable (map own_table tables)
own_typed = all_mapped TypedTable TypedCommonTable own_table
    (λ t r. (r.0, (r.1.0, (r.1.1.0, all_mapped TypedRow TypedCommonRow own_row (λ row k. (k.0, k.1.1)) t.rows r.1.1.1))))

files_typed : (xs ys : List PackedFile) → AllByRecursion TypedFile xs → AllByRecursion TypedFile ys → AllByRecursion TypedFile (merged_files xs ys)
files_typed xs ys tx ty =
    all_typed TypedFile (merged_files xs ys) (λ z is. by z (in_merged path_of (slice_cmp nat_cmp) nat_list_cmp_total both_files (λ x y e. refl) z xs ys is))
  where
    by : (z : PackedFile) → IsOf path_of (slice_cmp nat_cmp) nat_list_cmp_total both_files (λ x y e. refl) z xs ys → TypedFile z
    by z (inl there) = typed_in TypedFile xs tx z there
    by z (inr (inl there)) = typed_in TypedFile ys ty z there
    by z (inr (inr made)) = subst TypedFile (sym made.1.1.1.1.1) (typed_in TypedFile xs tx made.0 made.1.1.0)

rows_typed : (xs ys : List TableRow) → AllByRecursion TypedCommonRow xs → AllByRecursion TypedCommonRow ys → AllByRecursion TypedCommonRow (merged_rows xs ys)
rows_typed xs ys tx ty =
    all_typed TypedCommonRow (merged_rows xs ys) (λ z is. by z (in_merged number_of nat_cmp nat_cmp_total both_rows (λ x y e. refl) z xs ys is))
  where
    by : (z : TableRow) → IsOf number_of nat_cmp nat_cmp_total both_rows (λ x y e. refl) z xs ys → TypedCommonRow z
    by z (inl there) = typed_in TypedCommonRow xs tx z there
    by z (inr (inl there)) = typed_in TypedCommonRow ys ty z there
    by z (inr (inr made)) = subst TypedCommonRow (sym made.1.1.1.1.1) (typed_in TypedCommonRow xs tx made.0 made.1.1.0)

tables_typed : (xs ys : List Table) → AllByRecursion TypedCommonTable xs → AllByRecursion TypedCommonTable ys → AllByRecursion TypedCommonTable (merged_tables xs ys)
tables_typed xs ys tx ty =
    all_typed TypedCommonTable (merged_tables xs ys) (λ z is. by z (in_merged name_of (slice_cmp nat_cmp) nat_list_cmp_total both_tables (λ x y e. refl) z xs ys is))
  where
    by : (z : Table) → IsOf name_of (slice_cmp nat_cmp) nat_list_cmp_total both_tables (λ x y e. refl) z xs ys → TypedCommonTable z
    by z (inl there) = typed_in TypedCommonTable xs tx z there
    by z (inr (inl there)) = typed_in TypedCommonTable ys ty z there
    by z (inr (inr made)) =
        let one = typed_in TypedCommonTable xs tx made.0 made.1.1.0 in
        let two = typed_in TypedCommonTable ys ty made.1.0 made.1.1.1.0 in
        subst TypedCommonTable (sym made.1.1.1.1.1) (one.0, (one.1.0, (one.1.1.0, rows_typed made.0.rows made.1.0.rows one.1.1.1 two.1.1.1)))

pub together_typed : (a b : Package) → IsTyped a → IsTyped b → IsTypedJoined (put_together a b)
together_typed a b ta tb = (
  files_typed a.files b.files ta.1.1.1.0 tb.1.1.1.0,
  (
    tables_typed (own_tables a) (own_tables b) (own_typed a.tables ta.1.1.1.1.0) (own_typed b.tables tb.1.1.1.1.0),
    (run_typed a ta, run_typed b tb),
  ),
)
