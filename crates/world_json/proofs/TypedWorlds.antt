-- The world of a document in memory: its numbers are those of their types, and its texts are UTF-8.
use Rattle.std.proofs.Common.{◌≡◌, ℕ, ◌+◌, ◌<◌, ◌≤◌, ◌^◌, List, [], ◌∷◌, length, map, true, ◌&&◌, nat_le, arith, sym, subst}
use Rattle.std.specs.List.{list_all, AllByRecursion}
use Rattle.std.proofs.lemmas.Bool.{leb-true}
use Rattle.ldv_value.proofs.Booleans.{and-parts, and-second}
use Rattle.ldv_value.specs.Limits.{max_next, max_rows}
use Rattle.ldv_value.specs.declared.value.Value.{Value}
use Rattle.sql_model.specs.ForeignKeys.{max_foreign}
use Rattle.sql_model.specs.Tables.{column_count_test, is_short}
use Rattle.run_model.specs.TypedPackage.{TypedForeign, TypedRow, TypedTable, TypedValues}
use Rattle.run_model.specs.ValidWorld.{all_of_file, all_of_row, all_of_table, TypedWorld}
use Rattle.run_model.specs.declared.world.World.{World}
use Rattle.world_json.specs.Faults.{foreign_key, foreign_keys, is_next_right, is_table_within, is_within}
use Rattle.world_json.specs.Reading.{numbered_from, table_as, world_as}
use Rattle.world_json.specs.inner.Typed.{TypedDraft, TypedDocument}
use Rattle.world_json.specs.declared.document.Document.{Document}
use Rattle.world_json.specs.declared.document.Draft.{Draft}

-- ---- lists

-- what holds of each item holds of each item of the list that is made of them
pub all_made : {A B : Type 0} (P : B → Type 0) (f : A → B) (xs : List A) → AllByRecursion (λ x. P (f x)) xs
    → AllByRecursion P (map f xs)
all_made P f [] all = tt
all_made P f (x ∷ xs) all = (all.0, all_made P f xs all.1)

-- ---- tables

rows_typed : (n : ℕ) (rows : List (List Value)) → n + length rows < 2 ^ 32 → AllByRecursion TypedValues rows
    → AllByRecursion TypedRow (map all_of_row (numbered_from n rows))
rows_typed n [] few typed = tt
rows_typed n (row ∷ rows) few typed =
    let number : n < 2 ^ 32 = omega arith in
    let zero : 0 < 2 ^ 32 = omega arith in
    ((number, (zero, typed.0)), rows_typed (n + 1) rows (omega arith) typed.1)

table_typed : (draft : Draft) → is_table_within draft ≡ true → TypedDraft draft → TypedTable (all_of_table (table_as draft))
table_typed draft within typed =
    let right : is_next_right draft ≡ true =
    and-second (column_count_test draft.columns && nat_le (length draft.foreign) max_foreign && nat_le (length draft.rows) max_rows && list_all (list_all is_short) draft.rows) (is_next_right draft) within in
    let next = and-parts (nat_le (length draft.rows) draft.next) (nat_le draft.next max_next) right in
    let few : length draft.rows ≤ draft.next = leb-true (length draft.rows) draft.next next.0 in
    let most : draft.next ≤ max_next = leb-true draft.next max_next next.1 in
    let bytes : draft.next < 2 ^ 32 = omega (arith, most) in
    let foreign : AllByRecursion TypedForeign (foreign_keys draft) =
    all_made TypedForeign (foreign_key draft.columns) draft.foreign typed.foreign in
    (typed.name, ((typed.columns, foreign), (bytes, rows_typed 0 draft.rows (omega (arith, few, most)) typed.rows)))

tables_typed : (drafts : List Draft) → list_all is_table_within drafts ≡ true → AllByRecursion TypedDraft drafts
    → AllByRecursion TypedTable (map all_of_table (map table_as drafts))
tables_typed [] within typed = tt
tables_typed (draft ∷ drafts) within typed =
    let w = and-parts _ _ within in
    (table_typed draft w.0 typed.0, tables_typed drafts w.1 typed.1)

-- ---- the world

pub world_typed : (doc : Document) (world : World) → world ≡ world_as doc → is_within doc ≡ true → TypedDocument doc
    → TypedWorld world
world_typed doc world is within typed =
    let small : 1 < 2 ^ 32 = omega arith in
    let made : TypedWorld (world_as doc) =
    (typed.start, (typed.seed, (small, (all_made _ all_of_file doc.files typed.files, (tables_typed doc.tables (and-second _ _ within) typed.tables, (tt, tt)))))) in
    subst TypedWorld (sym is) made
