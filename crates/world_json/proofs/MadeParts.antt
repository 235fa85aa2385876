-- A table and a document of the parts that were read.
use Rattle.std.proofs.Common.{◌≡◌, ℕ, ◌<◌, ◌^◌, List, [], length, true, codes, Option, Some, IfSome, sym, ap, ◌∙◌, subst}
use Rattle.std.specs.List.{AllByRecursion}
use Rattle.std.specs.Str.{IsUtf8}
use Rattle.serde_json.specs.Data.{Data, Members}
use Rattle.serde_json.specs.Find.{get_member, as_str}
use Rattle.run_model.specs.TypedPackage.{TypedColumn, TypedValues}
use Rattle.ldv_value.specs.declared.file.File.{File}
use Rattle.ldv_value.specs.declared.value.Value.{Value}
use Rattle.sql_model.specs.declared.table.Column.{Column}
use Rattle.world_json.specs.Shape.{array_of, object_of, required_member, optional_member, whole_of, file_of, cell_of, column_of, foreign_of, draft_of, is_width, table_from, table_in, table_of, document_as, document_from, document_in}
use Rattle.world_json.specs.declared.document.Draft.{Draft}
use Rattle.world_json.specs.declared.document.DraftForeign.{DraftForeign}
use Rattle.world_json.specs.declared.fast.table.TableParts.{TableParts}
use Rattle.world_json.specs.declared.fast.document.DocumentParts.{DocumentParts}
use Rattle.world_json.specs.inner.Parts.{AreTableParts, AreDocumentParts}
use Rattle.world_json.specs.inner.Taking.{IsPart, part_or}
use Rattle.world_json.specs.inner.Typed.{TypedDraft, TypedDraftForeign, TypedDocument, TypedDocumentFile}
use Rattle.world_json.proofs.KeptMembers.{part_optional, all_or_none}

table_by : (name : List ℕ) (columns key foreign rows next : Option Data) (cs : List Column) (ks : List (List ℕ)) (fs : List DraftForeign) (rs : List (List Value)) (n : ℕ)
    → required_member (array_of column_of) columns ≡ Some cs → optional_member (array_of as_str) [] key ≡ Some ks → optional_member (array_of foreign_of) [] foreign ≡ Some fs
    → optional_member (array_of (array_of cell_of)) [] rows ≡ Some rs → optional_member whole_of (length rs) next ≡ Some n → is_width (length cs) rs ≡ true
    → table_from name columns key foreign rows next ≡ Some (draft_of name cs ks fs rs n)
table_by name columns key foreign rows next cs ks fs rs n e1 e2 e3 e4 e5 wide = rw (e1, e2, e3, e4, e5, wide)

pub table_made : (name : List ℕ) (ms : Members) (parts : TableParts) (cs : List Column) (ks : List (List ℕ)) (fs : List DraftForeign) (rs : List (List Value)) (n : ℕ)
    → parts.columns ≡ Some cs → ks ≡ part_or [] parts.key → fs ≡ part_or [] parts.foreign → rs ≡ part_or [] parts.rows → n ≡ part_or (length rs) parts.next → is_width (length cs) rs ≡ true → IsUtf8 name → AreTableParts ms parts
    → (table_in name ms ≡ Some (draft_of name cs ks fs rs n)) × TypedDraft (draft_of name cs ks fs rs n)
table_made name ms parts cs ks fs rs n c_is k_is f_is r_is n_is wide text kept =
    let columns = get_member (codes "columns") ms in
    let key = get_member (codes "key") ms in
    let foreign = get_member (codes "foreign") ms in
    let rows = get_member (codes "rows") ms in
    let next = get_member (codes "next") ms in
    let made = table_by name columns key foreign rows next cs ks fs rs n
    (subst (λ o. IsPart (array_of column_of) columns o) c_is kept.columns)
    (part_optional (array_of as_str) key parts.key [] kept.key ∙ ap Some (sym k_is))
    (part_optional (array_of foreign_of) foreign parts.foreign [] kept.foreign ∙ ap Some (sym f_is))
    (part_optional (array_of (array_of cell_of)) rows parts.rows [] kept.rows ∙ ap Some (sym r_is))
    (part_optional whole_of next parts.next (length rs) kept.next ∙ ap Some (sym n_is))
    wide in (
      rw kept.only made,
      record {
        name = text;
        columns = subst (λ o. IfSome o (AllByRecursion TypedColumn)) c_is kept.typed_columns;
        foreign = subst (AllByRecursion TypedDraftForeign) (sym f_is) (all_or_none TypedDraftForeign parts.foreign kept.typed_foreign);
        rows = subst (AllByRecursion TypedValues) (sym r_is) (all_or_none TypedValues parts.rows kept.typed_rows);
      },
    )

document_by : (start seed files tables : Option Data) (ws : List (List ℕ)) (n : ℕ) (fs : List File) (ts : List Draft)
    → required_member (array_of as_str) start ≡ Some ws → optional_member whole_of 0 seed ≡ Some n → required_member (object_of file_of) files ≡ Some fs → optional_member (object_of table_of) [] tables ≡ Some ts
    → document_from start seed files tables ≡ Some (document_as ws n fs ts)
document_by start seed files tables ws n fs ts e1 e2 e3 e4 = rw (e1, e2, e3, e4)

pub document_made : (ms : Members) (parts : DocumentParts) (ws : List (List ℕ)) (n : ℕ) (fs : List File) (ts : List Draft) → parts.start ≡ Some ws → n ≡ part_or 0 parts.seed → parts.files ≡ Some fs
    → ts ≡ part_or [] parts.tables → n < 2 ^ 64 → AreDocumentParts ms parts → (document_in ms ≡ Some (document_as ws n fs ts)) × TypedDocument (document_as ws n fs ts)
document_made ms parts ws n fs ts w_is n_is f_is t_is fits kept =
    let start = get_member (codes "start") ms in
    let seed = get_member (codes "seed") ms in
    let files = get_member (codes "files") ms in
    let tables = get_member (codes "tables") ms in
    let made = document_by start seed files tables ws n fs ts
    (subst (λ o. IsPart (array_of as_str) start o) w_is kept.start)
    (part_optional whole_of seed parts.seed 0 kept.seed ∙ ap Some (sym n_is))
    (subst (λ o. IsPart (object_of file_of) files o) f_is kept.files)
    (part_optional (object_of table_of) tables parts.tables [] kept.tables ∙ ap Some (sym t_is)) in (
      rw kept.only made,
      record {
        start = subst (λ o. IfSome o (AllByRecursion IsUtf8)) w_is kept.typed_start;
        seed = fits;
        files = subst (λ o. IfSome o (AllByRecursion TypedDocumentFile)) f_is kept.typed_files;
        tables = subst (AllByRecursion TypedDraft) (sym t_is) (all_or_none TypedDraft parts.tables kept.typed_tables);
      },
    )
