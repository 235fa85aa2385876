-- The parts of a file, of a table and of a document, beside the members that they were read of.
use Rattle.std.specs.Prelude.{◌≡◌, [], ◌∷◌, true, codes, IfSome}
use Rattle.std.specs.List.{AllByRecursion}
use Rattle.std.specs.Str.{IsUtf8}
use Rattle.run_model.specs.TypedPackage.{TypedColumn, TypedValues}
use Rattle.serde_json.specs.Data.{Members}
use Rattle.serde_json.specs.Find.{get_member, as_str}
use Rattle.world_json.specs.Shape.{array_of, object_of, only, whole_of, hex_of, file_of, cell_of, column_of, foreign_of}
use Rattle.world_json.specs.Shape.{table_of, table_members, document_members}
use Rattle.world_json.specs.declared.fast.file.HexParts.{HexParts}
use Rattle.world_json.specs.declared.fast.table.TableParts.{TableParts}
use Rattle.world_json.specs.declared.fast.document.DocumentParts.{DocumentParts}
use Rattle.world_json.specs.inner.Taking.{IsPart}
use Rattle.world_json.specs.inner.Typed.{TypedDocumentFile, TypedDraft, TypedDraftForeign}

pub record AreHexParts (ms : Members) (parts : HexParts) : Type 0 where
  pub only : only (codes "hex" ∷ []) ms ≡ true
  pub content : IsPart hex_of (get_member (codes "hex") ms) parts.content

pub record AreTableParts (ms : Members) (parts : TableParts) : Type 0 where
  pub only : only table_members ms ≡ true
  pub columns : IsPart (array_of column_of) (get_member (codes "columns") ms) parts.columns
  pub key : IsPart (array_of as_str) (get_member (codes "key") ms) parts.key
  pub foreign : IsPart (array_of foreign_of) (get_member (codes "foreign") ms) parts.foreign
  pub rows : IsPart (array_of (array_of cell_of)) (get_member (codes "rows") ms) parts.rows
  pub next : IsPart whole_of (get_member (codes "next") ms) parts.next
  pub typed_columns : IfSome parts.columns (AllByRecursion TypedColumn)
  pub typed_foreign : IfSome parts.foreign (AllByRecursion TypedDraftForeign)
  pub typed_rows : IfSome parts.rows (AllByRecursion TypedValues)

pub record AreDocumentParts (ms : Members) (parts : DocumentParts) : Type 0 where
  pub only : only document_members ms ≡ true
  pub start : IsPart (array_of as_str) (get_member (codes "start") ms) parts.start
  pub seed : IsPart whole_of (get_member (codes "seed") ms) parts.seed
  pub files : IsPart (object_of file_of) (get_member (codes "files") ms) parts.files
  pub tables : IsPart (object_of table_of) (get_member (codes "tables") ms) parts.tables
  pub typed_start : IfSome parts.start (AllByRecursion IsUtf8)
  pub typed_files : IfSome parts.files (AllByRecursion TypedDocumentFile)
  pub typed_tables : IfSome parts.tables (AllByRecursion TypedDraft)
