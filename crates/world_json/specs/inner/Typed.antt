-- Facts about every document in memory: its numbers fit their types, and its texts are UTF-8. Clauses range
-- over all numbers and lists, so they assume these facts by name.
use Rattle.std.specs.Prelude.{ℕ, ◌<◌, ◌^◌}
use Rattle.std.specs.List.{AllByRecursion}
use Rattle.std.specs.Str.{IsUtf8}
use Rattle.ldv_value.specs.declared.file.File.{File}
use Rattle.run_model.specs.TypedPackage.{TypedColumn, TypedFile, TypedValues}
use Rattle.run_model.specs.ValidWorld.{all_of_file}
use Rattle.world_json.specs.declared.document.Document.{Document}
use Rattle.world_json.specs.declared.document.Draft.{Draft}
use Rattle.world_json.specs.declared.document.DraftForeign.{DraftForeign}

abbrev pub TypedDocumentFile : File → Type 0
TypedDocumentFile file = TypedFile (all_of_file file)

abbrev pub TypedDraftForeign : DraftForeign → Type 0
TypedDraftForeign foreign = IsUtf8 foreign.parent

pub record TypedDraft (draft : Draft) : Type 0 where
  pub name : IsUtf8 draft.name
  pub columns : AllByRecursion TypedColumn draft.columns
  pub foreign : AllByRecursion TypedDraftForeign draft.foreign
  pub rows : AllByRecursion TypedValues draft.rows

pub record TypedDocument (doc : Document) : Type 0 where
  pub start : AllByRecursion IsUtf8 doc.start
  pub seed : doc.seed < 2 ^ 64
  pub files : AllByRecursion TypedDocumentFile doc.files
  pub tables : AllByRecursion TypedDraft doc.tables
