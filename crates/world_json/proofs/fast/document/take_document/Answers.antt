use Rattle.world_json.specs.Shape.{document_of}
use Rattle.world_json.specs.inner.Parts.{AreDocumentParts}
use Rattle.world_json.specs.inner.Typed.{TypedDocument}
use Rattle.world_json.proofs.Taken.{object_taken, kept_all}
use Rattle.world_json.proofs.fast.document.take_document.Goals as goal

pub returns-clause-taken : goal.returns-clause-taken
returns-clause-taken c =
    object_taken AreDocumentParts document_of c.in_ok-document.document 5 c.args.reader.now c.open_object.new.reader c.take_members.new.reader c.no_parts-parts.result c.take_members.new.to
    c.in_ok-open_object.ensures c.no_parts-parts.ensures c.in_ok-take_members.ensures.taken (λ ms kept. (c.in_ok-document.ensures ms kept).0)

pub returns-clause-typed : goal.returns-clause-typed
returns-clause-typed c =
    kept_all AreDocumentParts (TypedDocument c.in_ok-document.document) 5 c.open_object.new.reader c.take_members.new.reader c.no_parts-parts.result c.take_members.new.to
    c.no_parts-parts.ensures c.in_ok-take_members.ensures.taken (λ ms kept. (c.in_ok-document.ensures ms kept).1)
