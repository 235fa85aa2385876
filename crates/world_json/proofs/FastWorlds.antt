-- The reading of bytes is that of the document that was read of them.
use Rattle.std.proofs.Common.{◌≡◌, ℕ, List, Option, Some, None, option_and_then, Result, Ok, Err, IfOk, IfErr, sym, ap, ◌∙◌, subst}
use Rattle.std.proofs.lemmas.Str.{is_utf8-from_IsUtf8}
use Rattle.std.specs.Str.{IsUtf8}
use Rattle.serde_json.specs.Data.{Data}
use Rattle.serde_json.specs.Read.{read}
use Rattle.json_bytes.specs.Reading.{json_of}
use Rattle.run_model.specs.declared.world.ParsedWorld.{ParsedWorld}
use Rattle.world_json.specs.Shape.{document_of}
use Rattle.world_json.specs.Reading.{IsFaultOf, reading_of, reading_of_document, reading_of_json}
use Rattle.world_json.specs.declared.document.Document.{Document}
use Rattle.world_json.specs.declared.fault.WorldStop.{WorldStop}

-- the document of a text is that of its bytes
pub bytes_read : (bytes text : List ℕ) (doc : Document) → text ≡ bytes → IsUtf8 bytes → option_and_then document_of (read text) ≡ Some doc → option_and_then document_of (json_of bytes) ≡ Some doc
bytes_read bytes text doc same utf8 is = rw (is_utf8-from_IsUtf8 bytes utf8) (subst (λ t. option_and_then document_of (read t) ≡ Some doc) same is)

reading_same : (o : Option Data) (doc : Document) → option_and_then document_of o ≡ Some doc → reading_of_json o ≡ reading_of doc
reading_same None doc is = absurd (cc)
reading_same (Some d) doc is = ap reading_of_document is

pub fast_world : (o : Option Data) (doc : Document) (r : Result ParsedWorld WorldStop) → option_and_then document_of o ≡ Some doc → IfOk r (λ p. reading_of doc ≡ Ok p.world) → IfOk r (λ p. reading_of_json o ≡ Ok p.world)
fast_world o doc (Ok p) is read = reading_same o doc is ∙ read
fast_world o doc (Err stop) is read = tt

pub fast_fault : (o : Option Data) (doc : Document) (r : Result ParsedWorld WorldStop) → option_and_then document_of o ≡ Some doc → IfErr r (IsFaultOf (reading_of doc)) → IfErr r (IsFaultOf (reading_of_json o))
fast_fault o doc (Ok p) is read = tt
fast_fault o doc (Err stop) is read = subst (λ due. IsFaultOf due stop) (sym (reading_same o doc is)) read
