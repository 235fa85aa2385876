use Rattle.std.proofs.Common.{◌≡◌, ℕ, List, Some, option_and_then, IfOk, IfErr, subst}
use Rattle.json_bytes.specs.Reading.{json_of}
use Rattle.world_json.specs.Reading.{world_reading, IsFaultOf}
use Rattle.world_json.specs.Shape.{document_of}
use Rattle.world_json.specs.declared.document.Document.{Document}
use Rattle.world_json.proofs.world.document_of_owned.Goals as goal

pub returns-clause-read : goal.returns-clause-read
returns-clause-read c =
    subst (λ (bytes : List ℕ). IfOk c.document_of_bytes.result (λ (document : Document). option_and_then document_of (json_of bytes) ≡ Some document)) c.as_slice.ensures c.document_of_bytes.ensures.read

pub returns-clause-fault : goal.returns-clause-fault
returns-clause-fault c = subst (λ (bytes : List ℕ). IfErr c.document_of_bytes.result (IsFaultOf (world_reading bytes))) c.as_slice.ensures c.document_of_bytes.ensures.fault
