use Rattle.std.proofs.Common.{◌≡◌, Some, List, subst, arith}
use Rattle.json.specs.Token.{Token}
use Rattle.world_json.specs.Shape.{document_of}
use Rattle.world_json.specs.inner.Taking.{value_taken}
use Rattle.world_json.proofs.Taken.{all_taken}
use Rattle.world_json.proofs.fast.read_tokens.Goals as goal

pub returns-in-None-clause-read : goal.returns-in-None-clause-read
returns-in-None-clause-read c =
    let ts = c.args.reader.now in
    let x = c.in_ok-document.document in
    all_taken document_of ts x (subst (λ (r : List Token). value_taken document_of 127 ts ≡ Some (x, r)) c.in-None.ensures.value.0 (c.in_ok-document.ensures.taken 127 (omega arith)))
