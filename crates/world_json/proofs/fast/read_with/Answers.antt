use Rattle.std.proofs.Common.{◌∙◌, sym, ap, option_and_then, List}
use Rattle.json.specs.Token.{Token}
use Rattle.world_json.specs.Shape.{document_of}
use Rattle.world_json.specs.inner.Taking.{data_of}
use Rattle.world_json.proofs.fast.read_with.Goals as goal

pub returns-clause-read : goal.returns-clause-read
returns-clause-read c = ap (λ (ts : List Token). option_and_then document_of (data_of ts)) (sym c.in-Ok.ensures.ok) ∙ c.in_ok-document.ensures.read
