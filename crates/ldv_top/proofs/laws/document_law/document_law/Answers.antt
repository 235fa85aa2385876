use Rattle.ldv_top.proofs.DocumentLaws as documents
use Rattle.ldv_top.proofs.laws.document_law.document_law.Goals as goal

pub returns : goal.returns
returns c = documents.document_law c.prov_law.ensures.traces
