use Rattle.std.proofs.Common.{◌<◌, ◌^◌, rules}
use Rattle.world_json.proofs.MadeParts.{document_made}
use Rattle.world_json.proofs.fast.document.document_of_parts.Goals as goal

pub returns : goal.returns
returns c = λ ms kept.
    let fits : c.number_or-seed.result < 2 ^ 64 = search rules in
    document_made ms c.args.parts c.in_ok-start.start c.number_or-seed.result c.in_ok-files.files c.list_or_empty-tables.result c.in_ok-start.ensures c.number_or-seed.ensures c.in_ok-files.ensures
    c.list_or_empty-tables.ensures fits kept
