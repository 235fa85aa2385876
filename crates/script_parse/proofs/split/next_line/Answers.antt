use Rattle.std.proofs.Common.{◌∙◌, sym}
use Rattle.script_parse.proofs.Cut.{cut_line}
use Rattle.script_parse.proofs.split.next_line.Goals as goal

pub returns-in-Some-clause-cut : goal.returns-in-Some-clause-cut
returns-in-Some-clause-cut c =
    cut_line c.args.bytes.now c.in-Some.end c.without_return.result.now (sym c.first_feed.ensures ∙ c.in-Some.is) c.without_return.ensures
