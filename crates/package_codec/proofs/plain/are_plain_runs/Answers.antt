use Rattle.std.proofs.Common.{sym, ◌∙◌}
use Rattle.package_codec.proofs.PlainRuns.{plain_events}
use Rattle.package_codec.proofs.plain.are_plain_runs.Goals as goal

pub returns : goal.returns
returns c = c.are_plain_firsts.ensures ∙ sym (plain_events c.args.runs.now c.requires)
