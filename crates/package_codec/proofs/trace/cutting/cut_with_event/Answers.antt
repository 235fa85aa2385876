use Rattle.std.proofs.Common.{sym, ◌∙◌}
use Rattle.package_codec.proofs.Runs.{joins_later}
use Rattle.package_codec.proofs.trace.cutting.cut_with_event.Goals as goal

pub run_with_event-requires-clause-later : goal.run_with_event-requires-clause-later
run_with_event-requires-clause-later c = joins_later c.args.begun c.args.event (sym c.joins.ensures ∙ c.if-joins.true)
