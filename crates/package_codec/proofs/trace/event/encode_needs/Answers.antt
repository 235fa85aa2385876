use Rattle.std.proofs.lemmas.Result.{on_ok_weaker}
use Rattle.package_codec.proofs.Events.{needs_typed}
use Rattle.package_codec.proofs.trace.event.encode_needs.Goals as goal

pub returns-clause-typed : goal.returns-clause-typed
returns-clause-typed c = on_ok_weaker c.encode_grouped.result (needs_typed c.args.needs.now) c.encode_grouped.ensures.typed
