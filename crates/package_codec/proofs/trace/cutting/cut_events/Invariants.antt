use Rattle.std.proofs.Common.{◌≡◌, ◌≤◌, ◌-◌}
use Rattle.package_codec.specs.inner.Cutting.{begun_count}
use Rattle.package_codec.specs.Events.{event_at}
use Rattle.package_codec.specs.Fields.{items_at}
use Rattle.package_codec.proofs.Cuts.{with_cut, due}
use Rattle.package_codec.proofs.trace.cutting.cut_events.Given as goal

abbrev pub invariant-loop-turn : goal.invariant-loop-turn
invariant-loop-turn l = record {
  due : with_cut l.cut (items_at event_at (l.count - l._turn) l.cursor) ≡ due l.count l.fn.cursor;
  within : begun_count l.cut.begun ≤ l._turn;
}
