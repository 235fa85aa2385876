-- Traces: the definitions of `run_model`, and how far the events have come as the code counts it.
pub use Rattle.run_model.specs.ValidTrace.{Progress}
use Rattle.package_codec.specs.declared.trace.Progress.{Progress as Counted}
pub use Rattle.run_model.specs.ValidTrace.{act_rule, event_rule, made_after, is_asked, asked_after}
pub use Rattle.run_model.specs.ValidTrace.{progress_after}
pub use Rattle.run_model.specs.ValidTrace.{follows, at_start, starts_on, starts, trace_test, IsTrace}
pub use Rattle.run_model.specs.ValidTrace.{asked_among, asked_count}

abbrev pub progress_of : Counted → Progress
progress_of counted = record { made = counted.made; asked = counted.asked; step = counted.step }
