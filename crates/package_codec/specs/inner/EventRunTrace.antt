-- The rules for traces over runs: the first and the last event of a run show whether all of its events meet
-- them.
use Rattle.std.specs.Prelude.{ℕ, ◌+◌, Bool, true, ◌&&◌, nat_le, if◌then◌else◌}
use Rattle.ldv_value.specs.Limits.{max_processes}
use Rattle.run_model.specs.declared.event.Act.{Act}
use Rattle.run_model.specs.Acts.{is_spawn}
use Rattle.package_codec.specs.declared.trace.event_run.EventRun.{EventRun}
use Rattle.package_codec.specs.Runs.{last_step}
use Rattle.package_codec.specs.inner.Trace.{Progress, event_rule, is_asked, asked_after}

-- the same act, a number of times, makes no more than max_processes
abbrev pub spawns_fit : ℕ → Act → ℕ → Bool
spawns_fit made act times = if is_spawn act then nat_le (made + times) max_processes else true

abbrev pub made_by : Act → ℕ → ℕ
made_by act times = if is_spawn act then times else 0

abbrev pub run_rule : ℕ → Progress → EventRun → Bool
run_rule steps before r =
    event_rule steps before r.first && nat_le (last_step r) steps
    && spawns_fit before.made r.first.act r.count

abbrev pub progress_by : Progress → EventRun → Progress
progress_by before r = record {
  made = before.made + made_by r.first.act r.count;
  asked = asked_after before.asked (is_asked r.first.act);
  step = last_step r;
}
