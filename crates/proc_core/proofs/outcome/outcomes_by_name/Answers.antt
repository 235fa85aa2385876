use Rattle.std.proofs.Common.{◌∙◌, ap}
use Rattle.sql_model.specs.Sorting.{sorted_by}
use Rattle.proc_core.specs.inner.SlotOutcome.{name_cmp}
use Rattle.proc_core.proofs.outcome.outcomes_by_name.Goals as goal

pub returns : goal.returns
returns c = c.in_ok-sorted.ensures ∙ ap (sorted_by name_cmp) c.in_ok-outcomes.ensures
