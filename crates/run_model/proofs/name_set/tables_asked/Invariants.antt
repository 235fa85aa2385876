use Rattle.std.proofs.Common.{◌≡◌, ◌||◌, List, ℕ, drop}
use Rattle.run_model.specs.Slice.{is_table_needed}
use Rattle.run_model.specs.Packing.{has_name}
use Rattle.run_model.proofs.name_set.tables_asked.Given as goal

abbrev pub invariant-loop-event : goal.invariant-loop-event
invariant-loop-event l = (q : List ℕ) → (has_name l.names q || is_table_needed (drop l.event-index l.events) q) ≡ is_table_needed l.events q
