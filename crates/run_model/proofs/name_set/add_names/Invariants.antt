use Rattle.std.proofs.Common.{◌≡◌, ◌||◌, List, ℕ, drop}
use Rattle.std.specs.List.{list_any}
use Rattle.sql_model.specs.Scope.{same_text}
use Rattle.run_model.specs.Packing.{has_name}
use Rattle.run_model.proofs.name_set.add_names.Given as goal

abbrev pub invariant-loop-name : goal.invariant-loop-name
invariant-loop-name l = (q : List ℕ) → (has_name l.names q || list_any (λ name. same_text name q) (drop l.name-index l.more)) ≡ (has_name l.fn.names q || list_any (λ name. same_text name q) l.more)
