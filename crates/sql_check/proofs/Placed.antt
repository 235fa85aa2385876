-- The places of the parts of a statement.
use Rattle.std.proofs.Common.{◌≡◌, List, ◌++◌, ap, append_assoc}
use Rattle.std.specs.Prelude.{map, Some, option_to_list}
use Rattle.std.specs.List.{flat_map}
use Rattle.std.proofs.lemmas.List.{append-nil}
use Rattle.sql_model.specs.declared.expr.Expr.{Expr}
use Rattle.sql_model.specs.declared.statement.Core.{Core}
use Rattle.sql_model.specs.declared.statement.Update.{Update}
use Rattle.sql_model.specs.Kinds.{names_in}
use Rattle.sql_model.specs.Refusals.{items_of, names_of_items, core_names, update_names}
use Rattle.sql_model.specs.Scope.{InScope, place_of, places_in}
use Rattle.std.proofs.lemmas.List.{map-append}

module _ {X Y : Type 0} (f : X → Y) where
  map_four : (as_ bs cs ds : List X) → map f (as_ ++ (bs ++ (cs ++ ds))) ≡ ((map f as_ ++ map f bs) ++ map f cs) ++ map f ds
  map_four as_ bs cs ds = simp (map-append, append_assoc)

module _ (scope : List InScope) where
  pub core_parts : (core : Core) → places_in scope (core_names core) ≡ ((places_in scope (names_of_items (items_of core)) ++ places_in scope (flat_map names_in core.picks)) ++ places_in scope core.group) ++ places_in scope (flat_map names_in (option_to_list core.having))
  core_parts core = map_four (place_of scope) (names_of_items (items_of core)) (flat_map names_in core.picks) core.group (flat_map names_in (option_to_list core.having))

  pub update_parts : (update : Update) → places_in scope (update_names update) ≡ places_in scope (flat_map (λ set. names_in set.expr) update.sets) ++ places_in scope (flat_map names_in (option_to_list update.pick))
  update_parts update = map-append (place_of scope) (flat_map (λ set. names_in set.expr) update.sets) (flat_map names_in (option_to_list update.pick))

  pub optional_places : (e : Expr) → places_in scope (flat_map names_in (option_to_list (Some e))) ≡ places_in scope (names_in e)
  optional_places e = ap (places_in scope) (append-nil (names_in e))
