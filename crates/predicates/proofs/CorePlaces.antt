-- The places of the columns of a core, in a statement that was checked.
use Rattle.std.proofs.Common.{◌≡◌, ◌∙◌, sym, ap, ℕ, List, [], Option, Some}
use Rattle.std.specs.Prelude.{slice_get, unwrap_or}
use Rattle.sql_model.specs.Places.{core_places, order_places}
use Rattle.sql_model.specs.Refusals.{answer_columns, core_names, cores_of}
use Rattle.sql_model.specs.Scope.{places_in, scope_of}
use Rattle.predicates.specs.Checking.{core_at, places_at, IsChecked}
use Rattle.predicates.specs.Types.{Catalog, Checked, Core, Query, Statement, TheQuery}
use Rattle.predicates.proofs.Lists.{got-mapped}

module _ (checked : Checked) (query : Query) (catalog : Catalog) (is : IsChecked checked query catalog) where
  pub statement-is : checked.statement ≡ TheQuery query
  statement-is = ap (λ (c : Checked). c.statement) is

  pub core-places : (place : ℕ) (core : Core) → core_at checked place ≡ Some core → places_at checked place ≡ places_in (scope_of core.from catalog) (core_names core)
  core-places place core at =
      let got : slice_get query.cores place ≡ Some core = ap (λ (s : Statement). slice_get (cores_of s) place) (sym statement-is) ∙ at in
      ap (λ (c : Checked). places_at c place) is
      ∙ ap (λ (o : Option (List ℕ)). unwrap_or o []) (got-mapped (core_places catalog) query.cores (order_places (answer_columns catalog query.cores) query.order) place core got)
