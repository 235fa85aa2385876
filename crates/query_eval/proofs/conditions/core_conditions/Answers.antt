use Rattle.std.proofs.Common.{◌≡◌, ◌∙◌, ap, sym, subst, List}
use Rattle.std.proofs.lemmas.Result.{IfOk-weaker}
use Rattle.ldv_value.proofs.Options.{same-some}
use Rattle.predicates.specs.Conditions.{AreConditions}
use Rattle.predicates.proofs.CorePlaces.{core-places}
use Rattle.query_eval.specs.Types.{Core}
use Rattle.sql_model.specs.Refusals.{core_names}
use Rattle.sql_model.specs.Scope.{InScope, places_in, scope_of}
use Rattle.query_eval.proofs.conditions.core_conditions.Goals as goal

pub returns : goal.returns
returns c = IfOk-weaker c.conditions_of.result _ _ (λ conds made query catalog core whole got.
    let checked = c.args.checked.now in
    let own : Core = c.core_of.result.now in
    let same : own ≡ core = same-some own core (sym c.core_of.ensures ∙ got) in
    let scope : List InScope = scope_of core.from catalog in
    let places : c.column_indexes-places.result.now ≡ places_in scope (core_names own) =
    c.column_indexes-places.ensures ∙ core-places checked query catalog whole c.args.core core got ∙ ap (λ (k : Core). places_in scope (core_names k)) (sym same) in
    subst (λ (k : Core). AreConditions scope k.picks conds) same (made scope places)) c.conditions_of.ensures
