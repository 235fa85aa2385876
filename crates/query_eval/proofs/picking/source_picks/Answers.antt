use Rattle.std.proofs.Common.{◌≡◌, ◌∙◌, ◌∷◌, [], ap, sym, subst, List}
use Rattle.std.proofs.lemmas.Result.{IfOk-weaker}
use Rattle.predicates.specs.Placing.{AreAllPlaced}
use Rattle.query_eval.proofs.SinglePicks.{alone-picks}
use Rattle.query_eval.specs.Picking.{row_picks, source_picks}
use Rattle.query_eval.specs.inner.Sources.{SourcesAreWide}
use Rattle.query_eval.specs.declared.source.Source.{Source}
use Rattle.sql_model.specs.Scope.{InScope}
use Rattle.query_eval.proofs.picking.source_picks.Goals as goal

pub returns-in-Ok : goal.returns-in-Ok
returns-in-Ok c =
    let conds = c.args.conds in
    let keep = c.args.keep in
    let source : Source = c.in-Ok.source in
    let only : c.args.sources ≡ source ∷ [] = c.in-Ok.ensures.one in
    IfOk-weaker c.picks_alone.result
    (λ picks. (scope : List InScope) → AreAllPlaced scope conds → picks ≡ row_picks scope conds keep source.table source.rows)
    (λ picks. (scope : List InScope) → AreAllPlaced scope conds → SourcesAreWide c.args.sources → picks ≡ source_picks scope conds keep c.args.sources)
    (λ picks is scope all wide.
    is scope all ∙ alone-picks scope conds keep source ∙ ap (source_picks scope conds keep) (sym only))
    c.picks_alone.ensures

pub returns-in-Err : goal.returns-in-Err
returns-in-Err c =
    let conds = c.args.conds in
    let keep = c.args.keep in
    let many : List Source = c.in-Err.many in
    let same : many ≡ c.args.sources = c.in-Err.ensures.many in
    IfOk-weaker c.joined_picks.result
    (λ picks. (scope : List InScope) → AreAllPlaced scope conds → SourcesAreWide many → picks ≡ source_picks scope conds keep many)
    (λ picks. (scope : List InScope) → AreAllPlaced scope conds → SourcesAreWide c.args.sources → picks ≡ source_picks scope conds keep c.args.sources)
    (λ picks is scope all wide.
    is scope all (subst SourcesAreWide (sym same) wide) ∙ ap (source_picks scope conds keep) same)
    c.joined_picks.ensures
