use Rattle.std.proofs.Common.{rules, ◌≡◌, ◌+◌, ◌∙◌, ap, sym, subst, ℕ, List}
use Rattle.query_eval.specs.inner.Joining.{ready_conditions, later_conditions, extensions_left, extensions_of_all, EachHas}
use Rattle.query_eval.specs.inner.Slots.{combinations_at}
use Rattle.predicates.specs.Placing.{AreAllPlaced}
use Rattle.query_eval.proofs.Levels.{ready_conditions-placed, later_conditions-placed, step-long, step-same}
use Rattle.query_eval.specs.declared.source.SourceRow.{SourceRow}
use Rattle.query_eval.proofs.joining.join_source.Goals as goal

pub returns-clause-rows : goal.returns-clause-rows
returns-clause-rows c = λ scope all others at long wide.
    let left = c.args.walk.left in
    let before : List (List SourceRow) = combinations_at c.args.sources.now c.args.walk.prefixes.rows in
    let rows = c.args.source.now.rows in
    let n = c.args.walk.width in
    let w = c.args.source.now.width in
    let next = c.width_with-next.result in
    let after : List (List SourceRow) = combinations_at c.args.sources.now c.in_ok-prefixes.prefixes.rows in
    let sum : next ≡ n + w = c.width_with-next.ensures.sum in
    let readied : c.in_ok-ready.field-0.ready ≡ ready_conditions next left = search rules in
    let latered : c.in_ok-ready.field-0.later ≡ later_conditions next left = search rules in
    let placed : AreAllPlaced scope c.in_ok-ready.field-0.ready = subst (AreAllPlaced scope) (sym readied) (ready_conditions-placed scope next left all) in
    let made : after ≡ extensions_of_all scope (ready_conditions (n + w) left) before rows =
    c.in_ok-prefixes.ensures.rows scope placed others at long
    ∙ (λ j. extensions_of_all scope (readied j) before rows)
    ∙ ap (λ (m : ℕ). extensions_of_all scope (ready_conditions m left) before rows) sum in (
      subst (AreAllPlaced scope) (sym latered) (later_conditions-placed scope next left all),
      subst (λ (m : ℕ). EachHas m after) (sym sum) (subst (EachHas (n + w)) (sym made) (step-long scope n w (ready_conditions (n + w) left) before rows long wide)),
      λ rest. (λ j. extensions_left scope ((latered ∙ ap (λ (m : ℕ). later_conditions m left) sum) j) (made j) rest) ∙ step-same scope n w left all before rows rest long wide,
    )
