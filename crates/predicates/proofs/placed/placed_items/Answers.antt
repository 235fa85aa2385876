use Rattle.std.proofs.Common.{◌≡◌, ◌+◌, ◌++◌, ◌∷◌, List, ℕ, drop, map, subst, ap, sym, ◌∙◌}
use Rattle.ldv_value.proofs.Places.{drop_item}
use Rattle.predicates.specs.Placing.{AreAllPlaced}
use Rattle.predicates.specs.Types.{Item}
use Rattle.predicates.specs.declared.placed.BoundExpr.{BoundExpr}
use Rattle.sql_model.specs.Refusals.{names_of_items}
use Rattle.sql_model.specs.Scope.{places_in}
use Rattle.predicates.proofs.Lists.{moved-mapped}
use Rattle.predicates.proofs.Places.{item-front, placed-front, others-front, placed-more}
use Rattle.predicates.proofs.placed.placed_items.Goals as goal

pub loop-item-preserved : goal.loop-item-preserved
loop-item-preserved c =
    let items = c.args.items.now in
    let i = c.loop-item.item-index in
    let item = c.item-item.result in
    let made = c.loop-item.made in
    let placed = c.in_ok-placed_at.field-0 in
    let at : List ℕ = drop c.loop-item.end c.args.places.now in
    let split : drop i items ≡ item ∷ drop (i + 1) items = drop_item items i item c.loop-item-test.true c.item-item.is in
    record {
      exprs =
          ap (λ (ps : List BoundExpr). map (λ p. p.expr) ps ++ map (λ item. item.expr) (drop (i + 1) items)) c.in_ok-push.ensures.ok
          ∙ moved-mapped (λ (p : BoundExpr). p.expr) (λ (x : Item). x.expr) made placed item (drop (i + 1) items) c.in_ok-placed_at.ensures.expr
          ∙ ap (λ (xs : List Item). map (λ p. p.expr) made ++ map (λ x. x.expr) xs) (sym split)
          ∙ c.loop-item.invariant.exprs;
      placed = λ scope more is.
          let before = c.loop-item.invariant.placed scope more is in
          let rest : List ℕ = places_in scope (names_of_items (drop (i + 1) items)) ++ more in
          let here = item-front scope (λ (x : Item). x.expr) items i item at more split before.0 in (
            others-front scope item.expr at rest (drop c.placed_at.new.at c.args.places.now) here c.in_ok-placed_at.ensures.others,
            subst (AreAllPlaced scope) (sym c.in_ok-push.ensures.ok)
                (placed-more scope made placed before.1
                (placed-front scope item.expr at rest placed here c.in_ok-placed_at.ensures.expr c.in_ok-placed_at.ensures.places)),
          );
    }
