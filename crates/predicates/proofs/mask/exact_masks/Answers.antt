use Rattle.std.proofs.Common.{rules, ◌≡◌, ◌∙◌, ◌+◌, ◌∷◌, ◌++◌, ◌&&◌, [], List, drop, subst, sym, ap, true, arith}
use Rattle.std.specs.Prelude.{IfSome, Option}
use Rattle.std.specs.List.{AllByRecursion}
use Rattle.std.proofs.lemmas.List.{drop_all}
use Rattle.ldv_value.proofs.Places.{drop_item}
use Rattle.predicates.proofs.MaskLaws.{exact-more, exact-end, fit-more}
use Rattle.predicates.specs.Conditions.{meets}
use Rattle.predicates.specs.Masking.{IsFound, passes_at}
use Rattle.predicates.specs.Placing.{AreAllPlaced}
use Rattle.sql_model.specs.ColumnTests.{fits}
use Rattle.sql_model.specs.declared.column_test.ColumnTest.{ColumnTest}
use Rattle.predicates.specs.declared.placed.BoundExpr.{BoundExpr}
use Rattle.predicates.proofs.mask.exact_masks.Goals as goal

pub loop-cond-init : goal.loop-cond-init
loop-cond-init c = record {
  fit = subst (AllByRecursion (λ (mask : ColumnTest). fits c.args.columns.now mask ≡ true)) (sym c.new-masks.ensures.items) tt;
  same = λ scope row placed. (
    placed,
    ap (λ (masks : List ColumnTest). passes_at c.args.before masks row && meets scope c.args.conds.now row) c.new-masks.ensures.items,
  );
}

pub loop-cond-preserved : goal.loop-cond-preserved
loop-cond-preserved c =
    let conds = c.args.conds.now in
    let before = c.args.before in
    let i = c.loop-cond.cond-index in
    let cond : BoundExpr = c.cond-item.result in
    let mask : ColumnTest = c.in-Some.mask in
    let masks = c.loop-cond.masks.items in
    let split : drop i conds ≡ cond ∷ drop (i + 1) conds = drop_item conds i cond c.loop-cond-test.true c.cond-item.is in
    let pushed : c.push.new.self.items ≡ masks ++ mask ∷ [] = search rules in
    let found : IsFound cond before c.args.columns.now mask = subst (λ (o : Option ColumnTest). IfSome o (IsFound cond before c.args.columns.now)) c.in-Some.is c.in_ok-found.ensures in
    record {
      fit = subst (AllByRecursion (λ (m : ColumnTest). fits c.args.columns.now m ≡ true)) (sym pushed)
          (fit-more c.args.columns.now masks mask c.loop-cond.invariant.fit found.fits);
      same = λ scope row all.
          let left = c.loop-cond.invariant.same scope row all in
          let placed : AreAllPlaced scope (cond ∷ drop (i + 1) conds) = subst (AreAllPlaced scope) split left.0 in (
            placed.1,
            ap (λ (ms : List ColumnTest). passes_at before ms row && meets scope (drop (i + 1) conds) row) pushed
                ∙ exact-more scope before row masks mask cond (drop (i + 1) conds) (meets scope conds row) (found.is scope row placed.0)
                (ap (λ (cs : List BoundExpr). passes_at before masks row && meets scope cs row) (sym split) ∙ left.1),
          );
    }

pub returns : goal.returns
returns c =
    let conds = c.args.conds.now in
    let done : drop c.loop-cond.cond-index conds ≡ [] = drop_all c.loop-cond.cond-index conds (omega (arith, c.loop-cond-test.false)) in
    record {
      fit = c.loop-cond.invariant.fit;
      same = λ scope row placed.
          exact-end scope c.args.before row c.loop-cond.masks.items (drop c.loop-cond.cond-index conds) (meets scope conds row) done (c.loop-cond.invariant.same scope row placed).1;
    }
