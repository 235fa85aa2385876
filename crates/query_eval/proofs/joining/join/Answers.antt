use Rattle.std.proofs.Common.{◌≡◌, ◌+◌, ◌∷◌, [], ◌∙◌, ap, sym, subst, refl, List, ℕ, drop, map, arith}
use Rattle.std.specs.Prelude.{filter}
use Rattle.std.proofs.lemmas.List.{drop_all}
use Rattle.std.proofs.lemmas.Result.{IfOk-weaker}
use Rattle.ldv_value.proofs.Places.{drop_item}
use Rattle.lineage.specs.Flat.{SlotRows}
use Rattle.query_eval.specs.inner.Joining.{combos, tests, extensions_left, EachHas}
use Rattle.query_eval.specs.inner.Slots.{combinations_at}
use Rattle.predicates.specs.Placing.{AreAllPlaced}
use Rattle.query_eval.specs.inner.Sources.{source_rows, SourcesAreWide}
use Rattle.query_eval.specs.declared.source.Source.{Source}
use Rattle.query_eval.specs.declared.source.SourceRow.{SourceRow}
use Rattle.sql_model.specs.Scope.{InScope}
use Rattle.query_eval.proofs.Levels.{first-step, last-step}
use Rattle.query_eval.proofs.joining.join.Goals as goal

pub loop-source-init : goal.loop-source-init
loop-source-init c =
    let sources : List Source = c.args.sources.now in
    let walk = c.first_prefix-walk.result in
    let start = c.first_prefix-walk.ensures in
    let ps : List (List SourceRow) = combinations_at sources walk.prefixes.rows in
    let first : ps ≡ [] ∷ [] = ap (λ (r : SlotRows). combinations_at sources r.rows) start.prefixes in
    record {
      few = omega (arith, start.width);
      slots = ap (λ (r : SlotRows). r.width) start.prefixes;
      same = λ scope all wide. (
        subst (AreAllPlaced scope) (sym start.left) all,
        subst (λ (n : ℕ). EachHas n ps) (sym start.width) (subst (EachHas 0) (sym first) (refl, tt)),
        wide,
        (λ j. extensions_left scope (start.left j) (first j) (map source_rows sources)) ∙ first-step scope c.args.conds (map source_rows sources),
      );
    }

pub loop-source-preserved : goal.loop-source-preserved
loop-source-preserved c =
    let sources : List Source = c.args.sources.now in
    let i = c.loop-source.source-index in
    let source : Source = c.source-item.result in
    let walk = c.loop-source.walk in
    let split : drop i sources ≡ source ∷ drop (i + 1) sources = drop_item sources i source c.loop-source-test.true c.source-item.is in
    let next : drop walk.prefixes.width sources ≡ source ∷ drop (i + 1) sources = ap (λ (n : ℕ). drop n sources) c.loop-source.invariant.slots ∙ split in
    record {
      few = omega (arith, c.loop-source.invariant.few, c.in_ok-walk.ensures.width);
      slots = c.in_ok-walk.ensures.slots ∙ ap (λ (n : ℕ). n + 1) c.loop-source.invariant.slots;
      same = λ scope all wide.
          let before = c.loop-source.invariant.same scope all wide in
          let each : SourcesAreWide (source ∷ drop (i + 1) sources) = subst SourcesAreWide split before.2 in
          let one = c.in_ok-walk.ensures.rows scope before.0 (drop (i + 1) sources) next before.1 each.0 in (
            one.0,
            one.1,
            each.1,
            one.2 (map source_rows (drop (i + 1) sources))
                ∙ ap (λ (ss : List Source). extensions_left scope walk.left (combinations_at sources walk.prefixes.rows) (map source_rows ss)) (sym split) ∙ before.3,
          );
    }

pub returns : goal.returns
returns c =
    let sources : List Source = c.args.sources.now in
    let walk = c.loop-source.walk in
    let done : drop c.loop-source.source-index sources ≡ [] = drop_all c.loop-source.source-index sources (omega (arith, c.loop-source-test.false)) in
    IfOk-weaker c.last_rows.result
    (λ (rows : SlotRows). (scope : List InScope) → AreAllPlaced scope walk.left → combinations_at sources rows.rows ≡ filter (tests scope walk.left) (combinations_at sources walk.prefixes.rows))
    (λ (rows : SlotRows). (scope : List InScope) → AreAllPlaced scope c.args.conds → SourcesAreWide sources → combinations_at sources rows.rows ≡ filter (tests scope c.args.conds) (combos (map source_rows sources)))
    (λ rows is scope all wide.
    let inv = c.loop-source.invariant.same scope all wide in
    is scope inv.0
    ∙ sym (last-step scope walk.left (combinations_at sources walk.prefixes.rows))
    ∙ ap (λ (ss : List Source). extensions_left scope walk.left (combinations_at sources walk.prefixes.rows) (map source_rows ss)) (sym done)
    ∙ inv.3)
    c.last_rows.ensures
