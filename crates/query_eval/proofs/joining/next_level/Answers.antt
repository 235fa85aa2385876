use Rattle.std.proofs.Common.{rules, ◌≡◌, ◌∙◌, subst, ap, List, ℕ, map}
use Rattle.predicates.specs.Placing.{AreAllPlaced}
use Rattle.query_eval.proofs.Levels.{others-placed, tied-level}
use Rattle.query_eval.proofs.SlotLevels.{level-same}
use Rattle.query_eval.specs.declared.source.Source.{Source}
use Rattle.query_eval.specs.declared.source.SourceRow.{SourceRow}
use Rattle.query_eval.specs.inner.Slots.{combinations_at, extended_by_ties, row_at, slots_meet}
use Rattle.query_eval.proofs.joining.next_level.Goals as goal

pub returns-clause-rows : goal.returns-clause-rows
returns-clause-rows c = λ scope all others next long.
    let conds = c.args.conds in
    let n = c.args.width in
    let sources : List Source = c.args.sources.now in
    let source : Source = c.args.source.now in
    let ps : List (List ℕ) = c.args.prefixes.now.rows in
    let tied = c.in_ok-tied.tied in
    let rest : c.items-others.result.now ≡ tied.others = search rules in
    let ties : c.as_slice-ties.result.now ≡ tied.ties.items = search rules in
    let rows : c.items-rows.result.now ≡ source.rows = search rules in
    let slots : c.as_slice-all.result.now ≡ c.in_ok-slots.slots.items = search rules in
    let are : map (row_at source.rows) c.in_ok-slots.slots.items ≡ source.rows =
    subst (λ (rs : List SourceRow). map (row_at rs) c.in_ok-slots.slots.items ≡ rs) rows c.in_ok-slots.ensures in
    let placed : AreAllPlaced scope tied.others = others-placed scope conds all n tied.ties.items tied.others c.in_ok-tied.ensures in
    ap (combinations_at sources) (c.in_ok-made.ensures.rows
    ∙ (λ j. extended_by_ties (slots_meet (rest j) sources) sources (ties j) (rows j) (slots j) ps))
    ∙ level-same scope tied.others placed sources source others c.in_ok-slots.slots.items are tied.ties.items c.args.prefixes.now.width next ps c.tell_width.ensures
    ∙ tied-level scope conds all n tied.ties.items tied.others c.in_ok-tied.ensures (combinations_at sources ps) source.rows long
