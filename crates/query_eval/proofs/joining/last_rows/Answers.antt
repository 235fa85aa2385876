use Rattle.std.proofs.Common.{rules, ◌≡◌, ◌==◌, ◌∙◌, ap, sym, length, List, true}
use Rattle.std.specs.Prelude.{filter}
use Rattle.predicates.specs.declared.placed.BoundExpr.{BoundExpr}
use Rattle.query_eval.proofs.Levels.{no-conditions}
use Rattle.query_eval.proofs.SlotLevels.{kept-same}
use Rattle.query_eval.specs.inner.Slots.{combinations_at, slots_meet}
use Rattle.predicates.proofs.Lists.{none-counted}
use Rattle.query_eval.proofs.joining.last_rows.Goals as goal

pub returns-then-is_empty : goal.returns-then-is_empty
returns-then-is_empty c = λ scope all.
    let none : (length c.args.walk.left == 0) ≡ true = sym c.is_empty.ensures ∙ c.if-is_empty.true in
    no-conditions scope c.args.walk.left (none-counted c.args.walk.left none) (combinations_at c.args.sources.now c.args.walk.prefixes.rows)

pub returns : goal.returns
returns c = λ scope all.
    let held : c.items.result.now ≡ c.args.walk.left = search rules in
    ap (combinations_at c.args.sources.now) (c.in_ok-rows.ensures ∙ ap (λ (cs : List BoundExpr). filter (slots_meet cs c.args.sources.now) c.args.walk.prefixes.rows) held)
    ∙ kept-same scope c.args.walk.left all c.args.sources.now c.args.walk.prefixes.rows
