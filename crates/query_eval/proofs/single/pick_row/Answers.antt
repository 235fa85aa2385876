use Rattle.std.proofs.Common.{◌≡◌, ◌∙◌, ap, sym, ◌++◌, ◌∷◌, []}
use Rattle.predicates.specs.Conditions.{meets}
use Rattle.lineage.specs.declared.answer.Pick.{Pick}
use Rattle.query_eval.proofs.SinglePicks.{mapped-kept, mapped-left}
use Rattle.query_eval.proofs.SlotLevels.{met_by}
use Rattle.query_eval.specs.Picking.{meets_row, row_pick}
use Rattle.query_eval.proofs.single.pick_row.Goals as goal

pub returns-in_ok-push : goal.returns-in_ok-push
returns-in_ok-push c = λ scope all rest.
    let conds = c.args.conds.now in
    let met : c.meets_all.result ≡ meets scope conds c.args.row.values = c.meets_all.ensures ∙ met_by scope conds all c.args.row.values in
    mapped-kept (row_pick c.args.keep c.args.table) (meets_row scope conds) c.args.picks.now c.push.new.self c.args.row (sym met ∙ c.if-meets_all.true)
    (c.in_ok-push.ensures.ok ∙ ap (λ (pick : Pick). c.args.picks.now ++ pick ∷ []) c.in_ok-row_pick.ensures) rest

pub returns-else-meets_all : goal.returns-else-meets_all
returns-else-meets_all c = λ scope all rest.
    let conds = c.args.conds.now in
    let met : c.meets_all.result ≡ meets scope conds c.args.row.values = c.meets_all.ensures ∙ met_by scope conds all c.args.row.values in
    mapped-left (row_pick c.args.keep c.args.table) (meets_row scope conds) c.args.picks.now c.args.row (sym met ∙ c.if-meets_all.false) rest
