use Rattle.std.proofs.Common.{◌≡◌, subst, List, rules}
use Rattle.predicates.specs.declared.placed.BoundExpr.{BoundExpr}
use Rattle.query_eval.specs.StoredSources.{AreStored}
use Rattle.query_eval.specs.Types.{FromItem}
use Rattle.query_eval.proofs.StoredSourceLaws.{stored-picked}
use Rattle.query_eval.proofs.picking.picked.Goals as goal

pub returns : goal.returns
returns c =
    let checked = c.args.checked.now in
    let store = c.args.store.now in
    let core = c.core_of.result.now in
    let conds = c.in_ok-conds.conds in
    let sources = c.in_ok-sources.sources in
    let from : c.items-from.result.now ≡ core.from = search rules in
    let first : c.items.result.now ≡ conds = search rules in
    let stored : AreStored store conds core.from 0 sources =
    subst (λ (items : List FromItem). AreStored store conds items 0 sources) from
    (subst (λ (cs : List BoundExpr). AreStored store cs c.items-from.result.now 0 sources) first c.in_ok-sources.ensures) in
    stored-picked checked c.args.core store c.args.keep conds sources c.in_ok-picks.picks core c.tell_formed.ensures c.core_of.ensures c.in_ok-conds.ensures stored c.in_ok-picks.ensures
