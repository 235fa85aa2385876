use Rattle.std.proofs.Common.{◌≡◌, ◌∙◌, ap, sym, subst, List, map}
use Rattle.query_eval.specs.Picking.{pick_of, source_picks}
use Rattle.query_eval.specs.inner.Sources.{SourcesAreWide}
use Rattle.query_eval.specs.declared.source.Source.{Source}
use Rattle.query_eval.proofs.SlotLevels.{picks-same}
use Rattle.query_eval.proofs.picking.joined_picks.Goals as goal

pub returns : goal.returns
returns c = λ scope all wide.
    let held : c.items-held.result.now ≡ c.args.sources.now = c.items-held.ensures in
    let sources : List Source = c.items-held.result.now in
    subst (λ (ss : List Source). c.in_ok-picks.picks ≡ source_picks scope c.args.conds c.args.keep ss) held
    (c.in_ok-picks.ensures ∙ picks-same c.args.keep sources c.in_ok-rows.rows.rows
    ∙ ap (map (pick_of c.args.keep sources)) (c.in_ok-rows.ensures scope all (subst SourcesAreWide (sym held) wide)))
