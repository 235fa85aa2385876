use Rattle.std.proofs.Common.{◌≡◌, ◌∙◌, ◌+◌, ◌-◌, ◌<◌, ◌≤◌, sym, ap, subst, arith, ℕ, List, length, set}
use Rattle.std.specs.Prelude.{replicate}
use Rattle.std.proofs.lemmas.List.{length-set, length-replicate}
use Rattle.reach.specs.Types.{Edge}
use Rattle.reach.specs.inner.Incoming.{value_at, AreChains}
use Rattle.reach.proofs.ChainLaws.{target_within, none_chained, more_chained}
use Rattle.reach.proofs.incoming.incoming_edges.Goals as goal

pub loop-at-init : goal.loop-at-init
loop-at-init c =
    let edges : List Edge = c.args.edges.now in
    let firsts : List ℕ = c.in_ok-firsts.firsts.items in
    let nexts : List ℕ = c.in_ok-nexts.nexts.items in
    let firsts_are : firsts ≡ replicate c.args.count (length edges) = c.in_ok-firsts.ensures in
    let nexts_are : nexts ≡ replicate (length edges) (length edges) = c.in_ok-nexts.ensures in
    record {
      within = omega arith;
      firsts = ap (λ (l : List ℕ). length l) firsts_are ∙ length-replicate c.args.count (length edges);
      nexts = ap (λ (l : List ℕ). length l) nexts_are ∙ length-replicate (length edges) (length edges);
      chains = none_chained c.args.count edges firsts nexts firsts_are;
    }

pub link_edge-requires-clause-target : goal.link_edge-requires-clause-target
link_edge-requires-clause-target c =
    let edges : List Edge = c.args.edges.now in
    let some : 0 < c.loop-at.at = c.loop-at-test.true in
    let end : c.loop-at.at ≤ length edges = c.loop-at.invariant.within in
    let within : c.loop-at.at - 1 < length edges = omega (arith, some, end) in
    let long : length c.loop-at.firsts.items ≡ c.args.count = c.loop-at.invariant.firsts in
    let low : c.edge_at-edge.result.target < c.args.count =
    target_within c.args.count edges (c.loop-at.at - 1) c.edge_at-edge.result c.requires within c.edge_at-edge.ensures in
    omega (arith, low, long)

pub loop-at-preserved : goal.loop-at-preserved
loop-at-preserved c =
    let edges : List Edge = c.args.edges.now in
    let i : ℕ = c.loop-at.at - 1 in
    let e : Edge = c.edge_at-edge.result in
    let firsts : List ℕ = c.loop-at.firsts.items in
    let nexts : List ℕ = c.loop-at.nexts.items in
    let some : 0 < c.loop-at.at = c.loop-at-test.true in
    let end : c.loop-at.at ≤ length edges = c.loop-at.invariant.within in
    let within : i < length edges = omega (arith, some, end) in
    let one : c.loop-at.at ≡ i + 1 = omega (arith, some) in
    let places : length firsts ≡ c.args.count = c.loop-at.invariant.firsts in
    let low : e.target < c.args.count = target_within c.args.count edges i e c.requires within c.edge_at-edge.ensures in
    let to : e.target < length firsts = omega (arith, low, places) in
    let before : AreChains edges nexts (i + 1) firsts = subst (λ (n : ℕ). AreChains edges nexts n firsts) one c.loop-at.invariant.chains in
    let chains : AreChains edges (set nexts i (value_at firsts e.target)) i (set firsts e.target i) =
    more_chained edges nexts firsts i e within c.edge_at-edge.ensures c.loop-at.invariant.nexts to before in
    record {
      within = omega (arith, within);
      firsts = ap (λ (l : List ℕ). length l) c.link_edge.ensures.firsts ∙ length-set firsts e.target i ∙ places;
      nexts = ap (λ (l : List ℕ). length l) c.link_edge.ensures.nexts ∙ length-set nexts i (value_at firsts e.target) ∙ c.loop-at.invariant.nexts;
      chains = subst (λ (l : List ℕ). AreChains edges l i c.link_edge.new.firsts.items) (sym c.link_edge.ensures.nexts)
          (subst (λ (l : List ℕ). AreChains edges (set nexts i (value_at firsts e.target)) i l) (sym c.link_edge.ensures.firsts) chains);
    }

pub returns-clause-chains : goal.returns-clause-chains
returns-clause-chains c =
    let end : c.loop-at.at ≡ 0 = omega (arith, c.loop-at-test.false) in
    subst (λ (n : ℕ). AreChains c.args.edges.now c.loop-at.nexts.items n c.loop-at.firsts.items) end c.loop-at.invariant.chains
