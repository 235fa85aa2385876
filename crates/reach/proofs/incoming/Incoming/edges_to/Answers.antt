use Rattle.std.proofs.Common.{◌≤◌, ◌++◌, sym, ap, subst, arith, ℕ, List, length}
use Rattle.reach.specs.Types.{Edge}
use Rattle.reach.specs.inner.Search.{edges_into}
use Rattle.reach.specs.inner.Incoming.{IsChain}
use Rattle.reach.proofs.ChainLaws.{left_more, left_smaller, left_none}
use Rattle.reach.proofs.incoming.Incoming.edges_to.Goals as goal

pub loop-at-init : goal.loop-at-init
loop-at-init c =
    let edges : List Edge = c.args.edges.now in
    let nexts : List ℕ = c.args.self.now.nexts.items in
    let into : List Edge = edges_into edges c.args.place in
    record {
      low = 0;
      rest = into;
      chain = subst (λ (n : ℕ). IsChain edges nexts 0 n into) (sym c.first_at-at.ensures) (c.requires.chains c.args.place c.requires.place);
      total = ap (λ (l : List Edge). l ++ into) c.new-found.ensures.items;
    }

pub loop-at-smaller : goal.loop-at-smaller
loop-at-smaller c =
    left_smaller c.args.edges.now c.args.self.now.nexts.items c.loop-at.at c.next_at-after.result c.loop-at.found.items
    (edges_into c.args.edges.now c.args.place) c.loop-at.invariant c.loop-at-test.true c.next_at-after.ensures

pub loop-at-preserved : goal.loop-at-preserved
loop-at-preserved c =
    left_more c.args.edges.now c.args.self.now.nexts.items c.loop-at.at c.next_at-after.result c.edge_at-edge.result
    c.loop-at.found.items c.push.new.self.items (edges_into c.args.edges.now c.args.place)
    c.loop-at.invariant c.loop-at-test.true c.edge_at-edge.ensures c.in_ok-push.ensures.items c.next_at-after.ensures

pub returns : goal.returns
returns c =
    let past : length c.args.edges.now ≤ c.loop-at.at = omega (arith, c.loop-at-test.false) in
    left_none c.args.edges.now c.args.self.now.nexts.items c.loop-at.at c.loop-at.found.items
    (edges_into c.args.edges.now c.args.place) c.loop-at.invariant past
