use Rattle.std.proofs.Common.{◌∙◌, ap, arith, ℕ, ◌<◌, length, get_or}
use Rattle.std.specs.BinaryHeap.{heap_items}
use Rattle.reach.specs.Types.{Edge}
use Rattle.reach.specs.Found.{Times}
use Rattle.reach.proofs.TimeLaws.{raised_length}
use Rattle.reach.proofs.WorkLaws.{look_more}
use Rattle.reach.proofs.search.Search.look_at_all.Goals as goal

pub loop-edge-preserved : goal.loop-edge-preserved
loop-edge-preserved c =
    let i : ℕ = c.loop-edge.edge-index in
    let none : Edge = record { source = 0; target = 0; first = 0; last = 0 } in
    let latest : Times = c.loop-edge.self.latest.items in
    let within : i < length c.args.edges.now = omega arith in
    let more = look_more c.args.self.now.latest.items (heap_items c.args.self.now.queue) c.args.edges.now c.args.time i none
    latest (heap_items c.loop-edge.self.queue) c.look_at.new.self.latest.items (heap_items c.look_at.new.self.queue)
    within c.loop-edge.invariant.latest c.loop-edge.invariant.queue c.in_ok-look_at.ensures.latest c.in_ok-look_at.ensures.queue in
    record {
      long = ap (λ (l : Times). length l) c.in_ok-look_at.ensures.latest ∙ raised_length latest (get_or c.args.edges.now i none) c.args.time
          ∙ c.loop-edge.invariant.long;
      latest = more.0;
      queue = more.1;
    }
