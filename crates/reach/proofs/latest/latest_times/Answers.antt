use Rattle.std.proofs.Common.{◌∙◌, sym, ℕ, List}
use Rattle.std.specs.BinaryHeap.{heap_items}
use Rattle.reach.specs.Types.{Edge}
use Rattle.reach.specs.Found.{Times}
use Rattle.reach.specs.inner.Search.{Queue}
use Rattle.reach.proofs.TurnLaws.{turn_from, turn_long, turn_within, turn_smaller, turn_stands, begin_long, begin_within, begin_stands}
use Rattle.reach.proofs.latest.latest_times.Goals as goal

pub loop-by-init : goal.loop-by-init
loop-by-init c =
    let edges : List Edge = c.args.edges.now in
    let latest : Times = c.in_ok-search.search.latest.items in
    let queue : Queue = heap_items c.in_ok-search.search.queue in
    let made = c.in_ok-search.ensures.latest in
    let queued = c.in_ok-search.ensures.queue in
    record {
      long = begin_long edges c.args.node c.args.time c.args.count latest queue c.requires.node made queued;
      within = begin_within edges c.args.node c.args.time c.args.count latest queue c.requires.node made queued;
      stands = begin_stands edges c.args.node c.args.time c.args.count latest queue c.requires.node made queued;
    }

pub visit-requires-clause-firsts : goal.visit-requires-clause-firsts
visit-requires-clause-firsts c = c.in_ok-incoming.ensures.firsts ∙ sym c.loop-by.invariant.long

pub visit-requires-clause-sources : goal.visit-requires-clause-sources
visit-requires-clause-sources c =
    let entry : ℕ × ℕ = (c.in-Some.by, c.in-Some.place) in
    turn_from c.args.count c.args.edges.now c.requires.between c.loop-by.search.latest.items (heap_items c.loop-by.search.queue)
    (heap_items c.pop.new.self) entry c.in-Some.ensures.permutation c.loop-by.invariant.long c.loop-by.invariant.within

pub loop-by-smaller : goal.loop-by-smaller
loop-by-smaller c =
    let entry : ℕ × ℕ = (c.in-Some.by, c.in-Some.place) in
    turn_smaller c.args.count c.args.edges.now c.requires.between c.loop-by.search.latest.items (heap_items c.loop-by.search.queue)
    (heap_items c.pop.new.self) entry c.in-Some.ensures.permutation c.loop-by.invariant.long c.loop-by.invariant.within
    c.visit.new.self.latest.items (heap_items c.visit.new.self.queue) c.in_ok-visit.ensures.latest c.in_ok-visit.ensures.queue
    c.args.node c.args.time c.ranges.time.fits c.loop-by.invariant.stands

pub loop-by-preserved : goal.loop-by-preserved
loop-by-preserved c =
    let edges : List Edge = c.args.edges.now in
    let entry : ℕ × ℕ = (c.in-Some.by, c.in-Some.place) in
    let before : Times = c.loop-by.search.latest.items in
    let queue : Queue = heap_items c.loop-by.search.queue in
    let left : Queue = heap_items c.pop.new.self in
    let next : Times = c.visit.new.self.latest.items in
    let after : Queue = heap_items c.visit.new.self.queue in
    let out = c.in-Some.ensures.permutation in
    let next_is = c.in_ok-visit.ensures.latest in
    let after_is = c.in_ok-visit.ensures.queue in
    record {
      long = turn_long c.args.count edges c.requires.between before queue left entry out c.loop-by.invariant.long c.loop-by.invariant.within
          next after next_is after_is;
      within = turn_within c.args.count edges c.requires.between before queue left entry out c.loop-by.invariant.long c.loop-by.invariant.within
          next after next_is after_is;
      stands = turn_stands c.args.count edges c.requires.between before queue left entry out c.loop-by.invariant.long c.loop-by.invariant.within
          next after next_is after_is c.args.node c.args.time c.loop-by.invariant.stands;
    }
