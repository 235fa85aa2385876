use Rattle.std.proofs.Common.{List, sym, subst}
use Rattle.std.specs.List.{list_any}
use Rattle.std.specs.BTreeMap.{is_at}
use Rattle.std.specs.BTreeSet.{contains}
use Rattle.std.specs.Ordering.{eq_by_cmp}
use Rattle.sql_model.specs.Keys.{repeats}
use Rattle.sql_model.proofs.Seen.{IsRest, none_seen, one_more, seen_false}
use Rattle.sql_model.proofs.repeats.has_twice.Goals as goal

pub loop-key-init : goal.loop-key-init
loop-key-init g c =
    let same = eq_by_cmp g.K.Ord.cmp in
    let all = repeats same c.args.keys.items in
    subst (λ (rest : List g.row.K.Denot). IsRest same all (contains g.K.Ord.cmp c.new-seen.result) rest) (sym c.into_iter-key-iterator.ensures.into_iter_gives.0)
    (subst (λ (keys : List g.row.K.Denot). IsRest same all (λ q. list_any (is_at (g.K.Ord.cmp q)) keys) c.args.keys.items) (sym c.new-seen.ensures.empty) (none_seen same c.args.keys.items))

pub loop-key-preserved : goal.loop-key-preserved
loop-key-preserved g c =
    let same = eq_by_cmp g.K.Ord.cmp in
    let all = repeats same c.args.keys.items in
    let so_far = subst (λ (rest : List g.row.K.Denot). IsRest same all (contains g.K.Ord.cmp c.loop-key.seen) rest) c.in-Some.ensures.steps.0 c.loop-key.invariant in
    one_more same all (contains g.K.Ord.cmp c.loop-key.seen) (contains g.K.Ord.cmp c.insert.new.self) c.in-Some.key c.next.new.self.rest.items so_far
    (seen_false _ _ c.if-not-added.false c.in_ok-added.ensures.added)
    c.in_ok-added.ensures.updates.0
