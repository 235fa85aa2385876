use Rattle.std.proofs.Common.{rules, ◌≡◌, ◌∙◌, ◌+◌, ◌<◌, ◌≤◌, ap, sym, subst, ℕ, List, Bool, map, length, arith}
use Rattle.std.specs.Prelude.{◌^◌}
use Rattle.table_store.specs.inner.Grid.{Rows}
use Rattle.table_store.specs.Histories.{RowHistory, changed_by}
use Rattle.table_store.specs.inner.Past.{past, end_in}
use Rattle.table_store.specs.inner.RowHistories.{Past, Ends, RowsHistory, past_of, ends_of, histories_of, AreKept}
use Rattle.table_store.specs.inner.RowChanges.{RowChange, rewrite, rewrite_given, changes_given, RiseFrom, AllFitKinds, AllStand, AreReady}
use Rattle.table_store.specs.declared.rows.logged.Logged.{Logged}
use Rattle.table_store.proofs.ChangeLaws.{all_have_slots, all_ready, rise_fits, same_rewrites}
use Rattle.table_store.proofs.rows.Rows.rewrite_all.Goals as goal

pub rewrites_of-requires : goal.rewrites_of-requires
rewrites_of-requires c =
    let a = c.self.inside in
    all_have_slots (past_of a) (ends_of a) a.grid.slots c.self.invariant c.args.self.now.slots (ap (λ (r : RowsHistory). r.slots) c.self.view_is) c.args.rows c.requires.stand

pub reserve-requires-clause-more : goal.reserve-requires-clause-more
reserve-requires-clause-more c =
    let a = c.self.inside in
    let given = c.in_ok-given.given.items in
    let same : map rewrite_given given ≡ map rewrite c.args.rows = same_rewrites given c.args.rows c.in_ok-given.ensures.rows in
    let apart : RiseFrom 0 (map rewrite_given given) = subst (λ (l : List RowChange). RiseFrom 0 l) (sym same) c.requires.apart in
    let fits : 0 + length given ≤ a.grid.next = rise_fits a.grid.next a.grid.slots c.tell_order.ensures.below 0 given (omega arith) apart c.in_ok-given.ensures.slots in
    let is : c.len-more.result ≡ length given = search rules in
    omega (arith, fits, is, c.tell_order.ensures.small)

pub rewrite_each-requires-clause-kept : goal.rewrite_each-requires-clause-kept
rewrite_each-requires-clause-kept c =
    let a = c.self.inside in
    subst (λ (l : List Logged). AreKept (λ k. past l k) (λ k. end_in c.reserve.new.self.ends k) a.grid.slots) (sym c.reserve.ensures.versions)
    (subst (λ (l : List ℕ). AreKept (past_of a) (λ k. end_in l k) a.grid.slots) (sym c.reserve.ensures.ends) c.self.invariant)

pub rewrite_each-requires-clause-apart : goal.rewrite_each-requires-clause-apart
rewrite_each-requires-clause-apart c =
    subst (λ (l : List RowChange). RiseFrom 0 l) (sym (same_rewrites c.in_ok-given.given.items c.args.rows c.in_ok-given.ensures.rows)) c.requires.apart

pub rewrite_each-requires-clause-ready : goal.rewrite_each-requires-clause-ready
rewrite_each-requires-clause-ready c =
    let a = c.self.inside in
    let given = c.in_ok-given.given.items in
    let stand = subst (λ (l : List RowChange). AllStand c.args.self.now.slots l) (sym (same_rewrites given c.args.rows c.in_ok-given.ensures.rows)) c.requires.stand in
    subst (λ (l : List Logged). AreReady (λ k. past l k) (λ k. end_in c.reserve.new.self.ends k) given) (sym c.reserve.ensures.versions)
    (subst (λ (l : List ℕ). AreReady (past_of a) (λ k. end_in l k) given) (sym c.reserve.ensures.ends)
    (all_ready (past_of a) (ends_of a) a.grid.slots c.self.invariant c.args.self.now.slots (ap (λ (r : RowsHistory). r.slots) c.self.view_is) c.args.time c.ranges.time.fits c.requires.before c.tell_order.ensures.rising given stand c.in_ok-given.ensures.slots))

pub rewrite_each-requires-clause-fits : goal.rewrite_each-requires-clause-fits
rewrite_each-requires-clause-fits c =
    let a = c.self.inside in
    subst (λ (l : List RowChange). AllFitKinds a.grid.kinds l) (sym (same_rewrites c.in_ok-given.given.items c.args.rows c.in_ok-given.ensures.rows))
    (subst (λ (k : List Bool). AllFitKinds k (map rewrite c.args.rows)) (sym (ap (λ (r : RowsHistory). r.kinds) c.self.view_is)) c.requires.fits)

pub rewrite_each-requires-clause-covered : goal.rewrite_each-requires-clause-covered
rewrite_each-requires-clause-covered c = omega (arith, c.in_ok-reserve.ensures.slots, c.len-slots.ensures.count)

pub rewrite_each-requires-clause-room : goal.rewrite_each-requires-clause-room
rewrite_each-requires-clause-room c =
    let is : c.len-more.result ≡ length c.in_ok-given.given.items = search rules in
    omega (arith, c.in_ok-reserve.ensures.room, is)

pub returns-clause-ok : goal.returns-clause-ok
returns-clause-ok c =
    let a = c.self.inside in
    let rows = map rewrite c.args.rows in
    let same = same_rewrites c.in_ok-given.given.items c.args.rows c.in_ok-given.ensures.rows in
    let slots : histories_of (λ k. past c.rewrite_each.new.log.versions k) (λ k. end_in c.rewrite_each.new.log.ends k) c.rewrite_each.new.grid.slots ≡ map (changed_by (changes_given c.args.time rows)) c.args.self.now.slots =
    c.rewrite_each.ensures.seen
    ∙ (λ j. map (changed_by (changes_given c.args.time (same j))) (histories_of (λ k. past (c.reserve.ensures.versions j) k) (λ k. end_in (c.reserve.ensures.ends j) k) a.grid.slots))
    ∙ ap (λ (r : RowsHistory). map (changed_by (changes_given c.args.time rows)) r.slots) c.self.view_is in
    λ j. record {
      slots = slots j;
      kinds = (c.rewrite_each.ensures.kinds ∙ ap (λ (r : RowsHistory). r.kinds) c.self.view_is) j;
      next = (c.rewrite_each.ensures.next ∙ ap (λ (r : RowsHistory). r.next) c.self.view_is) j;
    }
