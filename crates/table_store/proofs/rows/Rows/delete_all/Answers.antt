use Rattle.std.proofs.Common.{rules, ◌≡◌, ◌∙◌, ◌<◌, ◌≤◌, ap, sym, subst, ℕ, List, map, length, arith}
use Rattle.std.proofs.lemmas.List.{length-map}
use Rattle.table_store.specs.Histories.{changed_by}
use Rattle.table_store.specs.inner.Past.{past, end_in}
use Rattle.table_store.specs.inner.RowHistories.{Past, Ends, RowsHistory, past_of, ends_of, histories_of, AreKept}
use Rattle.table_store.specs.inner.RowChanges.{removal, changes_given, AllOpen}
use Rattle.table_store.specs.declared.rows.logged.Logged.{Logged}
use Rattle.table_store.proofs.ChangeLaws.{all_open}
use Rattle.table_store.proofs.rows.Rows.delete_all.Goals as goal

pub end_each-requires-clause-kept : goal.end_each-requires-clause-kept
end_each-requires-clause-kept c =
    let a = c.self.inside in
    let same : ends_of a ≡ (λ k. end_in c.reserve_ends.new.self.ends k) = λ j k. sym (c.reserve_ends.ensures.ends k) j in
    subst (λ (l : List Logged). AreKept (λ k. past l k) (λ k. end_in c.reserve_ends.new.self.ends k) a.grid.slots) (sym c.reserve_ends.ensures.versions)
    (subst (λ (e : Ends). AreKept (past_of a) e a.grid.slots) same c.self.invariant)

pub end_each-requires-clause-ready : goal.end_each-requires-clause-ready
end_each-requires-clause-ready c =
    let a = c.self.inside in
    let numbers = c.args.numbers.now in
    let same : ends_of a ≡ (λ k. end_in c.reserve_ends.new.self.ends k) = λ j k. sym (c.reserve_ends.ensures.ends k) j in
    subst (λ (l : List Logged). AllOpen (λ k. past l k) (λ k. end_in c.reserve_ends.new.self.ends k) a.grid.slots numbers) (sym c.reserve_ends.ensures.versions)
    (subst (λ (e : Ends). AllOpen (past_of a) e a.grid.slots numbers) same
    (all_open (past_of a) (ends_of a) a.grid.slots c.self.invariant c.args.self.now.slots (ap (λ (r : RowsHistory). r.slots) c.self.view_is) c.args.time c.ranges.time.fits c.requires.before numbers c.requires.stand))

pub end_each-requires-clause-later : goal.end_each-requires-clause-later
end_each-requires-clause-later c = λ some.
    let one = c.requires.stand 0 (omega (arith, some, length-map c.args.numbers.now removal)) in
    let early = c.requires.before one.0 one.1 in
    omega (arith, early.1)

pub end_each-requires-clause-covered : goal.end_each-requires-clause-covered
end_each-requires-clause-covered c = omega (arith, c.in_ok-reserve_ends.ensures.long, c.len-slots.ensures.count)

pub returns-clause-ok : goal.returns-clause-ok
returns-clause-ok c =
    let a = c.self.inside in
    let given = map removal c.args.numbers.now in
    let slots : histories_of (λ k. past c.end_each.new.log.versions k) (λ k. end_in c.end_each.new.log.ends k) c.end_each.new.grid.slots ≡ map (changed_by (changes_given c.args.time given)) c.args.self.now.slots =
    c.end_each.ensures.seen
    ∙ (λ j. map (changed_by (changes_given c.args.time given)) (histories_of (λ k. past (c.reserve_ends.ensures.versions j) k) (λ k. c.reserve_ends.ensures.ends k j) a.grid.slots))
    ∙ ap (λ (r : RowsHistory). map (changed_by (changes_given c.args.time given)) r.slots) c.self.view_is in
    λ j. record {
      slots = slots j;
      kinds = (c.end_each.ensures.kinds ∙ ap (λ (r : RowsHistory). r.kinds) c.self.view_is) j;
      next = (c.end_each.ensures.next ∙ ap (λ (r : RowsHistory). r.next) c.self.view_is) j;
    }
