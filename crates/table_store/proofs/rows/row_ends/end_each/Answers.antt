use Rattle.std.proofs.Common.{rules, ◌≡◌, ◌∙◌, ◌∷◌, [], ◌+◌, ◌<◌, ◌≤◌, ap, sym, subst, refl, ℕ, List, length, map, drop, get_or, arith}
use Rattle.std.proofs.lemmas.List.{drop_more, drop_all}
use Rattle.table_store.specs.Histories.{changed_by}
use Rattle.table_store.specs.inner.Past.{past, end_in}
use Rattle.table_store.specs.inner.RowHistories.{Past, Ends, histories_of}
use Rattle.table_store.specs.inner.RowChanges.{changes_given, removal, RiseFrom, AllOpen}
use Rattle.table_store.proofs.ChangeLaws.{changed_first, all_still_open, rise_lower, unchanged}
use Rattle.table_store.proofs.rows.row_ends.end_each.Goals as goal

pub end_row-requires-clause-later : goal.end_row-requires-clause-later
end_row-requires-clause-later c = c.requires.later (omega (arith, c.loop-number-test.true))

pub end_row-requires-clause-ready : goal.end_row-requires-clause-ready
end_row-requires-clause-ready c =
    let split = drop_more c.args.numbers.now c.loop-number.number-index 0 c.loop-number-test.true in
    (subst (λ (l : List ℕ). AllOpen (λ k. past c.loop-number.log.versions k) (λ k. end_in c.loop-number.log.ends k) c.loop-number.grid.slots l) split c.loop-number.invariant.ready).0

pub loop-number-preserved : goal.loop-number-preserved
loop-number-preserved c =
    let earlier : Past = λ k. past c.loop-number.log.versions k in
    let after : Past = λ k. past c.end_row.new.log.versions k in
    let ends : Ends = λ k. end_in c.loop-number.log.ends k in
    let left : Ends = λ k. end_in c.end_row.new.log.ends k in
    let old = c.loop-number.grid in
    let new = c.end_row.new.grid in
    let number : ℕ = get_or c.args.numbers.now c.loop-number.number-index 0 in
    let time = c.args.time in
    let rest = drop (c.loop-number.number-index + 1) c.args.numbers.now in
    let inv = c.loop-number.invariant in
    let row = c.end_row.ensures.row in
    let split : drop c.loop-number.number-index c.args.numbers.now ≡ number ∷ rest = drop_more c.args.numbers.now c.loop-number.number-index 0 c.loop-number-test.true in
    let apart : RiseFrom 0 (map removal (number ∷ rest)) = subst (λ (l : List ℕ). RiseFrom 0 (map removal l)) split inv.apart in
    let ready : AllOpen earlier ends old.slots (number ∷ rest) = subst (λ (l : List ℕ). AllOpen earlier ends old.slots l) split inv.ready in
    let next : number < number + 1 = omega arith in
    record {
      kept = row.kept;
      apart = rise_lower (number + 1) 0 (map removal rest) (omega arith) apart.1;
      ready = all_still_open time number earlier after ends left old new row (number + 1) rest next apart.1 ready.1;
      covered = omega (arith, row.count, inv.covered, c.end_row.ensures.covered);
      seen = ap (map (changed_by (changes_given time (map removal rest)))) row.seen
          ∙ sym (changed_first time 0 (removal number) (map removal rest) apart (histories_of earlier ends old.slots))
          ∙ ap (λ (l : List ℕ). map (changed_by (changes_given time (map removal l))) (histories_of earlier ends old.slots)) (sym split)
          ∙ inv.seen;
      kinds = row.kinds ∙ inv.kinds;
      next = row.next ∙ inv.next;
    }

pub returns-clause-seen : goal.returns-clause-seen
returns-clause-seen c =
    let earlier : Past = λ k. past c.loop-number.log.versions k in
    let ends : Ends = λ k. end_in c.loop-number.log.ends k in
    let none : drop c.loop-number.number-index c.args.numbers.now ≡ [] = drop_all c.loop-number.number-index c.args.numbers.now (search rules) in
    sym (unchanged c.args.time (histories_of earlier ends c.loop-number.grid.slots))
    ∙ ap (λ (l : List ℕ). map (changed_by (changes_given c.args.time (map removal l))) (histories_of earlier ends c.loop-number.grid.slots)) (sym none)
    ∙ c.loop-number.invariant.seen
