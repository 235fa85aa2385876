use Rattle.std.proofs.Common.{rules, ◌≡◌, ◌∙◌, ◌∷◌, [], ◌+◌, ◌<◌, ◌≤◌, ap, sym, subst, refl, ℕ, List, Bool, length, map, arith}
use Rattle.table_store.specs.Histories.{changed_by}
use Rattle.table_store.specs.inner.Past.{past, end_in}
use Rattle.table_store.specs.inner.RowHistories.{Past, Ends, AreKept, histories_of}
use Rattle.table_store.specs.inner.RowChanges.{RowChange, changes_given, rewrite_given, RiseFrom, AllFitKinds, AreInSlots, AreReady}
use Rattle.table_store.specs.declared.rows.rewrites.RowRewrite.{RowRewrite}
use Rattle.table_store.proofs.ChangeLaws.{changed_first, still_in_slots, still_ready, rise_lower, unchanged, nil_from}
use Rattle.table_store.proofs.rows.rewrites.rewrite_each.Goals as goal

pub loop-one-init : goal.loop-one-init
loop-one-init c =
    let rest = c.into_iter-one-iterator.result.rest.items in
    let same : rest ≡ c.args.given.items = search rules in
    let earlier : Past = λ k. past c.args.log.now.versions k in
    let ends : Ends = λ k. end_in c.args.log.now.ends k in
    record {
      kept = c.requires.kept;
      slots = subst (λ (l : List RowRewrite). AreInSlots c.args.grid.now.slots l) (sym same) c.requires.slots;
      apart = subst (λ (l : List RowRewrite). RiseFrom 0 (map rewrite_given l)) (sym same) c.requires.apart;
      ready = subst (λ (l : List RowRewrite). AreReady earlier ends l) (sym same) c.requires.ready;
      fits = subst (λ (l : List RowRewrite). AllFitKinds c.args.grid.now.kinds (map rewrite_given l)) (sym same) c.requires.fits;
      covered = c.requires.covered;
      room = subst (λ (l : List RowRewrite). length l ≤ c.args.log.now.spare) (sym same) c.requires.room;
      seen = ap (λ (l : List RowRewrite). map (changed_by (changes_given c.args.time (map rewrite_given l))) (histories_of earlier ends c.args.grid.now.slots)) same;
      kinds = refl;
      next = refl;
    }

pub loop-one-preserved : goal.loop-one-preserved
loop-one-preserved c =
    let earlier : Past = λ k. past c.loop-one.log.versions k in
    let after : Past = λ k. past c.rewrite_row.new.log.versions k in
    let ends : Ends = λ k. end_in c.loop-one.log.ends k in
    let left : Ends = λ k. end_in c.rewrite_row.new.log.ends k in
    let old = c.loop-one.grid in
    let new = c.rewrite_row.new.grid in
    let one : RowRewrite = c.in-Some.one in
    let time = c.args.time in
    let rest = c.next.new.self.rest.items in
    let inv = c.loop-one.invariant in
    let row = c.rewrite_row.ensures.row in
    let same : ends ≡ left = ap (λ (l : List ℕ). λ (k : ℕ). end_in l k) (sym c.rewrite_row.ensures.ends) in
    let split : c.loop-one.one-iterator.rest.items ≡ one ∷ rest = search rules in
    let apart : RiseFrom 0 (map rewrite_given (one ∷ rest)) = subst (λ (l : List RowRewrite). RiseFrom 0 (map rewrite_given l)) split inv.apart in
    let slots : AreInSlots old.slots (one ∷ rest) = subst (λ (l : List RowRewrite). AreInSlots old.slots l) split inv.slots in
    let ready : AreReady earlier ends (one ∷ rest) = subst (λ (l : List RowRewrite). AreReady earlier ends l) split inv.ready in
    let fits : AllFitKinds old.kinds (map rewrite_given (one ∷ rest)) = subst (λ (l : List RowRewrite). AllFitKinds old.kinds (map rewrite_given l)) split inv.fits in
    let room : length (one ∷ rest) ≤ c.loop-one.log.spare = subst (λ (l : List RowRewrite). length l ≤ c.loop-one.log.spare) split inv.room in
    let next : one.number < one.number + 1 = omega arith in
    record {
      kept = subst (λ (e : Ends). AreKept after e new.slots) same row.kept;
      slots = still_in_slots time one earlier after ends old new row (one.number + 1) rest next apart.1 slots.1;
      apart = rise_lower (one.number + 1) 0 (map rewrite_given rest) (omega arith) apart.1;
      ready = subst (λ (e : Ends). AreReady after e rest) same (still_ready time one earlier after ends old new row (one.number + 1) rest next apart.1 slots.1 ready.1);
      fits = subst (λ (k : List Bool). AllFitKinds k (map rewrite_given rest)) (sym row.kinds) fits.1;
      covered = omega (arith, row.count, inv.covered, c.rewrite_row.ensures.slots);
      room = omega (arith, room, c.rewrite_row.ensures.spare);
      seen = ap (λ (e : Ends). map (changed_by (changes_given time (map rewrite_given rest))) (histories_of after e new.slots)) (sym same)
          ∙ ap (map (changed_by (changes_given time (map rewrite_given rest)))) row.seen
          ∙ sym (changed_first time 0 (rewrite_given one) (map rewrite_given rest) apart (histories_of earlier ends old.slots))
          ∙ ap (λ (l : List RowRewrite). map (changed_by (changes_given time (map rewrite_given l))) (histories_of earlier ends old.slots)) (sym split)
          ∙ inv.seen;
      kinds = row.kinds ∙ inv.kinds;
      next = row.next ∙ inv.next;
    }

pub returns-clause-seen : goal.returns-clause-seen
returns-clause-seen c =
    let earlier : Past = λ k. past c.loop-one.log.versions k in
    let ends : Ends = λ k. end_in c.loop-one.log.ends k in
    let zero : length c.loop-one.one-iterator.rest.items ≡ 0 = search rules in
    let none : c.loop-one.one-iterator.rest.items ≡ [] = nil_from c.loop-one.one-iterator.rest.items zero in
    sym (unchanged c.args.time (histories_of earlier ends c.loop-one.grid.slots))
    ∙ ap (λ (l : List RowRewrite). map (changed_by (changes_given c.args.time (map rewrite_given l))) (histories_of earlier ends c.loop-one.grid.slots)) (sym none)
    ∙ c.loop-one.invariant.seen
