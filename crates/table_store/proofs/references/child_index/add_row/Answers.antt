use Rattle.std.proofs.Common.{◌≡◌, ap, get_or, length, subst, List, arith, true}
use Rattle.std.specs.Prelude.{IfSome}
use Rattle.sql_model.specs.References.{reference}
use Rattle.table_store.specs.inner.ChildPairs.{first_place, no_foreign, pair_in}
use Rattle.table_store.specs.Types.{Foreign}
use Rattle.table_store.proofs.ChildIndexLaws.{keep_both, referred_by_all, referred_by_more}
use Rattle.table_store.proofs.references.child_index.add_row.Goals as goal

pub loop-place-init : goal.loop-place-init
loop-place-init c = record { kept = λ place key number is. is; referred = λ place below within first. absurd (omega (arith, below)) }

pub loop-place-preserved : goal.loop-place-preserved
loop-place-preserved c =
    let place = c.loop-place.place in
    let row = c.args.row.now in
    let one = subst (λ (l : List Foreign). first_place l place ≡ place → IfSome (reference (get_or l place no_foreign) row.values) (λ key. pair_in c.add_at.new.index place key row.number ≡ true))
    c.items-items.ensures c.in-Ok.ensures.ok in
    record {
      kept = keep_both (pair_in c.args.index.now) (pair_in c.loop-place.index) (pair_in c.add_at.new.index) c.loop-place.invariant.kept c.add_at.ensures.kept;
      referred = referred_by_more c.args.foreigns.now (pair_in c.loop-place.index) (pair_in c.add_at.new.index) row place c.add_at.ensures.kept c.loop-place.invariant.referred one;
    }

pub returns-in-Err-clause-kept : goal.returns-in-Err-clause-kept
returns-in-Err-clause-kept c = λ place.
    keep_both (pair_in c.args.index.now) (pair_in c.loop-place.index) (pair_in c.add_at.new.index) c.loop-place.invariant.kept c.add_at.ensures.kept
    (first_place c.args.foreigns.now place)

pub returns-clause-kept : goal.returns-clause-kept
returns-clause-kept c = λ place. c.loop-place.invariant.kept (first_place c.args.foreigns.now place)

pub returns-clause-ok : goal.returns-clause-ok
returns-clause-ok c =
    referred_by_all c.args.foreigns.now (pair_in c.loop-place.index) c.args.row.now c.loop-place.place (omega (arith, ap length c.items-items.ensures))
    c.loop-place.invariant.referred
