use Rattle.std.proofs.Common.{subst, List, arith}
use Rattle.std.proofs.lemmas.List.{take_all}
use Rattle.table_store.specs.inner.ChildPairs.{AreReferred, pair_by}
use Rattle.table_store.specs.Types.{TableRow}
use Rattle.table_store.proofs.ChildIndexLaws.{keep_both, referred_more}
use Rattle.table_store.proofs.references.child_index.add_all.Goals as goal

pub loop-row-init : goal.loop-row-init
loop-row-init c = record { kept = λ place key number is. is; rows = tt }

pub loop-row-preserved : goal.loop-row-preserved
loop-row-preserved c = record {
  kept = keep_both (pair_by c.args.index.now c.args.foreigns.now) (pair_by c.loop-row.index c.args.foreigns.now) (pair_by c.add_row.new.index c.args.foreigns.now) c.loop-row.invariant.kept c.add_row.ensures.kept;
  rows = referred_more c.args.foreigns.now (pair_by c.loop-row.index c.args.foreigns.now) (pair_by c.add_row.new.index c.args.foreigns.now) c.args.rows.now c.loop-row.row-index c.row-item.result c.loop-row-test.true c.row-item.is
      c.add_row.ensures.kept c.loop-row.invariant.rows c.in-Ok.ensures.ok;
}

pub returns-in-Err-clause-kept : goal.returns-in-Err-clause-kept
returns-in-Err-clause-kept c = keep_both (pair_by c.args.index.now c.args.foreigns.now) (pair_by c.loop-row.index c.args.foreigns.now) (pair_by c.add_row.new.index c.args.foreigns.now) c.loop-row.invariant.kept c.add_row.ensures.kept

pub returns-clause-ok : goal.returns-clause-ok
returns-clause-ok c = subst (λ (l : List TableRow). AreReferred (pair_by c.loop-row.index c.args.foreigns.now) c.args.foreigns.now l) (take_all c.loop-row.row-index c.args.rows.now (omega arith)) c.loop-row.invariant.rows
