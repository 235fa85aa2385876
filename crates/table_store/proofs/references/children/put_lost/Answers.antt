use Rattle.std.proofs.Common.{◌∙◌, sym}
use Rattle.table_store.specs.inner.Afterwards.{in_set}
use Rattle.table_store.specs.inner.Judging.{holds}
use Rattle.table_store.proofs.ChildLaws.{kept_key, lost_key}
use Rattle.table_store.proofs.references.children.put_lost.Goals as goal

pub returns-then-holds : goal.returns-then-holds
returns-then-holds c = λ q.
    kept_key (holds c.args.given.now) c.args.key.values q (in_set c.args.lost.now q) (sym c.holds.ensures ∙ c.if-holds.true)

pub returns : goal.returns
returns c = λ q.
    lost_key (holds c.args.given.now) c.args.lost.now c.insert.new.self c.args.key q (sym c.holds.ensures ∙ c.if-holds.false) c.in_ok-insert.ensures.updates
