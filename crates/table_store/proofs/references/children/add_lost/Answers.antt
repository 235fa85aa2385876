use Rattle.std.proofs.Common.{◌∙◌, List}
use Rattle.std.proofs.lemmas.Result.{on_ok_weaker}
use Rattle.table_store.specs.inner.Afterwards.{in_set}
use Rattle.table_store.specs.inner.Judging.{holds}
use Rattle.table_store.specs.Histories.{table_now}
use Rattle.table_store.specs.Types.{Value}
use Rattle.table_store.proofs.ChildLaws.{no_key, one_key}
use Rattle.table_store.proofs.references.children.add_lost.Goals as goal

pub returns-in-None : goal.returns-in-None
returns-in-None c = λ key.
    no_key (holds c.args.given.now) (table_now c.args.held.now) key c.in_ok-found.found c.args.number (in_set c.args.lost.now key) (c.in_ok-found.ensures key) c.in-None.is

pub returns-in-Some : goal.returns-in-Some
returns-in-Some c =
    on_ok_weaker c.put_lost.result (λ put. λ (q : List Value).
    put q ∙ one_key (holds c.args.given.now) (table_now c.args.held.now) q c.in_ok-found.found c.in-Some.key c.args.number (in_set c.args.lost.now q) (c.in_ok-found.ensures q) c.in-Some.is)
    c.put_lost.ensures
