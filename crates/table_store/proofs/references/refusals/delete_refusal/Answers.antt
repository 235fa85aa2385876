use Rattle.std.proofs.Common.{◌∙◌, sym}
use Rattle.table_store.specs.inner.Judging.{holds}
use Rattle.table_store.proofs.JudgeLaws.{none_held}
use Rattle.table_store.proofs.NowLaws.{now_at}
use Rattle.table_store.proofs.RefusalLaws.{delete_child}
use Rattle.table_store.proofs.references.refusals.delete_refusal.Goals as goal

pub returns : goal.returns
returns c =
    let own = c.args.own.now in
    let store = c.args.store.now in
    c.in_ok-lost.ensures
    ∙ delete_child store.tables own c.tell_formed.ensures (now_at own.name store own (sym c.requires.there)) c.args.numbers.now (holds c.new-none.result) (none_held c.new-none.result c.new-none.ensures.empty)
