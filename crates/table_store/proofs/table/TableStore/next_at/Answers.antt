use Rattle.std.proofs.Common.{◌∙◌, ap, sym, subst, List}
use Rattle.table_store.specs.Histories.{TableHistory, next_as_of}
use Rattle.table_store.specs.inner.Nexts.{nexts_of, AreInTime}
use Rattle.table_store.specs.declared.nexts.NextSince.{NextSince}
use Rattle.table_store.proofs.NowLaws.{next_last}
use Rattle.table_store.proofs.table.TableStore.next_at.Goals as goal

pub next_as_of-requires : goal.next_as_of-requires
next_as_of-requires c = subst (λ (l : List NextSince). AreInTime (nexts_of l)) (sym c.as_slice.ensures.value) c.self.invariant.in_time

pub returns-clause-number : goal.returns-clause-number
returns-clause-number c =
    c.next_as_of.ensures ∙ ap (λ (l : List NextSince). next_as_of c.args.time (nexts_of l)) c.as_slice.ensures.value
    ∙ ap (λ (t : TableHistory). next_as_of c.args.time t.nexts) c.self.view_is

pub returns-clause-last : goal.returns-clause-last
returns-clause-last c = λ past.
    c.next_as_of.ensures ∙ ap (λ (l : List NextSince). next_as_of c.args.time (nexts_of l)) c.as_slice.ensures.value
    ∙ ap (λ (t : TableHistory). next_as_of c.args.time t.nexts) c.self.view_is ∙ next_last c.args.time c.args.self.now.nexts past
