use Rattle.std.proofs.Common.{◌≡◌, ◌∙◌, ◌≤◌, ap, sym, subst, List, ℕ}
use Rattle.std.proofs.lemmas.Result.{IfOk-weaker}
use Rattle.table_store.specs.Histories.{TableHistory, rows_now, rows_as_of, last_since}
use Rattle.table_store.specs.inner.Nexts.{nexts_of}
use Rattle.table_store.specs.Types.{TableRow}
use Rattle.table_store.specs.declared.nexts.NextSince.{NextSince}
use Rattle.table_store.proofs.NowLaws.{rows_last}
use Rattle.table_store.proofs.table.TableStore.rows_at.Goals as goal

pub returns-then-last_since-time-clause-rows : goal.returns-then-last_since-time-clause-rows
returns-then-last_since-time-clause-rows c =
    let a = c.self.inside in
    let time = c.args.time in
    let slots = a.rows.slots in
    let last : c.last_since.result ≡ last_since (nexts_of a.nexts.items) = c.last_since.ensures ∙ ap (λ (l : List NextSince). last_since (nexts_of l)) c.as_slice.ensures.value in
    let past : last_since (nexts_of a.nexts.items) ≤ time = subst (λ (n : ℕ). n ≤ time) last c.if-last_since-time.true in
    let same : rows_now slots ≡ rows_as_of time c.args.self.now.slots =
    sym (rows_last (last_since (nexts_of a.nexts.items)) time slots c.self.invariant.timed past) ∙ ap (λ (t : TableHistory). rows_as_of time t.slots) c.self.view_is in
    IfOk-weaker c.standing_rows.result (λ (rows : List TableRow). rows ≡ rows_now slots) (λ (rows : List TableRow). rows ≡ rows_as_of time c.args.self.now.slots) (λ rows is. is ∙ same) c.standing_rows.ensures
