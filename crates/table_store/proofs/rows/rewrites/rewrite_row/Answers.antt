use Rattle.std.proofs.Common.{◌≡◌, ◌≢◌, ◌∙◌, ◌++◌, ◌∷◌, [], ◌+◌, ◌<◌, ap, sym, subst, ℕ, get_or, length, arith}
use Rattle.table_store.specs.inner.Grid.{Rows, no_slot}
use Rattle.row_version.specs.History.{write_at}
use Rattle.table_store.specs.inner.Past.{past, end_in}
use Rattle.table_store.specs.inner.RowHistories.{Past, Ends}
use Rattle.table_store.specs.inner.RowChanges.{RewritesRow}
use Rattle.table_store.proofs.ChangeLaws.{row_rewritten}
use Rattle.table_store.proofs.rows.rewrites.rewrite_row.Goals as goal

pub returns-clause-row : goal.returns-clause-row
returns-clause-row c =
    let given = c.args.given in
    let old : Rows = c.args.grid.now in
    let earlier : Past = λ k. past c.args.log.now.versions k in
    let after : Past = λ k. past c.push.new.self.versions k in
    let ends : Ends = λ k. end_in c.args.log.now.ends k in
    let here : after given.slot ≡ earlier given.slot ++ write_at (get_or old.slots given.slot no_slot).since given.old ∷ [] =
    c.push.ensures.here ∙ ap (λ (n : ℕ). earlier given.slot ++ write_at n given.old ∷ []) c.since.ensures in
    subst (λ (r : Rows). RewritesRow c.args.time given earlier after ends old r) (sym c.set.ensures)
    (row_rewritten earlier after ends old given c.args.time c.requires.kept c.tell_order.ensures.rising c.requires.slot c.requires.ready here c.push.ensures.others)
