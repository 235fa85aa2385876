use Rattle.std.proofs.Common.{◌≡◌, ◌∙◌, ◌++◌, ap, sym, subst, ℕ, List, length, arith}
use Rattle.sql_model.specs.Changes.{numbered_rows}
use Rattle.table_store.specs.Types.{TableRow}
use Rattle.table_store.specs.inner.Grid.{AreNumberedFrom, are_of_kinds}
use Rattle.table_store.proofs.InsertLaws.{numbered_order, numbered_len}
use Rattle.table_store.proofs.table.add_new.Goals as goal

pub add_rows-requires-clause-numbered : goal.add_rows-requires-clause-numbered
add_rows-requires-clause-numbered c =
    let next : ℕ = c.args.rows.now.next in
    let made_is : c.in_ok-made.made ≡ numbered_rows next c.args.values = c.in_ok-made.ensures ∙ ap (λ (n : ℕ). numbered_rows n c.args.values) c.next.ensures in
    subst (λ (l : List TableRow). AreNumberedFrom next l) (sym made_is) (numbered_order next c.args.values (omega (arith, c.requires.few)))

pub add_rows-requires-clause-few : goal.add_rows-requires-clause-few
add_rows-requires-clause-few c =
    omega (arith, c.requires.few, ap length c.in_ok-made.ensures, numbered_len c.next.result c.args.values)

pub add_rows-requires-clause-kinds : goal.add_rows-requires-clause-kinds
add_rows-requires-clause-kinds c =
    ap (are_of_kinds c.args.rows.now.kinds) (c.in_ok-made.ensures ∙ ap (λ (n : ℕ). numbered_rows n c.args.values) c.next.ensures) ∙ c.requires.kinds
