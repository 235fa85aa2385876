use Rattle.std.proofs.Common.{◌≡◌, ◌∙◌, ap, sym, subst, Option, List, Bool, Some, None, true, false}
use Rattle.std.specs.Prelude.{IfSome, if◌then◌else◌}
use Rattle.std.proofs.lemmas.Result.{on_ok_weaker}
use Rattle.sql_model.specs.Keys.{values_at}
use Rattle.sql_model.specs.References.{reference}
use Rattle.table_store.specs.inner.ChildPairs.{pair_in}
use Rattle.table_store.specs.Types.{RowKey, Value}
use Rattle.table_store.proofs.references.child_index.add_by.Goals as goal

pub returns-then-refers_to_none-clause-ok : goal.returns-then-refers_to_none-clause-ok
returns-then-refers_to_none-clause-ok c =
    let f = c.args.foreign.now in
    let row = c.args.row.now in
    let none : reference f row.values ≡ None = ap (λ (b : Bool). if b then None else Some (values_at f.columns row.values)) (sym c.refers_to_none.ensures ∙ c.if-refers_to_none.true) in
    subst (λ (o : Option (List Value)). IfSome o (λ key. pair_in c.args.index.now c.args.place key row.number ≡ true)) (sym none) tt

pub returns-clause-ok : goal.returns-clause-ok
returns-clause-ok c =
    let f = c.args.foreign.now in
    let row = c.args.row.now in
    let key = c.in_ok-key.key in
    let is : key.values ≡ values_at f.columns row.values = ap (λ (k : RowKey). k.values) c.in_ok-key.ensures in
    let some : reference f row.values ≡ Some key.values =
    ap (λ (b : Bool). if b then None else Some (values_at f.columns row.values)) (sym c.refers_to_none.ensures ∙ c.if-refers_to_none.false) ∙ ap (λ (k : List Value). Some k) (sym is) in
    on_ok_weaker c.add.result (λ put. subst (λ (o : Option (List Value)). IfSome o (λ k. pair_in c.add.new.self c.args.place k row.number ≡ true)) (sym some) put) c.add.ensures.ok

pub returns-then-refers_to_none-clause-kept : goal.returns-then-refers_to_none-clause-kept
returns-then-refers_to_none-clause-kept c = λ place key number is. is

pub returns-in_err-key-clause-kept : goal.returns-in_err-key-clause-kept
returns-in_err-key-clause-kept c = λ place key number is. is
