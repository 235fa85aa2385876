use Rattle.std.proofs.Common.{◌≡◌, ◌∙◌, ap, sym, List, Bool, Some, None, true, false}
use Rattle.std.specs.Prelude.{if◌then◌else◌}
use Rattle.std.specs.Option.{option_map_or}
use Rattle.std.specs.Ordering.{is_eq}
use Rattle.sql_model.specs.Keys.{same_values, values_at}
use Rattle.table_store.specs.Types.{RowKey, Value}
use Rattle.table_store.proofs.references.child_rows.refers_by.Goals as goal

pub returns-then-refers_to_none : goal.returns-then-refers_to_none
returns-then-refers_to_none c =
    let f = c.args.foreign.now in
    let of : Bool → Bool = λ b. option_map_or (λ own. same_values own c.args.key.now.values) (if b then None else Some (values_at f.columns c.args.values.now)) false in
    sym (ap of (sym c.refers_to_none.ensures ∙ c.if-refers_to_none.true))

pub returns : goal.returns
returns c =
    let f = c.args.foreign.now in
    let of : Bool → Bool = λ b. option_map_or (λ own. same_values own c.args.key.now.values) (if b then None else Some (values_at f.columns c.args.values.now)) false in
    let is : c.in_ok-own.own.values ≡ values_at f.columns c.args.values.now = ap (λ (k : RowKey). k.values) c.in_ok-own.ensures in
    c.is_eq.ensures ∙ ap is_eq c.cmp.ensures ∙ ap (λ (own : List Value). same_values own c.args.key.now.values) is ∙ sym (ap of (sym c.refers_to_none.ensures ∙ c.if-refers_to_none.false))
