use Rattle.std.proofs.Common.{◌≡◌, ℕ, ◌∙◌, sym, ap}
use Rattle.std.specs.Prelude.{Option, None, Some}
use Rattle.std.specs.BTreeMap.{BTreeMap, get_by_text}
use Rattle.std.specs.List.{filter_map}
use Rattle.std.proofs.lemmas.Result.{IfOk-weaker}
use Rattle.run_model.specs.declared.first_reasons.Why.{Why}
use Rattle.run_model.specs.Packing.{reason_among, reason_at, row_because}
use Rattle.run_model.proofs.ReasonLaws.{none_packed}
use Rattle.run_model.proofs.packing.needed_rows.Goals as goal

pub returns-in-None : goal.returns-in-None
returns-in-None c =
    let name = c.args.table.now.name in
    let none : get_by_text c.args.reasons.now name ≡ None = ap (get_by_text c.args.reasons.now) (sym c.as_str.ensures) ∙ sym c.in-None.ensures.value in
    c.new.ensures ∙ none_packed (reason_at c.args.reasons.now name) (λ row. ap (λ (o : Option (BTreeMap ℕ Why)). reason_among o row) none) c.args.table.now.rows

pub returns-in-Some : goal.returns-in-Some
returns-in-Some c =
    let name = c.args.table.now.name in
    let found : Some c.in-Some.rows.now ≡ get_by_text c.args.reasons.now name = c.in-Some.ensures.value ∙ ap (get_by_text c.args.reasons.now) c.as_str.ensures in
    IfOk-weaker c.pack_rows.result _ _
    (λ packed is. is ∙ (λ i. filter_map (row_because (λ row. reason_among (found i) row)) (c.items.ensures i)))
    c.pack_rows.ensures
