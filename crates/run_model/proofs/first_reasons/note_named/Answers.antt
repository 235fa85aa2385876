use Rattle.std.proofs.Common.{◌≡◌, ℕ, List, ◌∙◌, ap, cond, rules}
use Rattle.std.specs.Prelude.{Option, Some, bytes_eq}
use Rattle.std.specs.BTreeMap.{BTreeMap, get_by_text}
use Rattle.std.specs.Option.{option_or}
use Rattle.std.proofs.lemmas.Result.{on_ok_weaker, on_err_weaker}
use Rattle.std.proofs.lemmas.Map.Text.{btree_map_updates_text}
use Rattle.run_model.specs.Types.{Need}
use Rattle.run_model.specs.declared.first_reasons.Why.{Why}
use Rattle.run_model.specs.Packing.{reason_among, reason_of_row}
use Rattle.run_model.proofs.ReasonLaws.{read_step, read_kept}
use Rattle.run_model.proofs.first_reasons.note_named.Goals as goal

pub returns-in-Some-clause-noted : goal.returns-in-Some-clause-noted
returns-in-Some-clause-noted c =
    let old = c.args.reasons.now in
    let made = c.note_row.new.rows in
    let new = c.get_mut.follows.lender made in
    let table = c.args.table.now in
    let needed = c.args.row in
    let why : Why = c.args.why in
    let need : Need = record { member = record { table = table; row = needed; version = 0 }; rule = why.rule } in
    let text = c.as_str.result.now in
    let is : text ≡ table = c.as_str.ensures in
    let was : Some c.in-Some.rows.now ≡ get_by_text old table = c.in-Some.ensures.value ∙ ap (get_by_text old) is in
    let updates : (q : List ℕ) → get_by_text new q ≡ cond (bytes_eq table q) (Some made) (get_by_text old q) =
    λ q. btree_map_updates_text text old new (Some made) ((c.get_mut.follows.holds made).3 (search rules)) q
    ∙ ap (λ (k : List ℕ). cond (bytes_eq k q) (Some made) (get_by_text old q)) is in
    on_ok_weaker c.note_row.result
    (λ steps. read_step old new made why.statement need updates
    (λ row. steps row ∙ ap (λ (o : Option (BTreeMap ℕ Why)). option_or (reason_among o row) (reason_of_row needed why row)) was))
    c.note_row.ensures.noted

pub returns-in-Some-clause-err : goal.returns-in-Some-clause-err
returns-in-Some-clause-err c =
    let old = c.args.reasons.now in
    let made = c.note_row.new.rows in
    let new = c.get_mut.follows.lender made in
    let table = c.args.table.now in
    let text = c.as_str.result.now in
    let is : text ≡ table = c.as_str.ensures in
    let was : Some c.in-Some.rows.now ≡ get_by_text old table = c.in-Some.ensures.value ∙ ap (get_by_text old) is in
    let updates : (q : List ℕ) → get_by_text new q ≡ cond (bytes_eq table q) (Some made) (get_by_text old q) =
    λ q. btree_map_updates_text text old new (Some made) ((c.get_mut.follows.holds made).3 (search rules)) q
    ∙ ap (λ (k : List ℕ). cond (bytes_eq k q) (Some made) (get_by_text old q)) is in
    on_err_weaker c.note_row.result
    (λ kept. read_kept old new made table updates (λ row. kept row ∙ ap (λ (o : Option (BTreeMap ℕ Why)). reason_among o row) was))
    c.note_row.ensures.err
