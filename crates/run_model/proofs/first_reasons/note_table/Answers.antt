use Rattle.std.proofs.Common.{◌≡◌, ℕ, List, ◌∙◌, sym, ap, cond}
use Rattle.std.specs.Prelude.{Option, Some, string_bytes, bytes_eq}
use Rattle.std.specs.BTreeMap.{BTreeMap, get_by_text}
use Rattle.std.specs.Option.{option_or}
use Rattle.std.proofs.lemmas.Map.Text.{btree_map_updates_text}
use Rattle.run_model.specs.Slice.{Reason}
use Rattle.run_model.specs.Types.{Need}
use Rattle.run_model.specs.declared.first_reasons.Why.{Why}
use Rattle.run_model.specs.Packing.{row_reason, reason_among, reason_at, reason_of_row}
use Rattle.run_model.proofs.ReasonLaws.{read_step, none_empty}
use Rattle.run_model.proofs.first_reasons.note_table.Goals as goal

pub returns-clause-noted : goal.returns-clause-noted
returns-clause-noted c =
    let old = c.args.reasons.now in
    let new = c.insert.new.self in
    let rows = c.note_row.new.rows in
    let table = c.args.table.now in
    let needed = c.args.row in
    let why : Why = c.args.why in
    let need : Need = record { member = record { table = table; row = needed; version = 0 }; rule = why.rule } in
    let key : string_bytes c.in_ok-key.key ≡ table = c.in_ok-key.ensures.ok ∙ c.as_str.ensures in
    let updates : (q : List ℕ) → get_by_text new q ≡ cond (bytes_eq table q) (Some rows) (get_by_text old q) =
    λ q. btree_map_updates_text (string_bytes c.in_ok-key.key) old new (Some rows) c.in_ok-insert.ensures.updates q
    ∙ ap (λ (k : List ℕ). cond (bytes_eq k q) (Some rows) (get_by_text old q)) key in
    let steps : (row : ℕ) → row_reason rows row ≡ option_or (reason_at old table row) (reason_of_row needed why row) =
    λ row. c.in_ok-note_row.ensures.noted row
    ∙ ap (λ (o : Option Reason). option_or o (reason_of_row needed why row))
    (none_empty c.new-rows.result c.new-rows.ensures.empty row ∙ ap (λ (o : Option (BTreeMap ℕ Why)). reason_among o row) (sym c.requires)) in
    read_step old new rows why.statement need updates steps
