use Rattle.std.proofs.Common.{◌≡◌, ◌∙◌, ap, sym, Option, Some, None, true, false}
use Rattle.std.specs.Option.{option_and_then, option_map_or}
use Rattle.ldv_value.proofs.Booleans.{true≢false}
use Rattle.table_store.specs.Histories.{TableHistory, history_at, history_of_row, table_now, version_now}
use Rattle.table_store.specs.Stops.{has_number}
use Rattle.table_store.specs.Types.{Table}
use Rattle.table_store.proofs.NowLaws.{now_at, now_none}
use Rattle.table_store.proofs.references.parent_set.version_at.Goals as goal

pub returns-in-None-clause-stands : goal.returns-in-None-clause-stands
returns-in-None-clause-stands c = λ stands.
    absurd (true≢false (sym stands ∙ ap (λ (o : Option Table). option_map_or (λ (t : Table). has_number t c.args.row) o false) (now_none c.args.table.now c.args.store.now c.in-None.ensures.table)))

pub returns-in-Some-clause-stands : goal.returns-in-Some-clause-stands
returns-in-Some-clause-stands c = λ stands.
    let store = c.args.store.now in
    let name = c.args.table.now in
    let held : TableHistory = c.in-Some.held.now in
    let there : Some held ≡ history_at name store = c.in-Some.ensures.table in
    let has : has_number (table_now held) c.args.row ≡ true =
    sym (ap (λ (o : Option Table). option_map_or (λ (t : Table). has_number t c.args.row) o false) (now_at name store held there)) ∙ stands in
    ap (option_and_then (λ (h : TableHistory). version_now (history_of_row c.args.row h.slots))) (sym there) ∙ c.version_in.ensures.stands has
