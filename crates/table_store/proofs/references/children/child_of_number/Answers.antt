use Rattle.std.proofs.Common.{◌∙◌, ap, get_or, ℕ, Option}
use Rattle.std.specs.Option.{option_and_then, option_map}
use Rattle.table_store.specs.inner.Afterwards.{in_set, orphan_in_slot}
use Rattle.table_store.specs.Histories.{no_history, table_now}
use Rattle.table_store.specs.Referring.{child_stop}
use Rattle.table_store.specs.Stops.{is_among}
use Rattle.table_store.proofs.references.children.child_of_number.Goals as goal

pub returns-in-None : goal.returns-in-None
returns-in-None c =
    let h = c.args.table.now in
    ap (λ (o : Option ℕ). option_map child_stop (option_and_then
    (λ (slot : ℕ). orphan_in_slot (is_among c.args.numbers.now) c.args.target.now (in_set c.args.lost.now) (table_now h) (get_or h.slots slot no_history)) o)) c.in-None.ensures

pub returns-in_ok-stop-in-Some : goal.returns-in_ok-stop-in-Some
returns-in_ok-stop-in-Some c =
    let h = c.args.table.now in
    c.in_ok-stop-in-Some.ensures
    ∙ ap (λ (o : Option ℕ). option_map child_stop (option_and_then
    (λ (slot : ℕ). orphan_in_slot (is_among c.args.numbers.now) c.args.target.now (in_set c.args.lost.now) (table_now h) (get_or h.slots slot no_history)) o)) c.in-Some.ensures
