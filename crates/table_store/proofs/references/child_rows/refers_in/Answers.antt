use Rattle.std.proofs.Common.{◌∙◌, ap, sym, get_or, List, Option, false}
use Rattle.std.specs.Option.{option_map_or}
use Rattle.table_store.specs.inner.ChildPairs.{refers}
use Rattle.table_store.specs.Histories.{no_history, row_now, row_of}
use Rattle.table_store.specs.Types.{TableRow, Value}
use Rattle.table_store.proofs.StandingRows.{not-there}
use Rattle.table_store.proofs.references.child_rows.refers_in.Goals as goal

pub returns-in-None : goal.returns-in-None
returns-in-None c =
    let slot = get_or c.args.table.now.slots c.args.slot no_history in
    sym (ap (λ (o : Option TableRow). option_map_or (refers c.args.foreign.now c.args.key.now.values) o false) (not-there (row_now slot) c.in-None.ensures))

pub returns-in_ok-refers-in-Some : goal.returns-in_ok-refers-in-Some
returns-in_ok-refers-in-Some c =
    let slot = get_or c.args.table.now.slots c.args.slot no_history in
    c.in_ok-refers-in-Some.ensures
    ∙ ap (λ (now : Option (List Value)). option_map_or (refers c.args.foreign.now c.args.key.now.values) (row_of slot.number now) false) c.in_ok-values-in-Some.ensures
