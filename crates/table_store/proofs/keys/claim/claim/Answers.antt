use Rattle.std.proofs.Common.{rules, ◌≡◌, ◌≤◌, ◌∙◌, ◌+◌, ◌++◌, ◌==◌, sym, subst, List, length, false, Option}
use Rattle.std.specs.Prelude.{◌^◌}
use Rattle.sql_model.specs.Changes.{KeyClash, clash_by, clash_after, numbered_rows}
use Rattle.table_store.specs.Types.{TableRow}
use Rattle.table_store.specs.Claims.{claim_stop}
use Rattle.table_store.specs.Histories.{rows_now}
use Rattle.table_store.specs.IndexView.{held_in}
use Rattle.table_store.specs.KeyIndex.{HeldKeys, AreHeld, AreIndexed}
use Rattle.table_store.specs.Stops.{StopsAs}
use Rattle.table_store.proofs.ClaimLaws.{keyed_held, keyed_clash, on_ok}
use Rattle.table_store.proofs.IndexLaws.{index_alike, indexed_by}
use Rattle.table_store.proofs.InsertLaws.{clash_new}
use Rattle.table_store.proofs.keys.claim.claim.Goals as goal

pub claim_all-requires-clause-held : goal.claim_all-requires-clause-held
claim_all-requires-clause-held c =
    keyed_held c.args.places.now (λ q. held_in c.args.index.now q) (rows_now c.args.stored.now.slots) (search rules) c.requires.indexed

pub returns-clause-stop : goal.returns-clause-stop
returns-clause-stop c =
    let places = c.args.places.now in
    let slots = c.args.stored.now.slots in
    let old : HeldKeys = λ q. held_in c.args.index.now q in
    let more : List TableRow = numbered_rows c.args.next c.args.values.now in
    let keyed : (length places == 0) ≡ false = search rules in
    let same : clash_by places (rows_now slots ++ more) ≡ clash_after places (rows_now slots) more =
    keyed_clash places (rows_now slots ++ more) keyed
    ∙ clash_new places old (index_alike c.args.index.now) slots c.args.stored.now.next c.tell_order.ensures.order (keyed_held places old (rows_now slots) keyed c.requires.indexed) more in
    subst (λ (o : Option KeyClash). StopsAs (claim_stop places c.args.next o) c.claim_all.result) (sym same) c.claim_all.ensures.stop
