use Rattle.std.proofs.Common.{◌≡◌, Some, false}
use Rattle.std.specs.Prelude.{slice_get}
use Rattle.std.specs.Option.{option_map}
use Rattle.library_tests.proofs.StoreFacts.{history_has}
use Rattle.table_store.specs.Histories.{TableHistory}
use Rattle.library_tests.proofs.times.has_numbers.Goals as goal

pub returns-in-Some : goal.returns-in-Some
returns-in-Some c = λ numbers. history_has (λ (history : TableHistory). option_map (λ column. column.text)
    (slice_get history.schema.columns c.args.column) ≡ Some false) c.args.name.now c.args.store.now
    c.in-Some.held.now c.in-Some.ensures.table (c.is_of_numbers.ensures numbers)
