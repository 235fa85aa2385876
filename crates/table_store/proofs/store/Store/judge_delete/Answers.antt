use Rattle.std.proofs.Common.{◌∙◌, ap, sym, Option, Some}
use Rattle.std.specs.Option.{option_map}
use Rattle.std.proofs.Common.{◌≡◌, true}
use Rattle.table_store.specs.Referring.{orphan_stop}
use Rattle.table_store.specs.Stops.{all_stand, is_among, with_removed}
use Rattle.table_store.specs.Histories.{tables_now}
use Rattle.table_store.specs.Types.{Table}
use Rattle.table_store.specs.declared.error.StoreStop.{StoreStop}
use Rattle.table_store.proofs.NowLaws.{not_absent, given_now, now_at}
use Rattle.table_store.proofs.RefusalLaws.{own_history}
use Rattle.table_store.proofs.store.Store.judge_delete.Goals as goal

pub unreachable-requires : goal.unreachable-requires
unreachable-requires c = not_absent c.args.table.now c.args.self.now c.requires.there c.in-None.ensures.table

pub delete_refusal-requires-clause-there : goal.delete_refusal-requires-clause-there
delete_refusal-requires-clause-there c = own_history c.args.table.now c.args.self.now c.in-Some.own.now c.in-Some.ensures.table

pub delete_refusal-requires-clause-stand : goal.delete_refusal-requires-clause-stand
delete_refusal-requires-clause-stand c = given_now (λ table. all_stand c.args.numbers.now table ≡ true) c.args.table.now c.args.self.now c.in-Some.own.now c.in-Some.ensures.table c.requires.stand

pub returns : goal.returns
returns c =
    ap (option_map (λ (own : Table). orphan_stop (is_among c.args.numbers.now) own (with_removed c.args.numbers.now own) (tables_now c.args.self.now))) (now_at c.args.table.now c.args.self.now c.in-Some.own.now c.in-Some.ensures.table)
    ∙ ap (λ (o : Option StoreStop). Some o) (sym c.in_ok-stop-in-Some.ensures)
