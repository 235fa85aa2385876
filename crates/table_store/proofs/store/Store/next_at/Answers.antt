use Rattle.std.proofs.Common.{◌∙◌, ap, sym, ℕ, Some, arith}
use Rattle.std.specs.Option.{option_map}
use Rattle.table_store.specs.Types.{Table}
use Rattle.table_store.proofs.NowLaws.{not_absent, now_at}
use Rattle.table_store.proofs.store.Store.next_at.Goals as goal

pub unreachable-requires : goal.unreachable-requires
unreachable-requires c = not_absent c.args.table.now c.args.self.now c.requires c.in-None.ensures.table

pub returns-clause-last : goal.returns-clause-last
returns-clause-last c = λ past.
    ap (option_map (λ (table : Table). table.next)) (now_at c.args.table.now c.args.self.now c.in-Some.held.now c.in-Some.ensures.table)
    ∙ ap (λ (n : ℕ). Some n) (sym (c.next_at.ensures.last (omega (arith, past, c.in-Some.ensures.timed))))
