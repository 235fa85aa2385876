use Rattle.std.proofs.Common.{ap, sym, ◌∙◌, List, ℕ}
use Rattle.std.specs.Option.{option_map}
use Rattle.table_store.specs.Histories.{history_at}
use Rattle.dml_versions.proofs.ReferLaws.{none-held, held-version}
use Rattle.dml_versions.proofs.needs.version_in.Goals as goal

pub returns-in-None : goal.returns-in-None
returns-in-None c = λ there.
    absurd (none-held c.args.store.now c.args.table.now c.args.row
    (ap (λ (n : List ℕ). history_at n c.args.store.now) (sym c.as_str.ensures) ∙ sym c.table.ensures.table ∙ ap (option_map (λ (t : _). t.now)) c.in-None.is) there)

pub returns-in-Some : goal.returns-in-Some
returns-in-Some c = λ there.
    c.version_of.ensures
    ∙ held-version c.args.store.now c.args.table.now c.args.row c.in-Some.held.now
    (ap (λ (n : List ℕ). history_at n c.args.store.now) (sym c.as_str.ensures) ∙ sym c.table.ensures.table ∙ ap (option_map (λ (t : _). t.now)) c.in-Some.is)
    c.tell_order.ensures there
