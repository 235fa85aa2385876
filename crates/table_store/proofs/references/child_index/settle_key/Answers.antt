use Rattle.std.proofs.Common.{◌≡◌, ◌∙◌, ap, get_or, None}
use Rattle.std.specs.Prelude.{find, if◌then◌else◌}
use Rattle.std.specs.Option.{option_to_list}
use Rattle.sql_model.specs.References.{has_key}
use Rattle.table_store.specs.inner.ChildPairs.{pair_in}
use Rattle.table_store.specs.Histories.{no_history, row_now}
use Rattle.table_store.proofs.ChildIndexLaws.{settled}
use Rattle.table_store.proofs.references.child_index.settle_key.Goals as goal

pub returns-then-has_key_in : goal.returns-then-has_key_in
returns-then-has_key_in c = λ foreigns there all. all

pub returns : goal.returns
returns c = λ foreigns there all.
    let slots = c.args.stored.now.slots in
    let slot = c.args.slot in
    let gone : find (has_key c.args.foreign.now.columns c.args.key.values) (option_to_list (row_now (get_or slots slot no_history))) ≡ None =
    c.has_key_in.ensures.found ∙ ap (λ b. if b then row_now (get_or slots slot no_history) else None) c.if-has_key_in.false in
    settled slots c.args.stored.now.next c.tell_order.ensures.order slot c.args.number c.args.place c.args.foreign.now c.args.key.values c.requires.within c.requires.numbered gone
    foreigns there (pair_in c.args.index.now) (pair_in c.remove.new.self) c.remove.ensures all
