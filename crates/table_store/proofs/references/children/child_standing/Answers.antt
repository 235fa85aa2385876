use Rattle.std.proofs.Common.{◌∙◌, ap, sym, get_or}
use Rattle.std.specs.Option.{option_map}
use Rattle.table_store.specs.inner.Afterwards.{in_set}
use Rattle.table_store.specs.Histories.{no_history, table_now}
use Rattle.table_store.specs.Referring.{child_stop}
use Rattle.table_store.proofs.ChildLaws.{other_slot, passed_slot}
use Rattle.table_store.proofs.references.children.child_standing.Goals as goal

pub returns-then-is_passed : goal.returns-then-is_passed
returns-then-is_passed c =
    let h = c.args.table.now in
    ap (option_map child_stop)
    (passed_slot c.args.target.now (in_set c.args.lost.now) (table_now h) (get_or h.slots c.args.slot no_history) c.args.numbers.now c.args.number c.requires.stands
    (sym c.is_passed.ensures ∙ c.if-is_passed.true))

pub returns : goal.returns
returns c =
    let h = c.args.table.now in
    c.in_ok-stop.ensures
    ∙ ap (option_map child_stop)
    (other_slot c.args.target.now (in_set c.args.lost.now) (table_now h) (get_or h.slots c.args.slot no_history) c.args.numbers.now c.args.number c.requires.stands
    c.in_ok-values.values c.in_ok-values.ensures (sym c.is_passed.ensures ∙ c.if-is_passed.false))
