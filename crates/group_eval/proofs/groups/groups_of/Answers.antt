use Rattle.std.proofs.Common.{◌≡◌, ◌∙◌, ◌+◌, [], List, ℕ, drop, sym, ap, map, arith}
use Rattle.std.specs.BTreeMap.{is_at}
use Rattle.std.specs.Map.{lookup}
use Rattle.std.proofs.lemmas.List.{drop_all}
use Rattle.ldv_value.proofs.Places.{drop_item}
use Rattle.lineage.specs.declared.answer.Pick.{Pick}
use Rattle.ldv_value.specs.Order.{values_order}
use Rattle.group_eval.specs.inner.Grouping.{own_picks, number_of, grouped_onto}
use Rattle.group_eval.specs.Types.{Value}
use Rattle.group_eval.specs.declared.groups.KeyedGroup.{KeyedGroup}
use Rattle.group_eval.proofs.GroupLaws.{keyed_are}
use Rattle.group_eval.proofs.groups.groups_of.Goals as goal

pub loop-pick-init : goal.loop-pick-init
loop-pick-init c = (
  λ v. ap (λ (es : List (List Value × ℕ)). lookup (is_at (values_order v)) es) c.new-numbers.ensures.empty ∙ ap (number_of v) (sym c.new-made.ensures.items),
  ap (λ (ms : List KeyedGroup). grouped_onto c.args.places.now ms c.args.picks.now) c.new-made.ensures.items,
)

pub loop-pick-preserved : goal.loop-pick-preserved
loop-pick-preserved c =
    let picks : List Pick = c.args.picks.now in
    let places : List ℕ = c.args.places.now in
    let i = c.loop-pick.pick-index in (
      c.in_ok-add_pick.ensures.index,
      ap (λ (ms : List KeyedGroup). grouped_onto places ms (drop (i + 1) picks)) c.in_ok-add_pick.ensures.made
          ∙ ap (grouped_onto places c.loop-pick.made.items) (sym (drop_item picks i c.pick-item.result c.loop-pick-test.true c.pick-item.is))
          ∙ c.loop-pick.invariant.1,
    )

pub returns : goal.returns
returns c =
    let picks : List Pick = c.args.picks.now in
    let places : List ℕ = c.args.places.now in
    let done : drop c.loop-pick.pick-index picks ≡ [] = drop_all c.loop-pick.pick-index picks (omega (arith, c.loop-pick-test.false)) in
    ap (map own_picks) (sym (ap (grouped_onto places c.loop-pick.made.items) done) ∙ c.loop-pick.invariant.1) ∙ keyed_are places picks
