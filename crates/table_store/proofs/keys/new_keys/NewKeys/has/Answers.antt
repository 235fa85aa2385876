use Rattle.std.proofs.Common.{rules, ◌≡◌, ◌∙◌, ap, sym, None, Some, is_some, w64, SFits}
use Rattle.std.specs.Prelude.{ℤ}
use Rattle.std.proofs.lemmas.Int.{to_z-of_z}
use Rattle.std.specs.BTreeMap.{get}
use Rattle.std.specs.Ordering.{int_cmp}
use Rattle.ldv_value.specs.Order.{values_order}
use Rattle.table_store.specs.IndexView.{held_as}
use Rattle.table_store.specs.KeyIndex.{int_key}
use Rattle.table_store.proofs.keys.new_keys.NewKeys.has.Goals as goal

pub returns-in-None : goal.returns-in-None
returns-in-None c =
    let keys = c.args.self.now in
    let none : int_key c.args.key.now.values ≡ None = ap int_key (sym c.items.ensures) ∙ sym c.int_key.ensures ∙ c.in-None.is in
    c.has_other.ensures ∙ sym (ap is_some (ap (held_as (λ n. get int_cmp keys.ints n) (get values_order keys.others c.args.key.now.values)) none))

pub returns-in-Some : goal.returns-in-Some
returns-in-Some c =
    let keys = c.args.self.now in
    let is : int_key c.args.key.now.values ≡ Some c.in-Some.int = ap int_key (sym c.items.ensures) ∙ sym c.int_key.ensures ∙ c.in-Some.is in
    let fit : SFits w64 c.in-Some.int = search rules in
    c.has_int.ensures ∙ ap is_some (ap (λ (n : ℤ). get int_cmp keys.ints n) (to_z-of_z w64 c.in-Some.int fit) ∙ sym (ap (held_as (λ n. get int_cmp keys.ints n) (get values_order keys.others c.args.key.now.values)) is))
