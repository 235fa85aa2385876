use Rattle.std.proofs.Common.{rules, ◌≡◌, ◌∙◌, ap, sym, subst, Option, None, Some, w64, SFits}
use Rattle.std.specs.Prelude.{ℤ}
use Rattle.std.specs.Ordering.{int_cmp}
use Rattle.std.proofs.lemmas.Int.{to_z-of_z}
use Rattle.sql_model.specs.KeyOrder.{key_order}
use Rattle.table_store.specs.inner.ChildPairs.{IsFirstFrom, has_pair, pair_as, placed_order}
use Rattle.table_store.specs.KeyIndex.{int_key}
use Rattle.table_store.specs.Types.{RowKey}
use Rattle.table_store.proofs.references.child_index.ChildIndex.first_from.Goals as goal

pub returns-in_ok-copy-in-None : goal.returns-in_ok-copy-in-None
returns-in_ok-copy-in-None c =
    let index = c.args.self.now in
    let key = c.args.key.now in
    let none : int_key key.values ≡ None = ap int_key (sym c.items.ensures) ∙ sym c.int_key.ensures ∙ c.in-None.is in
    subst (λ (o : Option ℤ). IsFirstFrom (λ n. pair_as (has_pair (placed_order key_order) index.others.held (c.args.place, key) n) (λ z. has_pair (placed_order int_cmp) index.ints.held (c.args.place, z) n) o) c.args.from c.first_from.result) (sym none)
    (subst (λ (k : RowKey). IsFirstFrom (has_pair (placed_order key_order) index.others.held (c.args.place, k)) c.args.from c.first_from.result) c.in_ok-copy-in-None.ensures c.first_from.ensures)

pub returns-in-Some : goal.returns-in-Some
returns-in-Some c =
    let index = c.args.self.now in
    let key = c.args.key.now in
    let is : int_key key.values ≡ Some c.in-Some.int = ap int_key (sym c.items.ensures) ∙ sym c.int_key.ensures ∙ c.in-Some.is in
    let fit : SFits w64 c.in-Some.int = search rules in
    subst (λ (o : Option ℤ). IsFirstFrom (λ n. pair_as (has_pair (placed_order key_order) index.others.held (c.args.place, key) n) (λ z. has_pair (placed_order int_cmp) index.ints.held (c.args.place, z) n) o) c.args.from c.first_from-in-Some.result) (sym is)
    (subst (λ (z : ℤ). IsFirstFrom (has_pair (placed_order int_cmp) index.ints.held (c.args.place, z)) c.args.from c.first_from-in-Some.result) (to_z-of_z w64 c.in-Some.int fit) c.first_from-in-Some.ensures)
