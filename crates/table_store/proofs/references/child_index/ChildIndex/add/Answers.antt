use Rattle.std.proofs.Common.{rules, ◌≡◌, ◌∙◌, ap, sym, None, Some, w64, SFits}
use Rattle.std.specs.Prelude.{ℤ}
use Rattle.std.specs.Ordering.{int_cmp}
use Rattle.std.proofs.lemmas.Int.{to_z-of_z}
use Rattle.std.proofs.lemmas.Result.{on_ok_weaker}
use Rattle.sql_model.specs.KeyOrder.{key_order}
use Rattle.table_store.specs.inner.ChildPairs.{has_pair, pair_as, placed_order}
use Rattle.table_store.specs.KeyIndex.{int_key}
use Rattle.table_store.proofs.ChildIndexLaws.{keep_as}
use Rattle.table_store.proofs.references.child_index.ChildIndex.add.Goals as goal

pub returns-in-None-clause-kept : goal.returns-in-None-clause-kept
returns-in-None-clause-kept c = λ place key number is.
    let old = c.args.self.now in
    keep_as (has_pair (placed_order key_order) old.others.held (place, record { values = key }) number) (has_pair (placed_order key_order) c.add.new.self.held (place, record { values = key }) number)
    (λ z. has_pair (placed_order int_cmp) old.ints.held (place, z) number) (λ z. has_pair (placed_order int_cmp) old.ints.held (place, z) number) (int_key key)
    (λ one. c.add.ensures.kept (place, record { values = key }) number one) (λ z two. two) is

pub returns-in-Some-clause-kept : goal.returns-in-Some-clause-kept
returns-in-Some-clause-kept c = λ place key number is.
    let old = c.args.self.now in
    keep_as (has_pair (placed_order key_order) old.others.held (place, record { values = key }) number) (has_pair (placed_order key_order) old.others.held (place, record { values = key }) number)
    (λ z. has_pair (placed_order int_cmp) old.ints.held (place, z) number) (λ z. has_pair (placed_order int_cmp) c.add-in-Some.new.self.held (place, z) number) (int_key key)
    (λ one. one) (λ z two. c.add-in-Some.ensures.kept (place, z) number two) is

pub returns-in-None-clause-ok : goal.returns-in-None-clause-ok
returns-in-None-clause-ok c =
    let none : int_key c.args.key.values ≡ None = ap int_key (sym c.items.ensures) ∙ sym c.int_key.ensures ∙ c.in-None.is in
    on_ok_weaker c.add.result (λ put.
    ap (pair_as (has_pair (placed_order key_order) c.add.new.self.held (c.args.place, c.args.key) c.args.number) (λ z. has_pair (placed_order int_cmp) c.args.self.now.ints.held (c.args.place, z) c.args.number)) none ∙ put) c.add.ensures.ok

pub returns-in-Some-clause-ok : goal.returns-in-Some-clause-ok
returns-in-Some-clause-ok c =
    let is : int_key c.args.key.values ≡ Some c.in-Some.int = ap int_key (sym c.items.ensures) ∙ sym c.int_key.ensures ∙ c.in-Some.is in
    let fit : SFits w64 c.in-Some.int = search rules in
    on_ok_weaker c.add-in-Some.result (λ put.
    ap (pair_as (has_pair (placed_order key_order) c.args.self.now.others.held (c.args.place, c.args.key) c.args.number) (λ z. has_pair (placed_order int_cmp) c.add-in-Some.new.self.held (c.args.place, z) c.args.number)) is
    ∙ ap (λ (z : ℤ). has_pair (placed_order int_cmp) c.add-in-Some.new.self.held (c.args.place, z) c.args.number) (sym (to_z-of_z w64 c.in-Some.int fit)) ∙ put) c.add-in-Some.ensures.ok
