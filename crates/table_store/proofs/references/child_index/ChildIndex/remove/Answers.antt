use Rattle.std.proofs.Common.{rules, ◌≡◌, ◌∙◌, ap, sym, subst, false, Some, w64, SFits}
use Rattle.std.specs.Prelude.{ℤ}
use Rattle.std.specs.Ordering.{int_cmp, is_eq, nat_cmp, ordering_then}
use Rattle.std.proofs.lemmas.Int.{to_z-of_z}
use Rattle.sql_model.specs.KeyOrder.{key_order}
use Rattle.table_store.specs.inner.ChildPairs.{has_pair, placed_order}
use Rattle.table_store.specs.KeyIndex.{int_key}
use Rattle.table_store.proofs.ChildIndexLaws.{keep_at, other_int, other_key}
use Rattle.table_store.proofs.references.child_index.ChildIndex.remove.Goals as goal

pub returns-in-None : goal.returns-in-None
returns-in-None c = λ p k n differs is.
    let old = c.args.self.now in
    keep_at (has_pair (placed_order key_order) old.others.held (p, record { values = k }) n) (has_pair (placed_order key_order) c.remove.new.self.held (p, record { values = k }) n)
    (λ z. has_pair (placed_order int_cmp) old.ints.held (p, z) n) (λ z. has_pair (placed_order int_cmp) old.ints.held (p, z) n) (int_key k)
    (λ one. c.remove.ensures (p, record { values = k }) n (other_key c.args.place c.args.number c.args.key.values p n k differs) one) (λ z its two. two) is

pub returns-in-Some : goal.returns-in-Some
returns-in-Some c = λ p k n differs is.
    let old = c.args.self.now in
    let own : int_key c.args.key.values ≡ Some c.in-Some.int = ap int_key (sym c.items.ensures) ∙ sym c.int_key.ensures ∙ c.in-Some.is in
    let fit : SFits w64 c.in-Some.int = search rules in
    keep_at (has_pair (placed_order key_order) old.others.held (p, record { values = k }) n) (has_pair (placed_order key_order) old.others.held (p, record { values = k }) n)
    (λ z. has_pair (placed_order int_cmp) old.ints.held (p, z) n) (λ z. has_pair (placed_order int_cmp) c.remove-in-Some.new.self.held (p, z) n) (int_key k)
    (λ one. one)
    (λ z its two. c.remove-in-Some.ensures (p, z) n
    (subst (λ (int : ℤ). is_eq (ordering_then (ordering_then (nat_cmp c.args.place p) (int_cmp int z)) (nat_cmp c.args.number n)) ≡ false) (sym (to_z-of_z w64 c.in-Some.int fit))
    (other_int c.args.place c.args.number c.args.key.values p n k differs c.in-Some.int z own its)) two) is
