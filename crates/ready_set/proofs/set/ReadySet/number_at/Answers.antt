use Rattle.std.proofs.Common.{◌≡◌, ◌^◌, ◌+◌, ◌∙◌, ℕ, List, Bool, length, get_or, ap, sym, arith}
use Rattle.std.specs.Prelude.{slice_get}
use Rattle.ready_set.specs.Ready.{numbers}
use Rattle.ready_set.specs.inner.Tree.{sum_before}
use Rattle.ready_set.proofs.SeenLaws.{seen_flags, total_is, found_is}
use Rattle.ready_set.proofs.WayLaws.{IsFound}
use Rattle.ready_set.proofs.set.ReadySet.number_at.Goals as goal

pub leaf_at-requires-clause-few : goal.leaf_at-requires-clause-few
leaf_at-requires-clause-few c =
    let a = c.self.inside in
    let all : get_or a.counts.items 1 0 ≡ length (numbers c.args.self.now.flags) =
    total_is a.counts.items a.room a.height a.made c.self.invariant
    ∙ ap (λ (l : List Bool). length (numbers l)) (seen_flags a.counts.items a.room a.made c.args.self.now c.self.view_is) in
    omega (arith, all, ap (λ (l : List ℕ). get_or l 1 0) c.deref.ensures.value, c.requires)

pub returns : goal.returns
returns c =
    let a = c.self.inside in
    let found : IsFound a.height a.counts.items c.args.k c.leaf_at.result = record {
      from = c.leaf_at.ensures.from;
      within = c.leaf_at.ensures.within;
      counted = (λ j. get_or (sym c.deref.ensures.value j) c.leaf_at.result 0) ∙ c.leaf_at.ensures.counted;
      before = (λ j. sum_before (sym c.deref.ensures.value j) (2 ^ a.height) + c.args.k) ∙ c.leaf_at.ensures.before ∙ (λ j. sum_before (c.deref.ensures.value j) c.leaf_at.result);
    } in
    (λ j. slice_get (numbers (sym (seen_flags a.counts.items a.room a.made c.args.self.now c.self.view_is) j)) c.args.k)
    ∙ found_is a.counts.items a.room a.height a.made c.self.invariant c.args.k c.leaf_at.result found
