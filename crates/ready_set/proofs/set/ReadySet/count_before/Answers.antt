use Rattle.std.proofs.Common.{◌≡◌, ◌^◌, ◌+◌, ◌∙◌, List, Bool, ap, sym, arith}
use Rattle.ready_set.specs.Ready.{count_below}
use Rattle.ready_set.specs.inner.Tree.{sum_before, flags_of}
use Rattle.ready_set.proofs.SeenLaws.{seen_made, seen_flags, kept_small, sum-room}
use Rattle.ready_set.proofs.set.ReadySet.count_before.Goals as goal

pub overflow_add-self-inside : goal.overflow_add-self-inside
overflow_add-self-inside c =
    let a = c.self.inside in
    record { fits = omega (arith, seen_made a.counts.items a.room a.made c.args.self.now c.self.view_is, c.self.invariant.within, kept_small a.counts.items a.room a.height a.made c.self.invariant, c.requires) }

pub count_before-requires-clause-within : goal.count_before-requires-clause-within
count_before-requires-clause-within c =
    let a = c.self.inside in
    omega (arith, seen_made a.counts.items a.room a.made c.args.self.now c.self.view_is, c.self.invariant.within, c.self.invariant.power, c.requires)

pub returns : goal.returns
returns c =
    let a = c.self.inside in
    let here : sum_before a.counts.items (2 ^ a.height) + c.count_before.result ≡ sum_before a.counts.items (a.room + c.args.number) =
    (λ j. sum_before (sym c.deref.ensures.value j) (2 ^ a.height) + c.count_before.result) ∙ c.count_before.ensures ∙ (λ j. sum_before (c.deref.ensures.value j) (a.room + c.args.number)) in
    let below : c.count_before.result ≡ count_below (flags_of a.counts.items a.room a.made) c.args.number =
    omega (arith, here, ap (sum_before a.counts.items) c.self.invariant.power, sum-room a.counts.items a.room a.height a.made c.self.invariant c.args.number) in
    below ∙ ap (λ (l : List Bool). count_below l c.args.number) (seen_flags a.counts.items a.room a.made c.args.self.now c.self.view_is)
