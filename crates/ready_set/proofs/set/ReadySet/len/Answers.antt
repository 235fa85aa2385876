use Rattle.std.proofs.Common.{◌≡◌, ◌<◌, ◌∙◌, List, Bool, length, get_or, ap, arith}
use Rattle.std.proofs.lemmas.List.{get_or_read}
use Rattle.std.proofs.lemmas.Nat.{pow_pos}
use Rattle.ready_set.specs.Ready.{numbers}
use Rattle.ready_set.proofs.SeenLaws.{seen_flags, total_is}
use Rattle.ready_set.proofs.set.ReadySet.len.Goals as goal

pub returns : goal.returns
returns c =
    let a = c.self.inside in
    let within : 1 < length a.counts.items = omega (arith, c.self.invariant.tree.long, c.self.invariant.power, pow_pos a.height) in
    let read : c.index.result.now ≡ get_or a.counts.items 1 0 = get_or_read a.counts.items _ _ within c.index.ensures 0 in
    read ∙ total_is a.counts.items a.room a.height a.made c.self.invariant
    ∙ ap (λ (l : List Bool). length (numbers l)) (seen_flags a.counts.items a.room a.made c.args.self.now c.self.view_is)
