use Rattle.std.proofs.Common.{◌∙◌, ℕ, ap, sym, arith}
use Rattle.std.specs.Prelude.{slice_get}
use Rattle.ready_set.specs.Ready.{numbers}
use Rattle.ready_set.proofs.NumberLaws.{find_next, find_none}
use Rattle.ready_set.proofs.SeenLaws.{seen_made}
use Rattle.ready_set.proofs.set.ReadySet.search_above.Goals as goal

pub count_before-requires : goal.count_before-requires
count_before-requires c =
    let a = c.self.inside in
    omega (arith, seen_made a.counts.items a.room a.made c.args.self.now c.self.view_is, c.if-next-self.true)

pub returns-then-next-self : goal.returns-then-next-self
returns-then-next-self c =
    c.get.ensures ∙ ap (λ (n : ℕ). slice_get (numbers c.args.self.now.flags) n) c.count_before.ensures ∙ sym (find_next c.args.last c.args.self.now.flags)

pub returns-else-next-self : goal.returns-else-next-self
returns-else-next-self c =
    let a = c.self.inside in
    sym (find_none c.args.last c.args.self.now.flags (omega (arith, seen_made a.counts.items a.room a.made c.args.self.now c.self.view_is, c.if-next-self.false)))
