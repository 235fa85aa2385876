use Rattle.std.proofs.Common.{◌≡◌, ◌==◌, ◌<◌, ◌+◌, ◌∙◌, ℕ, length, get_or, ap, arith}
use Rattle.std.proofs.lemmas.Bool.{le-ltb}
use Rattle.std.proofs.lemmas.List.{get_or_read}
use Rattle.ready_set.proofs.SeenLaws.{seen_at, seen_past}
use Rattle.ready_set.proofs.set.ReadySet.contains.Goals as goal

pub returns-then-number-self : goal.returns-then-number-self
returns-then-number-self c =
    let a = c.self.inside in
    let within : a.room + c.args.number < length a.counts.items = omega (arith, c.self.invariant.tree.long, c.self.invariant.within, c.if-number-self.true) in
    let read : c.index.result.now ≡ get_or a.counts.items (a.room + c.args.number) 0 = get_or_read a.counts.items _ _ within c.index.ensures 0 in
    ap (λ (n : ℕ). n == 1) read ∙ seen_at a.counts.items a.room a.made c.args.self.now c.self.view_is c.args.number c.if-number-self.true

pub returns-else-number-self : goal.returns-else-number-self
returns-else-number-self c =
    let a = c.self.inside in
    le-ltb c.args.number a.made c.if-number-self.false ∙ seen_past a.counts.items a.room a.made c.args.self.now c.self.view_is c.args.number c.if-number-self.false
