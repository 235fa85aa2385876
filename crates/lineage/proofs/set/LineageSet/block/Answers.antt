use Rattle.std.proofs.Common.{◌≡◌, ◌∙◌, sym, ap, arith, List, ℕ, length}
use Rattle.lanes.specs.Sets.{member}
use Rattle.lineage.proofs.Lent.{none_in_block, same_in_block, lent_none, lent_words}
use Rattle.lineage.proofs.set.LineageSet.block.Goals as goal

pub with_member-requires : goal.with_member-requires
with_member-requires c =
    let long : length c.in-Some.block.now.words.items ≡ 1024 = (c.self.invariant (c.args.table, c.args.block) c.in-Some.block.now (sym c.in-Some.ensures.value)).long in
    omega (arith, long, ap length c.as_slice.ensures.value)

pub returns-in-None-clause-none : goal.returns-in-None-clause-none
returns-in-None-clause-none c = none_in_block c.self.inside.blocks c.args.self.now c.self.view_is c.args.table c.args.block (sym c.in-None.ensures.value)

pub returns-in-Some-clause-none : goal.returns-in-Some-clause-none
returns-in-Some-clause-none c =
    let there = sym c.in-Some.ensures.value in
    lent_none c.args.self.now c.args.table c.args.block c.as_slice.result.now
    (ap length c.as_slice.ensures.value ∙ (c.self.invariant (c.args.table, c.args.block) c.in-Some.block.now there).long)
    (λ n within. ap (λ (ws : List ℕ). member ws n) c.as_slice.ensures.value
    ∙ same_in_block c.self.inside.blocks c.args.self.now c.self.view_is c.args.table c.args.block c.in-Some.block.now there n within)
    c.with_member.result c.with_member.ensures.none

pub returns-in-Some-clause-words : goal.returns-in-Some-clause-words
returns-in-Some-clause-words c =
    let there = sym c.in-Some.ensures.value in
    lent_words c.args.self.now c.args.table c.args.block c.as_slice.result.now
    (ap length c.as_slice.ensures.value ∙ (c.self.invariant (c.args.table, c.args.block) c.in-Some.block.now there).long)
    (λ n within. ap (λ (ws : List ℕ). member ws n) c.as_slice.ensures.value
    ∙ same_in_block c.self.inside.blocks c.args.self.now c.self.view_is c.args.table c.args.block c.in-Some.block.now there n within)
    c.with_member.result c.with_member.ensures.words
