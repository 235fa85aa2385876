use Rattle.std.proofs.Common.{◌≡◌, ◌∙◌, sym, ap, subst, is_some, map}
use Rattle.std.specs.List.Sorted.{IsStrictlySortedBy}
use Rattle.std.proofs.lemmas.Result.{IfOk-weaker}
use Rattle.sql_model.specs.MemberOrder.{member_cmp}
use Rattle.lineage.specs.inner.Blocks.{all_rows}
use Rattle.lineage.specs.Lineage.{member, members_of}
use Rattle.lineage.proofs.BlockOrder.{listed_blocks}
use Rattle.lineage.proofs.Listed.{members-sorted}
use Rattle.lineage.proofs.Seen.{seen_in}
use Rattle.lineage.proofs.set.LineageSet.members.Goals as goal

pub list_blocks-requires-clause-named : goal.list_blocks-requires-clause-named
list_blocks-requires-clause-named c = λ row there.
    c.requires.named row (ap is_some (sym (seen_in c.self.inside.blocks c.args.self.now c.self.view_is row)) ∙ there)

pub returns-clause-members : goal.returns-clause-members
returns-clause-members c =
    let names = c.args.names.now in
    let set = c.args.self.now in
    IfOk-weaker c.list_blocks.result (λ ms. ms ≡ map (member names) (all_rows c.self.inside.blocks)) (λ ms. ms ≡ members_of names set)
    (λ ms is. is ∙ listed_blocks names c.self.inside.blocks set c.list_blocks.ensures.sorted c.self.view_is) c.list_blocks.ensures.members

pub returns-clause-sorted : goal.returns-clause-sorted
returns-clause-sorted c =
    let names = c.args.names.now in
    let set = c.args.self.now in
    IfOk-weaker c.list_blocks.result (λ ms. ms ≡ map (member names) (all_rows c.self.inside.blocks)) (IsStrictlySortedBy member_cmp)
    (λ ms is. subst (IsStrictlySortedBy member_cmp) (sym (is ∙ listed_blocks names c.self.inside.blocks set c.list_blocks.ensures.sorted c.self.view_is))
    (members-sorted names c.requires.sorted set c.requires.named)) c.list_blocks.ensures.members
