use Rattle.std.proofs.Common.{◌∙◌, ◌++◌, sym, ap, refl, List, map, append-nil, Option, ℕ}
use Rattle.std.proofs.lemmas.Result.{on_ok_weaker}
use Rattle.lineage.specs.inner.Blocks.{rows_of_block}
use Rattle.lineage.specs.Lineage.{Row, member}
use Rattle.lineage.specs.declared.blocks.Block.{Block}
use Rattle.lineage.proofs.ListedBlocks.{none_of_block, block_listed, named_in}
use Rattle.sql_model.specs.declared.need.Member.{Member}
use Rattle.lineage.proofs.listing.list_at.Goals as goal

pub list_rows-requires-clause-kept : goal.list_rows-requires-clause-kept
list_rows-requires-clause-kept c = c.requires.kept c.args.place c.in-Some.block.now (sym c.in-Some.ensures.value)

pub list_rows-requires-clause-named : goal.list_rows-requires-clause-named
list_rows-requires-clause-named c = named_in c.args.names.now c.args.blocks.now c.args.place c.in-Some.block.now (sym c.in-Some.ensures.value)
    (c.requires.kept c.args.place c.in-Some.block.now (sym c.in-Some.ensures.value)).long c.requires.named

pub returns-in-None : goal.returns-in-None
returns-in-None c =
    let ms : List Member = c.args.members.now in
    sym (append-nil ms)
    ∙ ap (λ (rows : List (Row × ℕ)). ms ++ map (member c.args.names.now) rows)
    (sym (none_of_block c.args.place) ∙ ap (λ (o : Option Block). rows_of_block o c.args.place) c.in-None.ensures.value)

pub returns-in-Some : goal.returns-in-Some
returns-in-Some c =
    on_ok_weaker c.list_rows.result
    (λ is. is ∙ ap (λ (more : List Member). c.args.members.now ++ more)
    (block_listed c.args.names.now c.args.place 65536 c.in-Some.block.now refl
    ∙ ap (λ (o : Option Block). map (member c.args.names.now) (rows_of_block o c.args.place)) c.in-Some.ensures.value))
    c.list_rows.ensures
