use Rattle.std.proofs.Common.{◌≡◌, ◌∙◌, get_or, sym}
use Rattle.std.proofs.lemmas.List.{get_or_default}
use Rattle.table_store.specs.inner.ChildPairs.{no_foreign}
use Rattle.table_store.proofs.references.child_index.settle_at.Goals as goal

pub returns-then-first_place-place : goal.returns-then-first_place-place
returns-then-first_place-place c = λ all. all

pub returns : goal.returns
returns c =
    let foreigns = c.args.foreigns.now in
    let is : c.index-foreigns-place.result ≡ get_or foreigns c.args.place no_foreign =
    c.index-foreigns-place.is ∙ get_or_default foreigns c.args.place c.index-foreigns-place.result no_foreign c.requires.at in
    c.settle_by.ensures foreigns (sym is)
