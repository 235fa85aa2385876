use Rattle.std.proofs.Common.{◌≡◌, ◌∙◌, get_or, subst, true}
use Rattle.std.specs.Prelude.{IfSome}
use Rattle.std.proofs.lemmas.List.{get_or_default}
use Rattle.std.proofs.lemmas.Result.{on_ok_weaker}
use Rattle.sql_model.specs.References.{reference}
use Rattle.table_store.specs.inner.ChildPairs.{no_foreign, pair_in}
use Rattle.table_store.specs.Types.{Foreign}
use Rattle.table_store.proofs.references.child_index.add_at.Goals as goal

pub returns-clause-ok : goal.returns-clause-ok
returns-clause-ok c =
    let foreigns = c.args.foreigns.now in
    let is : c.index-foreigns-place.result ≡ get_or foreigns c.args.place no_foreign =
    c.index-foreigns-place.is ∙ get_or_default foreigns c.args.place c.index-foreigns-place.result no_foreign c.requires in
    on_ok_weaker c.add_by.result (λ put first. subst (λ (f : Foreign). IfSome (reference f c.args.row.now.values) (λ key. pair_in c.add_by.new.index c.args.place key c.args.row.now.number ≡ true)) is put) c.add_by.ensures.ok
