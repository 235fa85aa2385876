use Rattle.std.proofs.Common.{◌≡◌, ◌∙◌, ap, [], ◌∷◌, ◌++◌}
use Rattle.lineage.specs.Needing.{union_of_needs}
use Rattle.dml_versions.specs.inner.Needing.{child_need}
use Rattle.dml_versions.specs.Versions.{versions_now}
use Rattle.dml_versions.proofs.needs.with_child_row.Goals as goal

pub returns : goal.returns
returns c = λ there.
    let one : c.push.new.self ≡ child_need (versions_now c.args.store.now) c.args.table.now c.args.row ∷ [] =
    c.in_ok-push.ensures.ok
    ∙ (λ j. c.in_ok-others.ensures j ++ c.in_ok-child.ensures there j ∷ []) in
    c.in_ok-all.ensures
    ∙ (λ j. union_of_needs (c.items.ensures j) (c.items-2.ensures j))
    ∙ ap (union_of_needs c.args.needs) one
