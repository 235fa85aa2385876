use Rattle.std.proofs.Common.{◌∙◌}
use Rattle.std.specs.List.{filter_map}
use Rattle.std.proofs.lemmas.Result.{IfOk-weaker}
use Rattle.package_join.specs.inner.Picked.{file_by}
use Rattle.package_join.proofs.choosing.picked_files.Goals as goal

pub returns : goal.returns
returns c =
    IfOk-weaker c.files_by.result _ _
    (λ picked is. is ∙ (λ i. filter_map (file_by (λ q. c.in_ok-wholes.ensures q i) (λ q. c.in_ok-presents.ensures q i)) (c.items.ensures i)))
    c.files_by.ensures
