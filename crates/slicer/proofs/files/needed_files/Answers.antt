use Rattle.std.proofs.Common.{◌∙◌}
use Rattle.std.specs.List.{filter_map}
use Rattle.std.specs.Option.{option_map}
use Rattle.std.proofs.lemmas.Result.{IfOk-weaker}
use Rattle.ldv_value.specs.declared.file.File.{File}
use Rattle.run_model.specs.Slice.{packed_as}
use Rattle.slicer.specs.inner.Marks.{need_as}
use Rattle.slicer.proofs.files.needed_files.Goals as goal

pub returns : goal.returns
returns c =
    let whole = c.in_ok-whole.ensures.whole in
    let present = c.in_ok-whole.ensures.present in
    IfOk-weaker c.pack_files.result _ _
    (λ packed is. is
    ∙ (λ i. filter_map (λ (file : File). option_map (packed_as file) (need_as (whole file.path i) (present file.path i))) c.args.files.now))
    c.pack_files.ensures
