use Rattle.std.proofs.Common.{◌∙◌}
use Rattle.run_model.specs.StepVariables.{first_place}
use Rattle.proc_core.proofs.CutPlaces.{cuts_before, cuts_after}
use Rattle.proc_core.proofs.instructions.cut.split_text.Goals as goal

pub split_at_place-requires-clause-before : goal.split_at_place-requires-clause-before
split_at_place-requires-clause-before c =
    let at = c.first_place-place.ensures.place ∙ (λ j. first_place 0 (c.as_bytes.ensures.value j) (c.as_bytes-2.ensures.value j)) in
    cuts_before c.args.by.now c.args.text.now c.requires c.utf8.by c.utf8.text c.first_place-place.result at

pub split_at_place-requires-clause-after : goal.split_at_place-requires-clause-after
split_at_place-requires-clause-after c =
    let at = c.first_place-place.ensures.place ∙ (λ j. first_place 0 (c.as_bytes.ensures.value j) (c.as_bytes-2.ensures.value j)) in
    cuts_after c.args.by.now c.args.text.now c.requires c.utf8.by c.utf8.text c.first_place-place.result at
