use Rattle.std.proofs.Common.{◌∙◌, ap}
use Rattle.std.specs.Option.{option_or}
use Rattle.run_model.specs.Slice.{reason_in}
use Rattle.slicer.specs.inner.Rows.{reason_due}
use Rattle.slicer.proofs.DueLaws.{reads_parts}
use Rattle.slicer.proofs.reasons.note_first_block.Goals as goal

pub returns-clause-due : goal.returns-clause-due
returns-clause-due c =
    λ table row later.
    c.in_ok-note_block.ensures table row (option_or (reason_in c.args.statement table row c.split_block.result.1.now) later)
    ∙ ap (reason_due c.args.reasons.now c.args.initial_rows.now c.args.needed.now table row)
    (reads_parts c.args.statement c.split_block.result.0.now c.split_block.result.1.now c.args.needs.now c.split_block.ensures.parts table row later)
