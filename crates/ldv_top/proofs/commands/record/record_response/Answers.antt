use Rattle.ldv_top.proofs.RecordLaws.{whatever}
use Rattle.ldv_top.proofs.commands.record.record_response.Goals as goal

pub returns-in-Ok-clause-recorded : goal.returns-in-Ok-clause-recorded
returns-in-Ok-clause-recorded c =
    whatever c.recorded_response.result
    (c.headline_law.ensures.recorded c.args.mode c.args.budget c.args.input c.in-Ok.parsed.world c.requires.short
    c.requires.bounded c.in-Ok.ensures.world c.in-Ok.ensures.valid)
