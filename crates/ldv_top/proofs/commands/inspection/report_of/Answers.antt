use Rattle.std.specs.Prelude.{string_bytes}
use Rattle.ldv_top.proofs.WordLaws.{report_many}
use Rattle.ldv_top.proofs.commands.inspection.report_of.Goals as goal

pub returns-in_default : goal.returns-in_default
returns-in_default c = report_many string_bytes c.args.words.now c.in_default.len_at_least
