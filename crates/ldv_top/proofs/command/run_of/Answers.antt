use Rattle.std.proofs.Common.{sym}
use Rattle.std.specs.Prelude.{string_bytes}
use Rattle.ldv_top.proofs.WordLaws.{run_many}
use Rattle.ldv_top.proofs.command.run_of.Goals as goal

pub returns-in_default-clause-command : goal.returns-in_default-clause-command
returns-in_default-clause-command c =
    sym (run_many string_bytes c.args.word.now c.args.others.now c.in_default.len_at_least)
