use Rattle.std.specs.Prelude.{string_bytes}
use Rattle.ldv_top.proofs.WordLaws.{table_many}
use Rattle.ldv_top.proofs.commands.table.table_of.Goals as goal

pub returns-in_default-clause-command : goal.returns-in_default-clause-command
returns-in_default-clause-command c = table_many string_bytes c.args.words.now c.in_default.len_at_least
