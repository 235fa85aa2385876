use Rattle.std.proofs.Common.{sym, ◌∙◌}
use Rattle.ldv_value.proofs.Options.{same-some}
use Rattle.sql_parse.proofs.StatementsLaw.{reading_sound, reading_complete}
use Rattle.sql_parse.proofs.law.reading_law.Goals as goal

pub returns-clause-same : goal.returns-clause-same
returns-clause-same c = λ text params s u. (reading_sound text params s, reading_complete text params s u)

pub returns-clause-unique : goal.returns-clause-unique
returns-clause-unique c = λ text params a b u x y. same-some a b (sym (reading_complete text params a u x) ∙ reading_complete text params b u y)
