use Rattle.std.proofs.Common.{subst, sym}
use Rattle.script_parse.specs.BadLine.{IsFirstBadLine}
use Rattle.script_parse.proofs.BadLines.{first_sound, first_complete}
use Rattle.script_parse.proofs.law.first_bad_law.Goals as goal

pub returns : goal.returns
returns c = λ bytes n. (λ h. subst (IsFirstBadLine bytes) (sym h.1) (first_sound bytes h.0), first_complete bytes n)
