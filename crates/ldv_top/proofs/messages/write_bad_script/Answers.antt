use Rattle.std.proofs.Common.{sym, ap}
use Rattle.ldv_top.specs.Exits.{bad_script_line}
use Rattle.ldv_top.proofs.WriteLemmas.{writes_same}
use Rattle.ldv_top.proofs.messages.write_bad_script.Goals as goal

pub returns-in-BadScript : goal.returns-in-BadScript
returns-in-BadScript g c = writes_same (ap bad_script_line (sym c.in-BadScript.is)) c.write_numbered.ensures
