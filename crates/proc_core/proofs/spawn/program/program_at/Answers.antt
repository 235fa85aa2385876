use Rattle.std.proofs.Common.{◌≡◌, ap, sym, ◌∙◌, Some}
use Rattle.std.proofs.lemmas.Result.{IfOk-weaker}
use Rattle.ldv_value.specs.FileState.{content_at}
use Rattle.proc_core.specs.inner.SlotSpawn.{IsProgramOf, IsProgram}
use Rattle.proc_core.proofs.Programs.{program_there}
use Rattle.proc_core.proofs.spawn.program.program_at.Goals as goal

pub returns-in-Some : goal.returns-in-Some
returns-in-Some c =
    let m = c.args.machine.now in
    let path = c.args.path.now in
    let bytes = c.in-Some.bytes.now in
    let is : content_at m.tree path ≡ Some bytes = sym (c.in-Some.ensures.content ∙ ap (content_at m.tree) c.as_str.ensures) in
    IfOk-weaker c.program_of.result (IsProgramOf m bytes) (IsProgram m path) (program_there m path bytes is) c.program_of.ensures
