-- Acts that name a path.
use Rattle.std.specs.Prelude.{ℕ, List}
use Rattle.proc_core.specs.Types.{Act, Started, Spawned, Unspawned, OpenedRead, OpenedWrite, OpenedAppend}
use Rattle.proc_core.specs.Types.{OpenedNew}
use Rattle.proc_core.specs.Types.{Unopened, Read, Wrote, Removed, Tested}
use Rattle.proc_core.specs.declared.tell.PathAct.{PathAct}
use Rattle.proc_core.specs.declared.tell.PathAct.TheVariants as kinds

abbrev pub path_act : PathAct → List ℕ → Act
path_act kinds.Started path = Started path
path_act kinds.Spawned path = Spawned path
path_act (kinds.Unspawned found) path = Unspawned path found
path_act kinds.OpenedRead path = OpenedRead path
path_act kinds.OpenedWrite path = OpenedWrite path
path_act (kinds.OpenedAppend found) path = OpenedAppend path found
path_act kinds.OpenedNew path = OpenedNew path
path_act (kinds.Unopened found) path = Unopened path found
path_act kinds.Read path = Read path
path_act kinds.Wrote path = Wrote path
path_act kinds.Removed path = Removed path
path_act (kinds.Tested found) path = Tested path found
