use Rattle.std.proofs.Common.{refl, subst, length}
use Rattle.proc_core.specs.inner.SlotSpawn.{IsProgram}
use Rattle.proc_core.specs.inner.Slots.{slot_went_to}
use Rattle.proc_core.proofs.Counts.{fewer_idle, fewer_known, fewer_new}
use Rattle.proc_core.proofs.Growing.{grows_no_child}
use Rattle.proc_core.proofs.Launches.{known_core, known_acts, known_grows, new_core, new_acts, new_grows}
use Rattle.proc_core.proofs.SpawnSteps.{absent_core, absent_acts, refused_core, refused_acts, told_by}
use Rattle.proc_core.proofs.spawn.spawn_path.Goals as goal

pub returns-in_ok-refuse-in-Absent-clause-core : goal.returns-in_ok-refuse-in-Absent-clause-core
returns-in_ok-refuse-in-Absent-clause-core g c = λ core is.
    let of = subst (IsProgram c.args.machine.now c.args.path) c.in-Absent.is c.in_ok-program_at.ensures in
    absent_core c.args.machine.now c.refuse.new.machine c.args.who.number core is _ c.requires.says c.args.path refl of c.in_ok-refuse-in-Absent.ensures.left c.in_ok-refuse-in-Absent.ensures.others

pub returns-in_ok-refuse-in-Absent-clause-told : goal.returns-in_ok-refuse-in-Absent-clause-told
returns-in_ok-refuse-in-Absent-clause-told g c = λ core is.
    let of = subst (IsProgram c.args.machine.now c.args.path) c.in-Absent.is c.in_ok-program_at.ensures in
    told_by g.T.Tracer.KEEPS _ _ c.args.who.step c.args.who.number _ _
    (absent_acts c.args.machine.now c.refuse.new.machine c.args.who.number core is _ c.requires.says c.args.path refl of)
    c.in_ok-refuse-in-Absent.ensures.told

pub returns-in_ok-refuse-in-Absent-clause-grows : goal.returns-in_ok-refuse-in-Absent-clause-grows
returns-in_ok-refuse-in-Absent-clause-grows g c = grows_no_child c.args.machine.now c.refuse.new.machine c.args.who.number (slot_went_to c.args.place) c.requires.within c.in_ok-refuse-in-Absent.ensures.left c.in_ok-refuse-in-Absent.ensures.others

pub returns-in_ok-refuse-in-Refused-clause-core : goal.returns-in_ok-refuse-in-Refused-clause-core
returns-in_ok-refuse-in-Refused-clause-core g c = λ core is.
    let of = subst (IsProgram c.args.machine.now c.args.path) c.in-Refused.is c.in_ok-program_at.ensures in
    refused_core c.args.machine.now c.refuse-in-Refused.new.machine c.args.who.number core is _ c.requires.says c.args.path refl of.0 of.1 of.2 c.in_ok-refuse-in-Refused.ensures.left c.in_ok-refuse-in-Refused.ensures.others

pub returns-in_ok-refuse-in-Refused-clause-told : goal.returns-in_ok-refuse-in-Refused-clause-told
returns-in_ok-refuse-in-Refused-clause-told g c = λ core is.
    let of = subst (IsProgram c.args.machine.now c.args.path) c.in-Refused.is c.in_ok-program_at.ensures in
    told_by g.T.Tracer.KEEPS _ _ c.args.who.step c.args.who.number _ _
    (refused_acts c.args.machine.now c.refuse-in-Refused.new.machine c.args.who.number core is _ c.requires.says c.args.path refl of.0 of.1 of.2)
    c.in_ok-refuse-in-Refused.ensures.told

pub returns-in_ok-refuse-in-Refused-clause-grows : goal.returns-in_ok-refuse-in-Refused-clause-grows
returns-in_ok-refuse-in-Refused-clause-grows g c = grows_no_child c.args.machine.now c.refuse-in-Refused.new.machine c.args.who.number (slot_went_to c.args.place) c.requires.within c.in_ok-refuse-in-Refused.ensures.left c.in_ok-refuse-in-Refused.ensures.others

pub returns-in_ok-launch-in-Known-clause-core : goal.returns-in_ok-launch-in-Known-clause-core
returns-in_ok-launch-in-Known-clause-core g c = λ core is.
    let of = subst (IsProgram c.args.machine.now c.args.path) c.in-Known.is c.in_ok-program_at.ensures in
    known_core c.args.machine.now c.launch.new.machine c.args.who.number _ c.requires.says c.args.path refl of.0 of.1 of.2.0 c.in-Known.index of.2.1 core is c.in_ok-launch-in-Known.ensures.made

pub returns-in_ok-launch-in-Known-clause-told : goal.returns-in_ok-launch-in-Known-clause-told
returns-in_ok-launch-in-Known-clause-told g c = λ core is.
    let of = subst (IsProgram c.args.machine.now c.args.path) c.in-Known.is c.in_ok-program_at.ensures in
    told_by g.T.Tracer.KEEPS _ _ c.args.who.step c.args.who.number _ _
    (known_acts c.args.machine.now c.launch.new.machine c.args.who.number _ c.requires.says c.args.path refl of.0 of.1 of.2.0 c.in-Known.index of.2.1 core is)
    c.in_ok-launch-in-Known.ensures.told

pub returns-in_ok-launch-in-Known-clause-grows : goal.returns-in_ok-launch-in-Known-clause-grows
returns-in_ok-launch-in-Known-clause-grows g c =
    let of = subst (IsProgram c.args.machine.now c.args.path) c.in-Known.is c.in_ok-program_at.ensures in
    known_grows c.args.machine.now c.launch.new.machine c.args.who.number _ c.requires.says c.args.path refl of.0 of.1 of.2.0 c.in-Known.index of.2.1 c.requires.within c.in_ok-launch-in-Known.ensures.made

pub returns-in_ok-launch_new-in-New-clause-core : goal.returns-in_ok-launch_new-in-New-clause-core
returns-in_ok-launch_new-in-New-clause-core g c = λ core is.
    let of = subst (IsProgram c.args.machine.now c.args.path) c.in-New.is c.in_ok-program_at.ensures in
    new_core c.args.machine.now c.launch_new.new.machine c.args.who.number _ c.requires.says c.args.path refl of.0 of.1 of.2.0 c.in-New.code of.2.1.0 of.2.1.1 of.2.1.2 c.in_ok-launch_new-in-New.ensures.made core is

pub returns-in_ok-launch_new-in-New-clause-told : goal.returns-in_ok-launch_new-in-New-clause-told
returns-in_ok-launch_new-in-New-clause-told g c = λ core is.
    let of = subst (IsProgram c.args.machine.now c.args.path) c.in-New.is c.in_ok-program_at.ensures in
    told_by g.T.Tracer.KEEPS _ _ c.args.who.step c.args.who.number _ _
    (new_acts c.args.machine.now c.launch_new.new.machine c.args.who.number _ c.requires.says c.args.path refl of.0 of.1 of.2.0 c.in-New.code of.2.1.0 of.2.1.1 of.2.1.2 c.in_ok-launch_new-in-New.ensures.made core is)
    c.in_ok-launch_new-in-New.ensures.told

pub returns-in_ok-launch_new-in-New-clause-grows : goal.returns-in_ok-launch_new-in-New-clause-grows
returns-in_ok-launch_new-in-New-clause-grows g c =
    let of = subst (IsProgram c.args.machine.now c.args.path) c.in-New.is c.in_ok-program_at.ensures in
    new_grows c.args.machine.now c.launch_new.new.machine c.args.who.number _ c.requires.says c.args.path refl of.0 of.1 of.2.0 c.in-New.code of.2.1.0 of.2.1.1 of.2.1.2 c.in_ok-launch_new-in-New.ensures.made c.requires.within

pub returns-in_ok-refuse-in-Absent-clause-counted : goal.returns-in_ok-refuse-in-Absent-clause-counted
returns-in_ok-refuse-in-Absent-clause-counted g c =
    fewer_idle c.args.machine.now c.refuse.new.machine c.args.who.number (slot_went_to c.args.place) (λ r. refl) c.requires.within
    c.in_ok-refuse-in-Absent.ensures.left c.in_ok-refuse-in-Absent.ensures.others c.args.who.step c.requires.counted

pub returns-in_ok-refuse-in-Refused-clause-counted : goal.returns-in_ok-refuse-in-Refused-clause-counted
returns-in_ok-refuse-in-Refused-clause-counted g c =
    fewer_idle c.args.machine.now c.refuse-in-Refused.new.machine c.args.who.number (slot_went_to c.args.place) (λ r. refl) c.requires.within
    c.in_ok-refuse-in-Refused.ensures.left c.in_ok-refuse-in-Refused.ensures.others c.args.who.step c.requires.counted

pub returns-in_ok-launch-in-Known-clause-counted : goal.returns-in_ok-launch-in-Known-clause-counted
returns-in_ok-launch-in-Known-clause-counted g c =
    let of = subst (IsProgram c.args.machine.now c.args.path) c.in-Known.is c.in_ok-program_at.ensures in
    fewer_known c.args.machine.now c.launch.new.machine c.args.who.number c.args.child c.in-Known.index of.2.1.2 c.args.arguments c.requires.within
    of.2.1.5 c.in_ok-launch-in-Known.ensures.made c.args.who.step c.requires.counted

pub returns-in_ok-launch_new-in-New-clause-counted : goal.returns-in_ok-launch_new-in-New-clause-counted
returns-in_ok-launch_new-in-New-clause-counted g c =
    fewer_new c.args.machine.now c.launch_new.new.machine c.args.who.number c.args.child (length c.args.machine.now.codes) c.in-New.code c.args.arguments
    c.requires.within c.in_ok-launch_new-in-New.ensures.made c.args.who.step c.requires.counted
