use Rattle.std.proofs.Common.{◌≡◌, List, refl, sym, subst, rules}
use Rattle.std.specs.Prelude.{option_map, slice_get}
use Rattle.std.proofs.lemmas.Option.{slice_get_past}
use Rattle.proc_core.specs.declared.process.SlotProcess.{SlotProcess}
use Rattle.proc_core.specs.inner.SlotStep.{IsLocal, next_slot_instr, slot_effect}
use Rattle.proc_core.proofs.Counts.{effect_counts, fewer_kept}
use Rattle.proc_core.proofs.Growing.{grows_kept}
use Rattle.proc_core.proofs.Machines.{none_core, none_told, next_core, next_told}
use Rattle.proc_core.proofs.instructions.local.execute_local.Goals as goal

pub returns-then-past-clause-core : goal.returns-then-past-clause-core
returns-then-past-clause-core g c = λ core is.
    none_core c.args.machine.now c.args.who.number core (slice_get_past c.args.machine.now.processes.items c.args.who.number (search rules)) is

pub returns-then-past-clause-told : goal.returns-then-past-clause-told
returns-then-past-clause-told g c = λ core is.
    none_told c.args.machine.now c.args.who.number c.args.who.step core g.T.Tracer.KEEPS (g.T.Tracer.events c.args.tracer.now)
    (slice_get_past c.args.machine.now.processes.items c.args.who.number (search rules)) is

pub returns-clause-core : goal.returns-clause-core
returns-clause-core g c = λ core is.
    let instr = option_map (λ i. i.now) c.next_of-instr.result in
    let next : instr ≡ next_slot_instr c.args.machine.now.codes (slice_get c.args.machine.now.processes.items c.args.who.number) =
    subst (λ (rs : List SlotProcess). instr ≡ next_slot_instr c.args.machine.now.codes (slice_get rs c.args.who.number)) c.deref.ensures.value c.next_of-instr.ensures.next in
    next_core c.args.machine.now c.args.who.number instr core _ (search rules, next, subst IsLocal (sym next) c.requires.local)
    c.in_ok-execute_local_instr.ensures.processes c.in_ok-execute_local_instr.ensures.files refl refl refl refl refl is

pub returns-clause-told : goal.returns-clause-told
returns-clause-told g c = λ core is.
    let instr = option_map (λ i. i.now) c.next_of-instr.result in
    let next : instr ≡ next_slot_instr c.args.machine.now.codes (slice_get c.args.machine.now.processes.items c.args.who.number) =
    subst (λ (rs : List SlotProcess). instr ≡ next_slot_instr c.args.machine.now.codes (slice_get rs c.args.who.number)) c.deref.ensures.value c.next_of-instr.ensures.next in
    next_told c.args.machine.now c.args.who.number instr core
    g.T.Tracer.KEEPS (g.T.Tracer.events c.args.tracer.now) (g.T.Tracer.events c.execute_local_instr.new.tracer) c.args.who.step
    (search rules, next, subst IsLocal (sym next) c.requires.local) c.in_ok-execute_local_instr.ensures.told is

pub returns-clause-grows : goal.returns-clause-grows
returns-clause-grows g c =
    grows_kept c.args.machine.now _ c.args.who.number _ (search rules) (λ r at. c.in_ok-execute_local_instr.ensures.processes r at) refl refl

pub returns-clause-counted : goal.returns-clause-counted
returns-clause-counted g c =
    let instr = option_map (λ i. i.now) c.next_of-instr.result in
    fewer_kept c.args.machine.now _ c.args.who.number (λ r. (slot_effect instr c.args.machine.now.processes.items r c.args.machine.now.tree).process)
    (λ r. effect_counts r instr c.args.machine.now.processes.items c.args.machine.now.tree) (search rules) c.in_ok-execute_local_instr.ensures.processes refl refl
