use Rattle.std.proofs.Common.{sym, subst}
use Rattle.run_model.specs.ValidWorld.{CanRun}
use Rattle.replay_db.specs.Auditing.{AuditsWorld, HasTables}
use Rattle.replay_db.specs.Types.{World}
use Rattle.replay_db.proofs.soundness.audit.Goals as goal

pub audit_parsed-requires-clause-can_run : goal.audit_parsed-requires-clause-can_run
audit_parsed-requires-clause-can_run c = subst CanRun (sym c.in-Ok.ensures.world) c.requires.can_run

pub audit_parsed-requires-clause-fits : goal.audit_parsed-requires-clause-fits
audit_parsed-requires-clause-fits c = subst (λ (w : World). HasTables c.args.bytes.now w) (sym c.in-Ok.ensures.world) c.requires.fits

pub returns-in-Ok : goal.returns-in-Ok
returns-in-Ok c = λ version is.
    subst (λ (w : World). AuditsWorld c.args.budget version w c.args.bytes.now c.audit_parsed.result) c.in-Ok.ensures.world
    (c.audit_parsed.ensures version is)
