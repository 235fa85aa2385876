use Rattle.std.proofs.Common.{subst}
use Rattle.replay_db.specs.declared.soundness.AuditStop.{AuditStop}
use Rattle.std.specs.Prelude.{Err}
use Rattle.ldv_top.proofs.AuditResponses.{AuditedAs, audit_long, audit_late}
use Rattle.ldv_top.proofs.commands.audit.world_response.Goals as goal

pub returns-in-Err-NotEnded : goal.returns-in-Err-NotEnded
returns-in-Err-NotEnded c =
    audit_late c.args.budget c.args.input.now c.args.own.now.world c.requires.versioned
    (subst (λ (stop : AuditStop). AuditedAs c.args.budget c.args.input.now c.args.own.now.world (Err stop)) c.in-Err-NotEnded.field-0-is c.in-Err-NotEnded.ensures)

pub returns-in-Err-TooLong : goal.returns-in-Err-TooLong
returns-in-Err-TooLong c =
    audit_long c.args.budget c.args.input.now c.args.own.now.world c.requires.versioned
    (subst (λ (stop : AuditStop). AuditedAs c.args.budget c.args.input.now c.args.own.now.world (Err stop)) c.in-Err-TooLong.field-0-is c.in-Err-TooLong.ensures)
