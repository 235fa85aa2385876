use Rattle.std.proofs.Common.{ℕ, List, Some, ap, subst}
use Rattle.std.specs.Prelude.{Err}
use Rattle.ldv_top.specs.Comes.{Comes}
use Rattle.ldv_top.specs.Due.{due_of, due_record}
use Rattle.ldv_top.specs.DueOfMigrations.{due_migrate}
use Rattle.ldv_top.specs.Headline.{IsRecording}
use Rattle.ldv_top.specs.Migrated.{IsMigration}
use Rattle.ldv_top.proofs.TopLaws.{got_all, longer, too_long_due}
use Rattle.ldv_top.proofs.RecordLaws.{too_long}
use Rattle.ldv_top.proofs.top.run_command.Goals as goal

pub returns-in-Ok-clause-due : goal.returns-in-Ok-clause-due
returns-in-Ok-clause-due g c = λ input told.
    subst (λ (l : List ℕ). Comes (due_of (Some c.args.command) l) c.respond_and_write.result (g.K.Sink.taken c.args.sink.now) (g.K.Sink.taken c.respond_and_write.new.sink))
    (got_all _ _ _ input told c.in-Ok.ensures.whole c.in-Ok.ensures.end) c.respond_and_write.ensures.responds.due

pub returns-in-Ok-clause-recorded : goal.returns-in-Ok-clause-recorded
returns-in-Ok-clause-recorded g c = λ mode budget document is told ends.
    subst (λ (l : List ℕ). IsRecording mode budget l (due_record mode budget l).bytes)
    (got_all _ _ _ document told c.in-Ok.ensures.whole c.in-Ok.ensures.end) (c.respond_and_write.ensures.recorded mode budget is ends)

pub returns-in-Err-TooLong-clause-due : goal.returns-in-Err-TooLong-clause-due
returns-in-Err-TooLong-clause-due g c = λ input told.
    too_long_due c.args.command c.requires.reading input
    (too_long input (longer _ _ input told (c.in-Err-TooLong.ensures.too_long (ap Err c.in-Err-TooLong.field-0-is))))

pub returns-in-Ok-clause-migrated : goal.returns-in-Ok-clause-migrated
returns-in-Ok-clause-migrated g c = λ input is told ends.
    subst (λ (l : List ℕ). IsMigration l (due_migrate l).bytes)
    (got_all _ _ _ input told c.in-Ok.ensures.whole c.in-Ok.ensures.end) (c.respond_and_write.ensures.migrated is ends)
