use Rattle.std.proofs.Common.{subst}
use Rattle.ldv_top.specs.DueParts.{DueOutput}
use Rattle.ldv_top.specs.Ends.{Responds}
use Rattle.ldv_top.proofs.TopLaws.{due_unread}
use Rattle.ldv_top.proofs.top.run_unread.Goals as goal

pub returns : goal.returns
returns g c = λ input.
    subst (λ (d : DueOutput). Responds g.K.Sink.taken g.K.Sink.faults d c.args.sink.now c.respond_and_write.new.sink c.respond_and_write.result)
    (due_unread c.args.command c.requires.unread _ input) c.respond_and_write.ensures.responds
