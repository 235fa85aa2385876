use Rattle.std.proofs.Common.{sym, ◌∙◌, map, string_bytes, subst}
use Rattle.ldv_top.specs.inner.WordStops.{Stops}
use Rattle.ldv_top.specs.Words.{command_of}
use Rattle.ldv_top.specs.declared.word_stop.WordStop.{WordStop}
use Rattle.ldv_top.proofs.TopLaws.{usage_ends, memory_ends, unread_ends, command_ends}
use Rattle.ldv_top.proofs.top.ldv.Goals as goal

pub run_command-requires-clause-reading : goal.run_command-requires-clause-reading
run_command-requires-clause-reading g c = sym c.reads.ensures ∙ c.if-reads.true

pub returns-then-reads : goal.returns-then-reads
returns-then-reads g c =
    let called = c.run_command.ensures in
    command_ends g.S.Source.left g.S.Source.faults g.K.Sink.taken g.K.Sink.faults _ c.in-Ok.command
    c.in-Ok.ensures.command (sym c.reads.ensures ∙ c.if-reads.true) c.args.source.now c.run_command.new.source
    c.args.sink.now c.run_command.new.sink c.run_command.result
    called.read_fault called.write_fault called.due called.recorded called.migrated called.unwritten called.all_read called.not_usage
    c.headline_law.ensures.replayed c.seed_law.ensures c.report_law.ensures c.document_law.ensures
    c.two_runs_law.ensures.pair c.two_runs_law.ensures.replayed c.two_runs_law.ensures.any

pub returns-else-reads : goal.returns-else-reads
returns-else-reads g c =
    unread_ends g.S.Source.left g.S.Source.faults g.K.Sink.taken g.K.Sink.faults _ c.in-Ok.command
    c.in-Ok.ensures.command (sym c.reads.ensures ∙ c.if-reads.false) c.args.source.now c.args.sink.now
    c.run_unread.new.sink c.run_unread.result c.run_unread.ensures

pub returns-in-Err-Usage : goal.returns-in-Err-Usage
returns-in-Err-Usage g c =
    usage_ends g.S.Source.left g.S.Source.faults g.K.Sink.taken g.K.Sink.faults _ c.args.source.now c.args.sink.now
    (subst (λ (stop : WordStop). Stops stop (command_of (map string_bytes c.args.words.now))) c.in-Err-Usage.field-0-is c.in-Err-Usage.ensures.command)

pub returns-in-Err-NoMemory : goal.returns-in-Err-NoMemory
returns-in-Err-NoMemory g c =
    memory_ends g.S.Source.left g.S.Source.faults g.K.Sink.taken g.K.Sink.faults _ c.args.source.now c.args.sink.now
    (subst (λ (stop : WordStop). Stops stop (command_of (map string_bytes c.args.words.now))) c.in-Err-NoMemory.field-0-is c.in-Err-NoMemory.ensures.command)
