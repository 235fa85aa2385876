use Rattle.std.proofs.Common.{◌≡◌, [], ◌∙◌, ap, sym, arith, List, length}
use Rattle.sql_engine.specs.Types.{Core}
use Rattle.sql_engine.proofs.AnswerLaws.{all_rows, asked_cores, no_core, none_are}
use Rattle.sql_model.specs.Refusals.{cores_of}
use Rattle.sql_engine.proofs.cores.all_rows.Goals as goal

pub returns-in-empty : goal.returns-in-empty
returns-in-empty c query asked =
    let own : cores_of c.args.checked.now.statement ≡ c.query_of.result.now.cores = ap cores_of c.query_of.ensures in
    let cores : c.items.result.now ≡ query.cores =
    c.items.ensures ∙ sym own ∙ asked_cores c.args.checked.now c.args.store.now query asked in
    all_rows c.args.store.now c.args.keep [] query.cores (sym (no_core c.items.result.now c.in-empty.len_below) ∙ cores)
    (record { answers = c.new.result; rejected = c.empty.result })
    (none_are c.args.store.now c.args.keep c.new.result c.empty.result c.new.ensures c.empty.ensures)
