use Rattle.std.proofs.Common.{◌≡◌, ◌∙◌, ◌<◌, ap, sym, length, get_or, arith}
use Rattle.std.proofs.lemmas.List.{get_or_read}
use Rattle.run_model.specs.LogDatabase.{is_log_of}
use Rattle.replay_log.specs.inner.Places.{no_log}
use Rattle.replay_log.proofs.SortedLogs.{found_at, found_nowhere, all_before}
use Rattle.replay_log.proofs.find.index_of.Goals as goal

pub returns-then-index-logs-clause-absent : goal.returns-then-index-logs-clause-absent
returns-then-index-logs-clause-absent c = λ none.
    all_before c.args.process.now c.args.logs.now (λ k below. c.first_from-index.ensures.before k (omega arith))

pub returns-then-is_log_of-clause-found : goal.returns-then-is_log_of-clause-found
returns-then-is_log_of-clause-found c =
    let logs = c.args.logs.now in
    let index = c.first_from-index.result in
    let within : index < length logs = omega arith in
    let held : c.index-logs-index.result ≡ get_or logs index no_log = get_or_read logs index _ within c.index-logs-index.is no_log in
    found_at c.args.process.now logs index within c.first_from-index.ensures.before
    (ap (is_log_of c.args.process.now) (sym held) ∙ sym c.is_log_of.ensures ∙ c.if-is_log_of.true)

pub returns-else-is_log_of-clause-absent : goal.returns-else-is_log_of-clause-absent
returns-else-is_log_of-clause-absent c = λ none.
    let logs = c.args.logs.now in
    let index = c.first_from-index.result in
    let within : index < length logs = omega arith in
    let held : c.index-logs-index.result ≡ get_or logs index no_log = get_or_read logs index _ within c.index-logs-index.is no_log in
    found_nowhere c.args.process.now logs index c.requires within c.first_from-index.ensures.before
    (c.first_from-index.ensures.after index (omega arith) within)
    (ap (is_log_of c.args.process.now) (sym held) ∙ sym c.is_log_of.ensures ∙ c.if-is_log_of.false)
