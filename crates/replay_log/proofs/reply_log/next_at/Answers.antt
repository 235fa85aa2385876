use Rattle.std.proofs.Common.{◌≡◌, ◌∙◌, ◌<◌, ap, length, get_or, arith}
use Rattle.std.proofs.lemmas.List.{get_or_read}
use Rattle.replay_log.specs.inner.Places.{no_log}
use Rattle.replay_log.specs.Types.{Log}
use Rattle.replay_log.proofs.LeftLogs.{gives_next, diverges_next}
use Rattle.replay_log.proofs.SortedLogs.{set_sorted}
use Rattle.replay_log.proofs.reply_log.next_at.Goals as goal

pub returns-clause-reply : goal.returns-clause-reply
returns-clause-reply c =
    let logs = c.args.logs.now.items in
    let used = c.args.used.now.items in
    let i = c.args.index in
    let counted : i < length used = omega arith in
    let placed : c.index-place.result.now ≡ get_or used i 0 = get_or_read used i _ counted c.index-place.ensures 0 in
    let here : c.index_mut.result.now ≡ get_or logs i no_log = get_or_read logs i _ c.requires.within c.index_mut.ensures.value no_log in
    gives_next c.args.process.now c.args.text.now c.args.params.now logs used i c.index-place.result.now
    c.index_mut.result.now c.requires.at counted placed here c.take_next.new.log c.in_ok-reply.reply
    c.take_next.ensures.process c.take_next.ensures.rest c.in_ok-reply.ensures.reply

pub returns-clause-sorted : goal.returns-clause-sorted
returns-clause-sorted c =
    let logs = c.args.logs.now.items in
    let i = c.args.index in
    let here : c.index_mut.result.now ≡ get_or logs i no_log = get_or_read logs i _ c.requires.within c.index_mut.ensures.value no_log in
    set_sorted logs i c.take_next.new.log (c.take_next.ensures.process ∙ ap (λ (l : Log). l.process) here)

pub returns-in_err-reply-clause-diverged : goal.returns-in_err-reply-clause-diverged
returns-in_err-reply-clause-diverged c = λ stop.
    let logs = c.args.logs.now.items in
    let used = c.args.used.now.items in
    let i = c.args.index in
    let counted : i < length used = omega arith in
    let placed : c.index-place.result.now ≡ get_or used i 0 = get_or_read used i _ counted c.index-place.ensures 0 in
    let here : c.index_mut.result.now ≡ get_or logs i no_log = get_or_read logs i _ c.requires.within c.index_mut.ensures.value no_log in
    diverges_next c.args.process.now c.args.text.now c.args.params.now logs used i c.index-place.result.now
    c.index_mut.result.now c.requires.at counted placed here c.in_err-reply.ensures.diverged

pub returns-in_err-reply-clause-sorted : goal.returns-in_err-reply-clause-sorted
returns-in_err-reply-clause-sorted c =
    let logs = c.args.logs.now.items in
    let i = c.args.index in
    let here : c.index_mut.result.now ≡ get_or logs i no_log = get_or_read logs i _ c.requires.within c.index_mut.ensures.value no_log in
    set_sorted logs i c.take_next.new.log (c.take_next.ensures.process ∙ ap (λ (l : Log). l.process) here)
