use Rattle.std.proofs.Common.{◌∙◌, ◌++◌, ap, sym}
use Rattle.std.proofs.lemmas.Result.{on_ok_weaker}
use Rattle.query_eval.specs.inner.Slots.{slots_listed}
use Rattle.query_eval.proofs.Indexes.{index_on, index_skips}
use Rattle.query_eval.proofs.index.add_known.Goals as goal

pub returns-in-None : goal.returns-in-None
returns-in-None c = λ key asked rest.
    ap (λ l. slots_listed c.args.map.now key ++ l) (index_skips c.args.ties.now c.args.rows.now c.args.slot.now rest (sym c.in-None.is ∙ c.in_ok-own.ensures) key)

pub returns-in-Some : goal.returns-in-Some
returns-in-Some c =
    on_ok_weaker c.add_asked.result
    (λ added key asked rest. index_on c.args.map.now c.add_asked.new.map c.args.ties.now c.in-Some.key c.args.rows.now c.args.slot.now rest (sym c.in-Some.is ∙ c.in_ok-own.ensures) key (added key asked))
    c.add_asked.ensures
