use Rattle.std.proofs.Common.{◌∙◌, sym, ap, subst, ℕ, List, [], IsTrue}
use Rattle.std.proofs.lemmas.Result.{IfOk-weaker}
use Rattle.trace_graph.specs.Types.{Event}
use Rattle.trace_graph.specs.NodeTexts.{event_texts, with_texts, are_held}
use Rattle.trace_graph.proofs.TextLaws.{all_held}
use Rattle.trace_graph.proofs.texts.NodeTexts.of_events.Goals as goal

pub returns : goal.returns
returns c =
    let texts : List (List ℕ) = event_texts c.args.events.now in
    IfOk-weaker c.texts_of.result _ _ (λ made is.
    subst (λ (held : List (List ℕ)). IsTrue (are_held held texts))
    (sym (is ∙ ap (λ (es : List Event). with_texts [] (event_texts es)) c.items.ensures)) (all_held [] texts)) c.texts_of.ensures
