-- One event more of a trace.
use Rattle.std.proofs.Common.{◌≡◌, ◌∙◌, sym, ap, subst, ℕ, ◌+◌, ◌<◌, List, length, get_or, drop, IsTrue}
use Rattle.std.specs.Prelude.{nat_le}
use Rattle.ldv_value.proofs.Booleans.{and-second}
use Rattle.ldv_value.proofs.Places.{drop_item}
use Rattle.ldv_value.specs.Limits.{max_processes}
use Rattle.run_model.specs.ValidTrace.{made_after}
use Rattle.trace_graph.specs.Types.{Event}
use Rattle.trace_graph.specs.Graph.{Parts}
use Rattle.trace_graph.specs.Links.{event_links}
use Rattle.trace_graph.specs.inner.Building.{with_links, with_events, made_fits}
use Rattle.trace_graph.specs.NodeTexts.{act_texts, are_held, acts_held}

pub parts_step : (before linked settled : Parts) (made next : ℕ) (es : List Event) (i : ℕ) (e : Event) → i < length es → e ≡ get_or es i e
    → linked ≡ with_links before (event_links made e) → settled ≡ linked → next ≡ made_after made e.act
    → with_events settled next (drop (i + 1) es) ≡ with_events before made (drop i es)
parts_step before linked settled made next es i e within is links same more =
    let rest : List Event = drop (i + 1) es in
    ap (λ (p : Parts). with_events p next rest) (same ∙ links)
    ∙ ap (λ (n : ℕ). with_events (with_links before (event_links made e)) n rest) more
    ∙ ap (λ (others : List Event). with_events before made others) (sym (drop_item es i e within is))

pub fits_step : (made next : ℕ) (es : List Event) (i : ℕ) (e : Event) → i < length es → e ≡ get_or es i e → next ≡ made_after made e.act
    → IsTrue (made_fits made (drop i es)) → IsTrue (made_fits next (drop (i + 1) es))
fits_step made next es i e within is more fits =
    let rest : List Event = drop (i + 1) es in
    subst (λ (n : ℕ). IsTrue (made_fits n rest)) (sym more)
    (and-second (nat_le (made_after made e.act) max_processes) (made_fits (made_after made e.act) rest)
    (subst (λ (others : List Event). IsTrue (made_fits made others)) (drop_item es i e within is) fits))

pub held_step : (held : List (List ℕ)) (es : List Event) (i : ℕ) (e : Event) → i < length es → e ≡ get_or es i e
    → IsTrue (acts_held held (drop i es)) → IsTrue (acts_held held (drop (i + 1) es))
held_step held es i e within is all =
    and-second (are_held held (act_texts e.act)) (acts_held held (drop (i + 1) es))
    (subst (λ (others : List Event). IsTrue (acts_held held others)) (drop_item es i e within is) all)
