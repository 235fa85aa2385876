use Rattle.std.proofs.Common.{◌∙◌, ap, map, sym, List, ℕ}
use Rattle.std.specs.Prelude.{Option, Some}
use Rattle.std.proofs.lemmas.Result.{on_ok_weaker}
use Rattle.indexmap.specs.IndexMap.{insert_entry}
use Rattle.trace_graph.specs.inner.Building.{edge_at, span_with, same_pair}
use Rattle.trace_graph.specs.declared.span.Span.{Span}
use Rattle.trace_graph.proofs.SpanLaws.{timed, put_twice}
use Rattle.trace_graph.proofs.span.add_time.Goals as goal

pub returns-in-None : goal.returns-in-None
returns-in-None c =
    ap (map edge_at) c.in_ok-before.ensures.entries
    ∙ timed c.args.spans.now.entries (c.args.source, c.args.target) c.args.time c.span_with.result
    (c.span_with.ensures ∙ ap (λ (o : Option Span). span_with o c.args.time) (sym c.in-None.is ∙ c.in_ok-before.ensures.old))

pub returns-in-Some : goal.returns-in-Some
returns-in-Some c =
    let entries = c.args.spans.now.entries in
    let more : Span = span_with (Some c.in-Some.span) c.args.time in
    on_ok_weaker c.widen.result
    (λ is.
    ap (map edge_at) (is
    ∙ ap (λ (es : List ((ℕ × ℕ) × Span)). insert_entry same_pair es (c.args.source, c.args.target) more) c.in_ok-before.ensures.entries
    ∙ put_twice entries (c.args.source, c.args.target) c.span_with.result more)
    ∙ timed entries (c.args.source, c.args.target) c.args.time more
    (ap (λ (o : Option Span). span_with o c.args.time) (sym c.in-Some.is ∙ c.in_ok-before.ensures.old)))
    c.widen.ensures
