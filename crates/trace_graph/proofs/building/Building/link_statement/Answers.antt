use Rattle.std.proofs.Common.{◌∙◌, sym, ap, subst, ℕ}
use Rattle.trace_graph.specs.Types.{Ask, Reply}
use Rattle.trace_graph.specs.Graph.{Parts, place_in}
use Rattle.trace_graph.specs.inner.Building.{parts_of, with_place, with_noted, IsAt}
use Rattle.trace_graph.proofs.KnownPlaces.{ask_at, reply_at, statement_placed}
use Rattle.trace_graph.proofs.building.Building.link_statement.Goals as goal

pub returns-clause-parts : goal.returns-clause-parts
returns-clause-parts c =
    let from : ℕ = c.in_ok-from.from in
    let ask : ℕ = c.in_ok-ask.ask in
    let reply : ℕ = c.in_ok-reply.reply in
    let first = c.in_ok-from.ensures.parts in
    let second = c.in_ok-ask.ensures.parts ∙ ap (λ (p : Parts). with_place p (Ask c.args.statement)) first in
    let third = c.in_ok-reply.ensures.parts ∙ ap (λ (p : Parts). with_place p (Reply c.args.statement)) second in
    c.in_ok-note_link-3.ensures
    ∙ ap (λ (p : Parts). with_noted p reply from c.args.time) (c.in_ok-note_link-2.ensures
    ∙ ap (λ (p : Parts). with_noted p ask reply c.args.time) (c.in_ok-note_link.ensures
    ∙ ap (λ (p : Parts). with_noted p from ask c.args.time) third))
    ∙ statement_placed (parts_of c.args.self.now) c.args.time c.args.process c.args.statement from ask reply c.in_ok-from.ensures.place
    (c.in_ok-ask.ensures.place ∙ ap (λ (p : Parts). place_in p.nodes (Ask c.args.statement)) first)
    (c.in_ok-reply.ensures.place ∙ ap (λ (p : Parts). place_in p.nodes (Reply c.args.statement)) second)

pub returns-clause-statement : goal.returns-clause-statement
returns-clause-statement c =
    let from : ℕ = c.in_ok-from.from in
    let ask : ℕ = c.in_ok-ask.ask in
    let reply : ℕ = c.in_ok-reply.reply in
    let first = c.in_ok-from.ensures.parts in
    let second = c.in_ok-ask.ensures.parts ∙ ap (λ (p : Parts). with_place p (Ask c.args.statement)) first in
    let third = c.in_ok-reply.ensures.parts ∙ ap (λ (p : Parts). with_place p (Reply c.args.statement)) second in
    let all =
    c.in_ok-note_link-3.ensures
    ∙ ap (λ (p : Parts). with_noted p reply from c.args.time) (c.in_ok-note_link-2.ensures
    ∙ ap (λ (p : Parts). with_noted p ask reply c.args.time) (c.in_ok-note_link.ensures
    ∙ ap (λ (p : Parts). with_noted p from ask c.args.time) third)) in
    subst (λ (p : Parts). IsAt p.nodes (Ask c.args.statement) ask) (sym all)
    (ask_at (parts_of c.args.self.now) c.args.process c.args.statement ask
    (c.in_ok-ask.ensures.place ∙ ap (λ (p : Parts). place_in p.nodes (Ask c.args.statement)) first))

pub returns-clause-reply : goal.returns-clause-reply
returns-clause-reply c =
    let from : ℕ = c.in_ok-from.from in
    let ask : ℕ = c.in_ok-ask.ask in
    let reply : ℕ = c.in_ok-reply.reply in
    let first = c.in_ok-from.ensures.parts in
    let second = c.in_ok-ask.ensures.parts ∙ ap (λ (p : Parts). with_place p (Ask c.args.statement)) first in
    let third = c.in_ok-reply.ensures.parts ∙ ap (λ (p : Parts). with_place p (Reply c.args.statement)) second in
    let all =
    c.in_ok-note_link-3.ensures
    ∙ ap (λ (p : Parts). with_noted p reply from c.args.time) (c.in_ok-note_link-2.ensures
    ∙ ap (λ (p : Parts). with_noted p ask reply c.args.time) (c.in_ok-note_link.ensures
    ∙ ap (λ (p : Parts). with_noted p from ask c.args.time) third)) in
    subst (λ (p : Parts). IsAt p.nodes (Reply c.args.statement) reply) (sym all)
    (reply_at (parts_of c.args.self.now) c.args.process c.args.statement reply
    (c.in_ok-reply.ensures.place ∙ ap (λ (p : Parts). place_in p.nodes (Reply c.args.statement)) second))
