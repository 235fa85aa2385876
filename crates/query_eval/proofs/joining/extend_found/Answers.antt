use Rattle.std.proofs.Common.{◌≡◌, ◌∙◌, ap, sym, ◌++◌, [], Bool, List, ℕ, Option, append-nil}
use Rattle.std.specs.Option.{option_map_or}
use Rattle.ldv_value.specs.declared.refs_by.RefsBy.{RefsBy}
use Rattle.query_eval.specs.inner.Joining.{TieValues}
use Rattle.query_eval.specs.inner.Slots.{extended_by, slots_found, slots_listed, values_at}
use Rattle.query_eval.proofs.joining.extend_found.Goals as goal

pub returns-in-None-clause-rows : goal.returns-in-None-clause-rows
returns-in-None-clause-rows g c =
    let t : List ℕ → Bool = g.T.SlotTest.test c.args.test.now in
    let map : RefsBy TieValues ℕ = c.args.index.now.map in
    let none : [] ≡ slots_found map c.args.ties.now (values_at c.args.sources.now c.args.prefix.now) =
    c.in-None.ensures ∙ ap (λ (o : Option TieValues). option_map_or (slots_listed map) o []) c.in_ok-key.ensures in
    sym (append-nil c.args.made.now.rows) ∙ ap (λ (slots : List ℕ). c.args.made.now.rows ++ extended_by t c.args.prefix.now slots) none

pub returns-in_ok-extend_by-in-Some-clause-rows : goal.returns-in_ok-extend_by-in-Some-clause-rows
returns-in_ok-extend_by-in-Some-clause-rows g c =
    let t : List ℕ → Bool = g.T.SlotTest.test c.args.test.now in
    let map : RefsBy TieValues ℕ = c.args.index.now.map in
    c.in_ok-extend_by-in-Some.ensures.rows
    ∙ ap (λ (slots : List ℕ). c.args.made.now.rows ++ extended_by t c.args.prefix.now slots)
    (c.items.ensures ∙ c.in-Some.ensures ∙ ap (λ (o : Option TieValues). option_map_or (slots_listed map) o []) c.in_ok-key.ensures)
