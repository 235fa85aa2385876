use Rattle.std.proofs.Common.{◌∙◌, ℕ, List, string_bytes, sym, ap}
use Rattle.std.specs.Option.{option_or}
use Rattle.serde_json.specs.View.{view, members_view}
use Rattle.serde_json.proofs.Views.{Entry}
use Rattle.prov_export.specs.inner.Names.{names_of}
use Rattle.prov_export.specs.Reading.{name_if, named_at}
use Rattle.prov_export.proofs.NameMaps.{left_noted, option_or-None}
use Rattle.prov_export.proofs.name_map.note_all.Goals as goal

pub loop-name-init : goal.loop-name-init
loop-name-init c = λ place.
    ap (λ (es : List Entry). option_or (names_of c.args.names.now place) (named_at place (members_view es)))
    (c.into_iter-name-iterator.ensures.into_iter_gives ∙ c.iter-name-items.ensures.rest)

pub loop-name-preserved : goal.loop-name-preserved
loop-name-preserved c =
    let l = c.loop-name in
    let name : List ℕ = string_bytes c.in-Some.name.now in
    left_noted (names_of c.args.names.now) (names_of l.names) (names_of c.note.new.names) name (view c.in-Some.value.now)
    (members_view c.next.new.self) (members_view c.args.members.now.entries)
    (λ place. ap (λ (es : List Entry). option_or (names_of l.names place) (named_at place (members_view es))) (sym c.in-Some.ensures.steps)
    ∙ l.invariant place)
    (λ place. c.in_ok-note.ensures place
    ∙ ap (λ (text : List ℕ). option_or (names_of l.names place) (name_if place text (view c.in-Some.value.now))) c.as_str.ensures.value)

pub returns : goal.returns
returns c = λ place.
    option_or-None (names_of c.loop-name.names place)
    (option_or (names_of c.args.names.now place) (named_at place (members_view c.args.members.now.entries)))
    (ap (λ (es : List Entry). option_or (names_of c.loop-name.names place) (named_at place (members_view es))) (sym c.in-None.ensures.steps.0)
    ∙ c.loop-name.invariant place)
