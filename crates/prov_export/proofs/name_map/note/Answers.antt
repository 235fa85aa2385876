use Rattle.std.proofs.Common.{◌∙◌, sym}
use Rattle.std.proofs.lemmas.Result.{on_ok_weaker}
use Rattle.serde_json.specs.View.{view}
use Rattle.prov_export.specs.inner.Names.{names_of}
use Rattle.prov_export.proofs.NameMaps.{member_noted, member_passed}
use Rattle.prov_export.proofs.name_map.note.Goals as goal

pub returns-in-None : goal.returns-in-None
returns-in-None c =
    member_passed (names_of c.args.names.now) c.args.name.now (view c.args.value.now) (sym c.in-None.ensures)

pub returns-in-Some : goal.returns-in-Some
returns-in-Some c =
    on_ok_weaker c.note_at.result (λ noted place.
    noted place ∙ member_noted (names_of c.args.names.now) c.args.name.now (view c.args.value.now) c.in-Some.place (sym c.in-Some.ensures) place)
    c.note_at.ensures
