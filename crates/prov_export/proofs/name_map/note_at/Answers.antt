use Rattle.std.proofs.Common.{◌∙◌, sym}
use Rattle.std.proofs.lemmas.Result.{on_ok_weaker}
use Rattle.prov_export.specs.inner.Names.{names_of}
use Rattle.prov_export.proofs.NameMaps.{first_stays, new_noted}
use Rattle.prov_export.proofs.name_map.note_at.Goals as goal

pub returns-in-Some : goal.returns-in-Some
returns-in-Some c =
    first_stays (names_of c.args.names.now) c.args.place c.args.name.now c.in-Some._first.now (sym c.in-Some.ensures)

pub returns-in-None : goal.returns-in-None
returns-in-None c =
    on_ok_weaker c.put_name.result (λ put place.
    put place ∙ new_noted (names_of c.args.names.now) c.args.place c.args.name.now (sym c.in-None.ensures) place) c.put_name.ensures
