use Rattle.serde_json.specs.View.{members_view}
use Rattle.prov_export.specs.inner.Names.{names_of}
use Rattle.prov_export.proofs.NameMaps.{none_at, both_noted}
use Rattle.prov_export.proofs.name_map.names_in.Goals as goal

pub returns : goal.returns
returns c =
    both_noted (names_of c.new-names.result) (names_of c.note_all.new.names) (names_of c.note_all-2.new.names)
    (members_view c.args.first.now.entries) (members_view c.args.second.now.entries)
    (none_at c.new-names.result c.new-names.ensures.empty) c.in_ok-note_all.ensures c.in_ok-note_all-2.ensures
