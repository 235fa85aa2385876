use Rattle.std.proofs.Common.{◌≡◌, ℕ}
use Rattle.std.specs.Option.{option_or}
use Rattle.serde_json.specs.View.{members_view}
use Rattle.prov_export.specs.inner.Names.{names_of}
use Rattle.prov_export.specs.Reading.{named_at}
use Rattle.prov_export.proofs.name_map.note_all.Given as goal

abbrev pub invariant-loop-name : goal.invariant-loop-name
invariant-loop-name l = (place : ℕ)
    → option_or (names_of l.names place) (named_at place (members_view l.name-iterator))
    ≡ option_or (names_of l.fn.names place) (named_at place (members_view l.members.entries))
