-- The objects of a document, as they lie in memory.
use Rattle.serde_json.specs.View.{members_view}
use Rattle.prov_export.specs.declared.objects.ObjectRefs.{ObjectRefs}
use Rattle.prov_export.specs.Reading.{Objects}

abbrev pub objects_seen : ObjectRefs → Objects
objects_seen o = record {
  entities = members_view o.entities.now.entries;
  activities = members_view o.activities.now.entries;
  used = members_view o.used.now.entries;
  generated = members_view o.generated.now.entries;
  derived = members_view o.derived.now.entries;
  informed = members_view o.informed.now.entries;
}
