use Rattle.prov_export.proofs.NameMaps.{put_there}
use Rattle.prov_export.proofs.name_map.put_name.Goals as goal

pub returns : goal.returns
returns c = put_there c.args.names.now c.insert.new.self c.args.place c.args.name c.in_ok-insert.ensures.updates
