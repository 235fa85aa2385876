use Rattle.std.proofs.Common.{◌∙◌, sym}
use Rattle.serde_json.proofs.Views.{members_len-members_view}
use Rattle.prov_export.proofs.objects.count.Goals as goal

pub returns-clause-count : goal.returns-clause-count
returns-clause-count c = c.len.ensures.len ∙ sym (members_len-members_view c.args.members.now.entries)
