use Rattle.std.proofs.Common.{sym, ◌∙◌}
use Rattle.ldv_value.proofs.Listings.{put_item}
use Rattle.ldv_value.proofs.refs_by.RefsBy.add_first.Goals as goal

pub returns-in-Ok-clause-ok : goal.returns-in-Ok-clause-ok
returns-in-Ok-clause-ok g c =
    put_item g.K.Ord.cmp g.met.K.Ord.total c.args.self.now.map c.insert.new.self c.args.key c.args.item.now c.new-items.result c.push.new.self
    (c.new-items.ensures ∙ sym c.requires) c.in_ok-push.ensures.ok c.in-Ok.ensures.updates.0
