use Rattle.std.proofs.Common.{◌≡◌, true, rules}
use Rattle.reach.specs.inner.Marks.{is_marked}
use Rattle.reach.proofs.MarkLaws.{marked_put}
use Rattle.reach.proofs.found.add_marked.Goals as goal

pub returns : goal.returns
returns c =
    let is : is_marked c.args.marks.now c.args.place ≡ true = search rules in
    marked_put c.args.keys.now.items c.push.new.self.items c.key_at-key.result c.args.nodes.now c.args.marks.now c.args.place
    c.requires.nodes c.key_at-key.ensures is c.in_ok-push.ensures.items
