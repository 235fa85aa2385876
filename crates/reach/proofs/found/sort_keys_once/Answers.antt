use Rattle.reach.proofs.OnceLaws.{once_sorted, once_same}
use Rattle.reach.proofs.found.sort_keys_once.Goals as goal

pub returns-clause-sorted : goal.returns-clause-sorted
returns-clause-sorted c =
    once_sorted c.args.keys.items c.sort.new.self.items c.dedup.new.self.items c.sort.ensures.permutation c.in_ok-sort.ensures.sorted c.dedup.ensures.filtered

pub returns-clause-nodes : goal.returns-clause-nodes
returns-clause-nodes c =
    once_same c.args.keys.items c.sort.new.self.items c.dedup.new.self.items c.sort.ensures.permutation c.in_ok-sort.ensures.sorted c.dedup.ensures.filtered
