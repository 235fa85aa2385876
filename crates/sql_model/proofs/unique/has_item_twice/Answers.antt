use Rattle.std.proofs.Common.{sym, ◌∙◌, ap}
use Rattle.std.specs.Ordering.{eq_by_cmp}
use Rattle.sql_model.proofs.Neighbours.{repeats-sorted}
use Rattle.sql_model.specs.Keys.{has_same_neighbours}
use Rattle.sql_model.proofs.unique.has_item_twice.Goals as goal

pub returns : goal.returns
returns g c =
    c.has_same_neighbours.ensures
    ∙ ap (has_same_neighbours (eq_by_cmp g.K.Ord.cmp)) c.as_slice.ensures.value
    ∙ sym (repeats-sorted g.K.Ord.cmp g.met.K.Ord.total c.args.items.items c.sort_unstable.new.self.items c.sort_unstable.ensures.permutation c.sort_unstable.ensures.sorted)
