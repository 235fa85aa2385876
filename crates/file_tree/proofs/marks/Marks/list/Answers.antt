use Rattle.std.proofs.Common.{◌∙◌, sym, ap, map, string_bytes}
use Rattle.std.specs.Map.Iter.{deref}
use Rattle.std.proofs.lemmas.Map.Iter.{iter_end}
use Rattle.file_tree.proofs.Seen.{seen_list}
use Rattle.file_tree.proofs.Views.{map_shown}
use Rattle.file_tree.proofs.marks.Marks.list.Goals as goal

pub returns : goal.returns
returns c =
    let all = (iter_end deref c.self.inside.paths.keys c.loop-path.yielded _ _ _ _ (c.into_iter-path-iterator.ensures.into_iter_gives ∙ c.iter-path-items.ensures.rest) c.loop-path.yielded_by c.in-None.is c.next.ensures.steps).0 in
    c.loop-path.invariant ∙ map_shown c.loop-path.yielded ∙ ap (map string_bytes) all ∙ sym (seen_list c.self.inside.paths.keys c.iter-path-items.ensures.ordered) ∙ c.self.view_is
