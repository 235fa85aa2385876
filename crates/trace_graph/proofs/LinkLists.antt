-- Links one after another.
use Rattle.std.proofs.Common.{◌≡◌, List, [], ◌∷◌, ◌++◌, Option, Some, None, refl}
use Rattle.std.specs.Prelude.{option_to_list}
use Rattle.std.specs.List.{cons_option}
use Rattle.trace_graph.specs.inner.Building.{with_link, with_links}
use Rattle.trace_graph.specs.Graph.{Parts}
use Rattle.trace_graph.specs.Links.{Link}

pub with_more : (parts : Parts) (ls ms : List Link) → with_links parts (ls ++ ms) ≡ with_links (with_links parts ls) ms
with_more parts [] ms = refl
with_more parts (l ∷ ls) ms = with_more (with_link parts l) ls ms

pub with_option : (parts : Parts) (o : Option Link) (ls : List Link)
    → with_links parts (cons_option o ls) ≡ with_links (with_links parts (option_to_list o)) ls
with_option parts None ls = refl
with_option parts (Some l) ls = refl
