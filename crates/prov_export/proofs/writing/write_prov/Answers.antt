use Rattle.std.proofs.Common.{◌∙◌, ap, List, ℕ, ◌++◌, [], ◌∷◌}
use Rattle.prov_export.specs.inner.Texts.{all_nodes_text, all_edges_text}
use Rattle.prov_export.proofs.TextLaws.{whole_text}
use Rattle.prov_export.proofs.writing.write_prov.Goals as goal

pub returns : goal.returns
returns c =
    c.in_ok-extend.ensures.ok
    ∙ ap (λ (t : List ℕ). t ++ 125 ∷ []) (c.in_ok-append_all_edges.ensures
    ∙ ap (λ (t : List ℕ). t ++ all_edges_text c.args.graph.now) (c.in_ok-append_all_nodes.ensures
    ∙ ap (λ (t : List ℕ). t ++ all_nodes_text c.args.graph.now) c.in_ok-text.ensures))
    ∙ whole_text c.args.graph.now
