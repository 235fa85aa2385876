use Rattle.std.proofs.Common.{◌∙◌, ap}
use Rattle.lineage.proofs.Unions.{union_none}
use Rattle.lineage.specs.Lineage.{Lineage, union_of}
use Rattle.lineage.proofs.answer.copy_of.Goals as goal

pub returns : goal.returns
returns c = c.in_ok-unite_rows.ensures.ok ∙ ap (λ (s : Lineage). union_of s c.args.rows.now) c.empty-copy.ensures ∙ union_none c.args.rows.now
