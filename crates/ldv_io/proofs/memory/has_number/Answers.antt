use Rattle.std.proofs.Common.{◌↔◌, IsTrue, subst, sym}
use Rattle.std.specs.Prelude.{Contains}
use Rattle.ldv_io.proofs.Search.{is_ok-iff-Contains}
use Rattle.ldv_io.proofs.memory.has_number.Goals as goal

pub returns : goal.returns
returns c = subst (λ b. IsTrue b ↔ Contains c.args.failing.now c.args.number) (sym c.is_ok.ensures.value) (is_ok-iff-Contains c.args.failing.now c.args.number c.binary_search.result c.binary_search.ensures.position c.requires)
