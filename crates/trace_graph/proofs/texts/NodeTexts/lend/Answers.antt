-- A set finds each text that it has, and finds no other.
use Rattle.std.proofs.Common.{◌≡◌, ◌∙◌, sym, ap, subst, ℕ, List}
use Rattle.std.specs.Prelude.{Option, IfSome, option_copied, is_some}
use Rattle.std.proofs.lemmas.Map.Made.{IfSome-find_same}
use Rattle.std.proofs.lemmas.Slice.Eq.{bytes_eq-Decides}
use Rattle.ldv_value.proofs.Booleans.{false≢true}
use Rattle.trace_graph.proofs.texts.NodeTexts.lend.Goals as goal

pub unreachable-requires : goal.unreachable-requires
unreachable-requires c = absurd (false≢true (ap is_some (sym c.in-None.is) ∙ c.get.ensures.found ∙ c.requires))

pub returns : goal.returns
returns c =
    c.as_str.ensures
    ∙ subst (λ (found : Option (List ℕ)). IfSome found (λ (text : List ℕ). text ≡ c.args.text.now))
    (sym (ap option_copied (sym c.in-Some.is) ∙ c.get.ensures.key))
    (IfSome-find_same bytes_eq-Decides c.args.text.now c.args.self.now.held.keys)
