use Rattle.std.proofs.Common.{ℕ, List, Bor, bytes_eq, sym, ◌∙◌}
use Rattle.ldv_value.proofs.Lists.{list_any-map}
use Rattle.world_json.proofs.members.is_among.Goals as goal

pub returns : goal.returns
returns c = c.is_one_of.ensures ∙ sym (list_any-map (bytes_eq c.args.text.now) (λ (name : Bor (List ℕ)). name.now) c.args.names.now)
