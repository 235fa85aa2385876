use Rattle.std.proofs.Common.{◌++◌, List, ℕ, ap, ◌∙◌}
use Rattle.std.proofs.lemmas.Result.{on_ok_weaker}
use Rattle.joined_data.proofs.CutSpellings.{cuts_spelled}
use Rattle.joined_data.proofs.encoding.encode_compact_joined.Goals as goal

pub returns-clause-whole : goal.returns-clause-whole
returns-clause-whole c = λ first second.
    on_ok_weaker c.encode_compact_sections.result
    (λ e. e ∙ ap (λ (l : List ℕ). c.args.to.now ++ l) (cuts_spelled c.args.joined.now first second))
    c.encode_compact_sections.ensures.bytes
