use Rattle.std.proofs.Common.{◌≡◌, ◌++◌, List, ℕ, ap, ◌∙◌, append_assoc}
use Rattle.std.specs.Int.{w32, w64, to_be_bytes}
use Rattle.std.proofs.lemmas.Result.{on_ok_weaker}
use Rattle.package_layout.specs.Whole.{parts}
use Rattle.package_layout.proofs.sections.encode_numbers.Goals as goal

in_a_row : (a b c d : List ℕ) → ((a ++ b) ++ c) ++ d ≡ a ++ (b ++ (c ++ d))
in_a_row a b c d = simp append_assoc

pub returns-clause-bytes : goal.returns-clause-bytes
returns-clause-bytes c =
    let p = c.args.«package».now in
    let rest : List ℕ = parts c.args.version p in
    let seed = to_be_bytes w64 p.seed in
    let steps = to_be_bytes w32 p.steps in
    on_ok_weaker c.encode_parts.result
    (λ e. e ∙ ap (λ (l : List ℕ). l ++ rest) (c.in_ok-encode_u32.ensures ∙ ap (λ (l : List ℕ). l ++ steps) c.in_ok-encode_u64.ensures) ∙ in_a_row c.args.to.now seed steps rest)
    c.encode_parts.ensures.bytes
