use Rattle.std.proofs.Common.{◌≡◌, ◌++◌, List, ℕ, ap, ◌∙◌, append_assoc}
use Rattle.std.specs.Int.{w32, w64, to_be_bytes}
use Rattle.std.proofs.lemmas.Result.{on_ok_weaker}
use Rattle.joined_data.specs.Layout.{needs_spelling}
use Rattle.joined_data.proofs.encoding.encode_run_numbers.Goals as goal

in_a_row : (a b c d : List ℕ) → ((a ++ b) ++ c) ++ d ≡ a ++ (b ++ (c ++ d))
in_a_row a b c d = simp append_assoc

pub returns-clause-bytes : goal.returns-clause-bytes
returns-clause-bytes c =
    let run = c.args.run.now in
    let rest : List ℕ = needs_spelling run in
    let seed = to_be_bytes w64 run.seed in
    let steps = to_be_bytes w32 run.steps in
    on_ok_weaker c.encode_needs.result
    (λ e. e ∙ ap (λ (l : List ℕ). l ++ rest) (c.in_ok-encode_u32.ensures ∙ ap (λ (l : List ℕ). l ++ steps) c.in_ok-encode_u64.ensures) ∙ in_a_row c.args.to.now seed steps rest)
    c.encode_needs.ensures.bytes
