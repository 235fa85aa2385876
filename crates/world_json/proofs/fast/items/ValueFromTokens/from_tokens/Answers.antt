use Rattle.std.proofs.Common.{◌≡◌, ◌∷◌, arith}
use Rattle.json.specs.Reads.{token_of}
use Rattle.world_json.proofs.TakenParts.{cell_taken}
use Rattle.world_json.proofs.fast.items.ValueFromTokens.from_tokens.Goals as goal

pub returns-in_ok-cell-in-Some-clause-taken : goal.returns-in_ok-cell-in-Some-clause-taken
returns-in_ok-cell-in-Some-clause-taken c =
    let first : c.args.reader.now ≡ token_of c.in-Some.token ∷ c.next.new.self = grind arith in
    cell_taken (token_of c.in-Some.token) c.in_ok-cell-in-Some.cell c.args.reader.now c.next.new.self first c.in_ok-cell-in-Some.ensures.cell
