use Rattle.std.proofs.Common.{◌≡◌, ◌∷◌, arith}
use Rattle.json.specs.Reads.{token_of}
use Rattle.world_json.proofs.TakenParts.{content_taken}
use Rattle.world_json.proofs.fast.file.take_content.Goals as goal

pub returns-in_ok-content-in-Some-clause-taken : goal.returns-in_ok-content-in-Some-clause-taken
returns-in_ok-content-in-Some-clause-taken c =
    let first : c.args.reader.now ≡ token_of c.in-Some.token ∷ c.next.new.self = grind arith in
    content_taken (token_of c.in-Some.token) c.in_ok-content-in-Some.content c.args.reader.now c.next.new.self c.content_from.new.reader first c.in_ok-content-in-Some.ensures.taken
