use Rattle.std.proofs.Common.{ap, ◌∙◌}
use Rattle.serde_json.specs.Find.{as_str}
use Rattle.world_json.specs.Shape.{◌>>=◌, array_of, column_from, column_of}
use Rattle.world_json.proofs.TakenParts.{then_taken}
use Rattle.world_json.proofs.fast.items.ColumnFromTokens.from_tokens.Goals as goal

pub returns-clause-taken : goal.returns-clause-taken
returns-clause-taken c =
    then_taken (array_of as_str) column_of c.in_ok-texts.texts c.in_ok-column.column 1 c.args.reader.now c.take_array.new.reader c.in_ok-texts.ensures.taken
    (λ d e. ap (λ o. o >>= column_from) e ∙ c.in_ok-column.ensures.ok)
