use Rattle.serde_json.specs.Data.{unsigned}
use Rattle.serde_json.specs.Read.{number_from}
use Rattle.std.proofs.Common.{false}
use Rattle.world_json.proofs.WrittenNumbers.{small_by}
use Rattle.world_json.proofs.fast.integer.small_of.Goals as goal

pub returns-in-Some : goal.returns-in-Some
returns-in-Some c = small_by c.small_number.result (number_from false c.args.numeral.now) (unsigned c.in-Some.n) c.in-Some.ensures c.small_number.ensures
