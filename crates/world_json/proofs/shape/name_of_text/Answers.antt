use Rattle.std.proofs.Common.{sym, subst}
use Rattle.std.proofs.lemmas.Str.{IsUtf8-string_bytes}
use Rattle.std.specs.Str.{IsUtf8}
use Rattle.world_json.proofs.shape.name_of_text.Goals as goal

pub returns-clause-typed : goal.returns-clause-typed
returns-clause-typed c = subst IsUtf8 (sym c.of_string.ensures) (IsUtf8-string_bytes c.args.text)
